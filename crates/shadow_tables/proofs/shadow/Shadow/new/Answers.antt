use Rattle.shadow_tables.specs.Laws.Entries.{entries_of-none}
use Rattle.shadow_tables.proofs.Fills.{made, made-moves, made-owns}
use Rattle.shadow_tables.proofs.shadow.Shadow.new.Goals as goal

pub returns-clause-empty : goal.returns-clause-empty
returns-clause-empty c =
    made (record { kernel = c.taken-kernel.result; user = c.taken-user.result }) c.args.pool.now c.taken-kernel.new.pool
    c.taken-user.new.pool
    c.args.ram.now c.taken-kernel.new.ram c.taken-user.new.ram c.requires.stands c.taken-kernel.ensures c.taken-user.ensures

pub returns-clause-moves : goal.returns-clause-moves
returns-clause-moves c =
    made-moves (record { kernel = c.taken-kernel.result; user = c.taken-user.result }) c.args.pool.now c.taken-kernel.new.pool
    c.taken-user.new.pool
    c.args.ram.now c.taken-kernel.new.ram c.taken-user.new.ram c.requires.stands c.taken-kernel.ensures c.taken-user.ensures

pub returns-clause-owns : goal.returns-clause-owns
returns-clause-owns c =
    made-owns (record { kernel = c.taken-kernel.result; user = c.taken-user.result }) c.args.pool.now c.taken-kernel.new.pool
    c.taken-user.new.pool
    c.args.ram.now c.taken-kernel.new.ram c.taken-user.new.ram c.requires.stands c.taken-kernel.ensures c.taken-user.ensures

pub returns-clause-entries : goal.returns-clause-entries
returns-clause-entries c = entries_of-none _ (returns-clause-empty c).none
