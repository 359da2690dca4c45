use Rattle.shadow_tables.specs.Slots.{roots, held}
use Rattle.frame_pool.proofs.Held.{Owns-moves}
use Rattle.shadow_tables.specs.Laws.Views.{in-kernel, in-user}
use Rattle.shadow_tables.specs.Laws.Entries.{entries_of-none}
use Rattle.shadow_tables.proofs.Fills.{half-owned, emptied, emptied-moves}
use Rattle.shadow_tables.proofs.shadow.Shadow.drop_all.Goals as goal

pub empty-requires : goal.empty-requires
empty-requires c = let s = c.args.self.now in record { all = roots s; owns = c.requires.owns; root = in-kernel s }

pub empty-requires-2 : goal.empty-requires-2
empty-requires-2 c =
    let s = c.args.self.now in
    half-owned s c.args.pool.now c.empty.new.pool c.args.ram.now c.empty.new.ram c.requires.owns
    (c.empty.ensures.empties (roots s) c.requires.owns (in-kernel s))

pub returns-clause-empty : goal.returns-clause-empty
returns-clause-empty c =
    let s = c.args.self.now in
    let a = c.empty.ensures.empties (roots s) c.requires.owns (in-kernel s) in
    let o = Owns-moves c.args.pool.now c.empty.new.pool c.args.ram.now c.empty.new.ram (held s c.args.ram.now) (held s c.empty.new.ram)
    c.requires.owns a.moves in
    emptied s c.args.pool.now c.empty.new.pool c.empty-2.new.pool c.args.ram.now c.empty.new.ram c.empty-2.new.ram c.requires.owns a
    (c.empty-2.ensures.empties (roots s) o (in-user s))

pub returns-clause-moves : goal.returns-clause-moves
returns-clause-moves c =
    let s = c.args.self.now in
    let a = c.empty.ensures.empties (roots s) c.requires.owns (in-kernel s) in
    let o = Owns-moves c.args.pool.now c.empty.new.pool c.args.ram.now c.empty.new.ram (held s c.args.ram.now) (held s c.empty.new.ram)
    c.requires.owns a.moves in
    emptied-moves s c.args.pool.now c.empty.new.pool c.empty-2.new.pool c.args.ram.now c.empty.new.ram c.empty-2.new.ram c.requires.owns a
    (c.empty-2.ensures.empties (roots s) o (in-user s))

pub returns-clause-owns : goal.returns-clause-owns
returns-clause-owns c =
    let s = c.args.self.now in
    let a = c.empty.ensures.empties (roots s) c.requires.owns (in-kernel s) in
    let o = Owns-moves c.args.pool.now c.empty.new.pool c.args.ram.now c.empty.new.ram (held s c.args.ram.now) (held s c.empty.new.ram)
    c.requires.owns a.moves in
    Owns-moves c.empty.new.pool c.empty-2.new.pool c.empty.new.ram c.empty-2.new.ram (held s c.empty.new.ram) (held s c.empty-2.new.ram) o
    (c.empty-2.ensures.empties (roots s) o (in-user s)).moves

pub returns-clause-entries : goal.returns-clause-entries
returns-clause-entries c = entries_of-none _ (returns-clause-empty c).none
