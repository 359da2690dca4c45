use Rattle.std.proofs.Common.{List, ℕ, ap, sym, ◌∙◌}
use Rattle.asm_source.specs.Names.{holds}
use Rattle.asm_source.proofs.Keyed.{key_added}
use Rattle.asm_source.proofs.names.Names.add.Goals as goal

pub returns-clause-added : goal.returns-clause-added
returns-clause-added c =
    rw (← c.self.view_is) (key_added c.args.name.now c.self.inside.set.keys c.insert.new.self.keys c.in_ok-bytes.bytes
    c.in_ok-bytes.ensures.items
    (ap (λ (x : List (List ℕ)). holds x c.args.name.now) c.self.view_is ∙ (sym c.holds.ensures ∙ c.if-holds.false))
    c.in_ok-insert.ensures.keys)
