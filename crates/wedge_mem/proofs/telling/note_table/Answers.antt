use Rattle.std.proofs.Common.{List, ℕ, sym, subst, arith}
use Rattle.wedge_mem.specs.Settled.{LosesSome}
use Rattle.wedge_mem.proofs.Losing.{none-loses, one-loses}
use Rattle.wedge_mem.proofs.Told.{guest-one, none-lose}
use Rattle.wedge_mem.proofs.telling.note_table.Goals as goal

pub returns-then-frame-lt16384-clause-slots : goal.returns-then-frame-lt16384-clause-slots
returns-then-frame-lt16384-clause-slots g c =
    let s = c.args.shadows.now in let m = c.args.ram.now in let n = c.note.new in
    let old = g.S.Shadows.slots s m in let new = g.S.Shadows.slots n.self n.ram in
    subst (λ (fs : List ℕ). LosesSome fs old new) (sym (guest-one c.args.frame c.if-frame-lt16384.true))
    (one-loses c.args.frame old new (g.S.Shadows.write_protected s) (g.S.Shadows.write_protected n.self)
    c.note.ensures.known.write_protected c.note.ensures.slots
    (λ page slot l e. g.met.S.Shadows.barred s m page slot c.requires.stands l e))

pub returns-else-frame-lt16384-clause-slots : goal.returns-else-frame-lt16384-clause-slots
returns-else-frame-lt16384-clause-slots g c = none-loses _ _

pub returns-else-frame-lt16384-clause-other_roots : goal.returns-else-frame-lt16384-clause-other_roots
returns-else-frame-lt16384-clause-other_roots g c =
    none-lose c.args.frame (g.S.Shadows.other_roots c.args.shadows.now c.args.ram.now) (λ l. let n = c.if-frame-lt16384.false in
    absurd (omega (arith, l, n)))
