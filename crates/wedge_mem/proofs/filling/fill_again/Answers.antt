use Rattle.std.proofs.Common.{Option, refl, sym, ◌∙◌, subst}
use Rattle.paging.specs.declared.entry.Entry.{Entry}
use Rattle.frame_pool.proofs.Held.{Moves-refl}
use Rattle.shadow_tables.specs.Slots.{Turns}
use Rattle.wedge_mem.specs.Settled.{filled_by}
use Rattle.wedge_mem.proofs.Due.{served-not, serves-same}
use Rattle.wedge_mem.proofs.Rests.{rest-refl}
use Rattle.wedge_mem.proofs.filling.fill_again.Goals as goal

pub is_served-requires-clause-kept : goal.is_served-requires-clause-kept
is_served-requires-clause-kept g c = sym c.kept-entry.ensures.kept

pub returns-then-is_served-clause-turns : goal.returns-then-is_served-clause-turns
returns-then-is_served-clause-turns g c =
    let s = c.args.shadows.now in let m = c.args.ram.now in
    record {
      there =
          serves-same c.args.side c.args.wp (g.S.Shadows.write_protected s) (g.S.Shadows.slots s m c.args.page)
          (λ slot e. g.met.S.Shadows.barred s m c.args.page slot c.requires.stands c.requires.page e)
          (sym c.is_served.ensures ∙ c.if-is_served.true);
      others = λ q small n. refl;
    }

pub returns-then-is_served-clause-rest : goal.returns-then-is_served-clause-rest
returns-then-is_served-clause-rest g c = rest-refl g.S.Shadows c.args.shadows.now c.args.ram.now

pub returns-then-is_served-clause-moves : goal.returns-then-is_served-clause-moves
returns-then-is_served-clause-moves g c = Moves-refl _ _ _ c.requires.owns.stands

pub returns-then-is_served-clause-filled : goal.returns-then-is_served-clause-filled
returns-then-is_served-clause-filled g c = served-not _ _ (sym c.is_served.ensures ∙ c.if-is_served.true)

pub returns-clause-turns : goal.returns-clause-turns
returns-clause-turns g c =
    let s = g.S.Shadows.slots in let n = c.fill_page.new in
    subst (λ (o : Option Entry). Turns (s c.args.shadows.now c.args.ram.now) (s n.shadows n.ram) c.args.page
    (filled_by c.args.side c.args.wp (g.S.Shadows.write_protected c.args.shadows.now) o))
    c.kept-entry.ensures.kept c.fill_page.ensures.turns
