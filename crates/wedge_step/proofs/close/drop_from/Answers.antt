use Rattle.frame_pool.proofs.Held.{Owns-moves, Moves-refl}
use Rattle.std.proofs.Common.{◌≡◌, ℕ, ◌/◌, false, None, inl, inr, refl, sym, subst, ◌∙◌, arith}
use Rattle.std.proofs.lemmas.Bool.Decides.{eqb_tells}
use Rattle.shadow_tables.proofs.Lists.{within-same}
use Rattle.machine_step.specs.declared.worked.Dropped.{Dropped}
use Rattle.machine_step.specs.declared.worked.Dropped.TheVariants as dropped
use Rattle.wedge_step.specs.Ready.{AllOpen, IsReadyBut, leaving}
use Rattle.wedge_step.proofs.Memories.{front_same, shown_same}
use Rattle.wedge_step.proofs.Opening.{none_open, turned_open, lost_open}
use Rattle.wedge_step.proofs.Parts.{part_join, part_same, dropped_part}
use Rattle.wedge_step.proofs.Readying.{fewer_ready, none_pages}
use Rattle.wedge_step.proofs.Returning.{fewer_pages}
use Rattle.wedge_step.proofs.Shedding.{same_shed, open_shed}
use Rattle.wedge_step.proofs.Leaving.{stays_by, stays_same}
use Rattle.wedge_step.proofs.close.drop_from.Goals as goal

pub returns-in-Page-clause-fewer : goal.returns-in-Page-clause-fewer
returns-in-Page-clause-fewer g c =
    fewer_pages _ _ _ _ (part_join _ _ _ (part_same _ _ c.drop_page.ensures.entries) (dropped_part (dropped.Page c.in-Page.page) _))
    (same_shed _ _ c.drop_page.ensures.beside.other_roots)

pub returns-in-Dir-clause-fewer : goal.returns-in-Dir-clause-fewer
returns-in-Dir-clause-fewer g c =
    fewer_pages _ _ _ _ (part_join _ _ _ (part_same _ _ c.drop_dir.ensures.entries) (dropped_part (dropped.Dir c.in-Dir.index) _))
    (same_shed _ _ c.drop_dir.ensures.beside.other_roots)

pub returns-in-Page-clause-ready : goal.returns-in-Page-clause-ready
returns-in-Page-clause-ready g c = λ m cpu pages low all h.
    let moves = c.drop_page.ensures.moves c.args.pool.now c.requires.owned.owns in
    let front =
    front_same m.frames c.args.pool.now c.args.pool.now c.args.ram.now c.drop_page.new.ram _ _ low c.requires.owned.owns moves in
    fewer_ready g.S.Shadows (leaving (dropped.Page c.in-Page.page) pages) (λ page. false) m cpu c.args.shadows.now c.drop_page.new.self
    c.args.ram.now c.drop_page.new.ram c.drop_page.ensures.beside.cr3
    (λ un. sym c.drop_page.ensures.beside.stale ∙ un) (λ f n. c.drop_page.ensures.beside.read_from f ∙ n)
    (λ page lt o. elim (eqb_tells page c.in-Page.page) [
      | inl e ↦ inl (subst (λ (k : ℕ). g.S.Shadows.slots c.drop_page.new.self c.drop_page.new.ram k ≡ None) (sym e.1)
          c.drop_page.ensures.turns.there)
      | inr n ↦ inr (n.0, within-same _ _ (c.drop_page.ensures.turns.others page lt n.1))
    ])
    (same_shed _ _ c.drop_page.ensures.beside.other_roots) (shown_same m c.args.ram.now c.drop_page.new.ram front)
    (subst (λ (d : Dropped). IsReadyBut g.S.Shadows (leaving d pages) m cpu c.args.shadows.now c.args.ram.now) c.in-Page.is h)

pub returns-in-Dir-clause-ready : goal.returns-in-Dir-clause-ready
returns-in-Dir-clause-ready g c = λ m cpu pages low all h.
    let moves = c.drop_dir.ensures.moves c.args.pool.now c.requires.owned.owns in
    let front = front_same m.frames c.args.pool.now c.args.pool.now c.args.ram.now c.drop_dir.new.ram _ _ low c.requires.owned.owns moves in
    fewer_ready g.S.Shadows (leaving (dropped.Dir c.in-Dir.index) pages) (λ page. false) m cpu c.args.shadows.now c.drop_dir.new.self
    c.args.ram.now c.drop_dir.new.ram c.drop_dir.ensures.beside.cr3
    (λ un. sym c.drop_dir.ensures.beside.stale ∙ un) (λ f n. c.drop_dir.ensures.beside.read_from f ∙ n)
    (λ page lt o. elim (eqb_tells (page / 1024) c.in-Dir.index) [
      | inl e ↦ inl (c.drop_dir.ensures.loses.gone page lt e.1)
      | inr n ↦ inr (n.0, within-same _ _ (c.drop_dir.ensures.loses.others page lt n.1))
    ])
    (same_shed _ _ c.drop_dir.ensures.beside.other_roots) (shown_same m c.args.ram.now c.drop_dir.new.ram front)
    (subst (λ (d : Dropped). IsReadyBut g.S.Shadows (leaving d pages) m cpu c.args.shadows.now c.args.ram.now) c.in-Dir.is h)

pub returns-in-All-clause-fewer : goal.returns-in-All-clause-fewer
returns-in-All-clause-fewer g c =
    let none = none_pages g.S.Shadows c.drop_all.new.self c.drop_all.new.ram c.drop_all.ensures.entries c.drop_all.ensures.other_roots in
    omega (arith, none)

pub returns-in-Nothing-clause-stay : goal.returns-in-Nothing-clause-stay
returns-in-Nothing-clause-stay g c = λ all. stays_same _

pub returns-in-Page-clause-stay : goal.returns-in-Page-clause-stay
returns-in-Page-clause-stay g c = λ all. let e = c.drop_page.ensures.beside in stays_by _ _ e.read_from e.stale e.other_roots

pub returns-in-Dir-clause-stay : goal.returns-in-Dir-clause-stay
returns-in-Dir-clause-stay g c = λ all. let e = c.drop_dir.ensures.beside in stays_by _ _ e.read_from e.stale e.other_roots

pub returns-in-Page-clause-entries : goal.returns-in-Page-clause-entries
returns-in-Page-clause-entries g c = rw c.in-Page.is c.drop_page.ensures.entries

pub returns-in-Page-clause-has_tables_under : goal.returns-in-Page-clause-has_tables_under
returns-in-Page-clause-has_tables_under g c = c.drop_page.ensures.has_tables_under

pub drop_page-requires-clause-stands : goal.drop_page-requires-clause-stands
drop_page-requires-clause-stands g c = c.requires.owned.stands

pub returns-in-Dir-clause-entries : goal.returns-in-Dir-clause-entries
returns-in-Dir-clause-entries g c = rw c.in-Dir.is c.drop_dir.ensures.entries

pub returns-in-Dir-clause-has_tables_under : goal.returns-in-Dir-clause-has_tables_under
returns-in-Dir-clause-has_tables_under g c = c.drop_dir.ensures.has_tables_under

pub drop_dir-requires-clause-stands : goal.drop_dir-requires-clause-stands
drop_dir-requires-clause-stands g c = c.requires.owned.stands

pub returns-in-All-clause-entries : goal.returns-in-All-clause-entries
returns-in-All-clause-entries g c = rw c.in-All.is c.drop_all.ensures.entries

pub returns-in-All-clause-has_tables_under : goal.returns-in-All-clause-has_tables_under
returns-in-All-clause-has_tables_under g c = c.drop_all.ensures.has_tables_under

pub drop_all-requires-clause-stands : goal.drop_all-requires-clause-stands
drop_all-requires-clause-stands g c = c.requires.owned.stands

pub drop_all-requires-clause-owns : goal.drop_all-requires-clause-owns
drop_all-requires-clause-owns g c = c.requires.owned.owns

pub returns-in-Nothing-clause-entries : goal.returns-in-Nothing-clause-entries
returns-in-Nothing-clause-entries g c = rw c.in-Nothing.is refl

pub returns-in-Nothing-clause-has_tables_under : goal.returns-in-Nothing-clause-has_tables_under
returns-in-Nothing-clause-has_tables_under g c = λ indices h. h

pub returns-in-Nothing-clause-moved : goal.returns-in-Nothing-clause-moved
returns-in-Nothing-clause-moved g c =
    record { stands = c.requires.owned.stands; owns = c.requires.owned.owns; moves = Moves-refl _ _ _ c.requires.owned.owns.stands }

pub returns-in-Nothing-clause-shown : goal.returns-in-Nothing-clause-shown
returns-in-Nothing-clause-shown g c = λ image wp. record { present = λ h. h; others = λ h. h }

pub returns-in-Page-clause-moved : goal.returns-in-Page-clause-moved
returns-in-Page-clause-moved g c = record {
  stands = c.drop_page.ensures.stands;
  owns = Owns-moves _ _ _ _ _ _ c.requires.owned.owns (c.drop_page.ensures.moves c.args.pool.now c.requires.owned.owns);
  moves = c.drop_page.ensures.moves c.args.pool.now c.requires.owned.owns;
}

pub returns-in-Page-clause-shown : goal.returns-in-Page-clause-shown
returns-in-Page-clause-shown g c = λ image wp. record {
  present = λ h. turned_open image wp _ _ c.in-Page.page c.drop_page.ensures.turns h;
  others = λ h. open_shed image wp _ _ (same_shed _ _ c.drop_page.ensures.beside.other_roots) h;
}

pub returns-in-Dir-clause-moved : goal.returns-in-Dir-clause-moved
returns-in-Dir-clause-moved g c = record {
  stands = c.drop_dir.ensures.stands;
  owns = Owns-moves _ _ _ _ _ _ c.requires.owned.owns (c.drop_dir.ensures.moves c.args.pool.now c.requires.owned.owns);
  moves = c.drop_dir.ensures.moves c.args.pool.now c.requires.owned.owns;
}

pub returns-in-Dir-clause-shown : goal.returns-in-Dir-clause-shown
returns-in-Dir-clause-shown g c = λ image wp. record {
  present = λ h. lost_open image wp _ _ c.in-Dir.index c.drop_dir.ensures.loses h;
  others = λ h. open_shed image wp _ _ (same_shed _ _ c.drop_dir.ensures.beside.other_roots) h;
}

pub returns-in-All-clause-moved : goal.returns-in-All-clause-moved
returns-in-All-clause-moved g c =
    record { stands = c.drop_all.ensures.stands; owns = c.drop_all.ensures.owns; moves = c.drop_all.ensures.moves }

pub returns-in-All-clause-shown : goal.returns-in-All-clause-shown
returns-in-All-clause-shown g c = λ image wp. record {
  present = λ h. none_open image wp _ c.drop_all.ensures.none;
  others = λ h. subst (AllOpen image wp) (sym c.drop_all.ensures.other_roots) tt;
}
