use Rattle.frame_pool.proofs.Held.{Moves-refl}
use Rattle.std.proofs.Common.{Bool, true, false, List, refl, sym, subst, ◌∙◌, arith}
use Rattle.std.proofs.lemmas.Bool.{both_ways}
use Rattle.shadow_tables.specs.OtherRoot.{OtherRoot}
use Rattle.wedge_step.specs.Standing.{AreOpen}
use Rattle.descriptors.specs.Controls.{wp_of}
use Rattle.wedge_step.specs.Ready.{AllOpen, leaving, left_out}
use Rattle.wedge_step.proofs.Opening.{none_open}
use Rattle.wedge_step.proofs.Readying.{none_pages, none_ready}
use Rattle.wedge_step.proofs.Returning.{rules_but, left_leaving}
use Rattle.wedge_step.proofs.Leaving.{stays_same}
use Rattle.wedge_step.proofs.close.drop_by.Goals as goal

pub returns-then-are_rules_changed-clause-fewer : goal.returns-then-are_rules_changed-clause-fewer
returns-then-are_rules_changed-clause-fewer g c =
    let none = none_pages g.S.Shadows c.drop_all.new.self c.drop_all.new.ram c.drop_all.ensures.entries c.drop_all.ensures.other_roots in
    omega (arith, none)

pub returns-then-not-is_all-clause-ready : goal.returns-then-not-is_all-clause-ready
returns-then-not-is_all-clause-ready g c = λ m pages low h.
    let same = c.are_rules_changed.ensures.same c.if-are_rules_changed.false in
    let d = c.args.worked.now.dropped in
    rules_but g.S.Shadows (λ page. false) (left_out d pages) m c.args.before.now
    (record c.args.worked.now.cpu { cr3 = c.args.before.now.cr3 }) c.drop_from.new.shadows c.drop_from.new.ram refl same.1
    same.0 (λ page o. refl)
    (c.drop_from.ensures.ready m c.args.before.now pages low (sym c.is_all.ensures ∙ c.if-not-is_all.true) h)

pub returns-else-not-is_all-clause-ready : goal.returns-else-not-is_all-clause-ready
returns-else-not-is_all-clause-ready g c = λ m pages low h.
    let same = c.are_rules_changed.ensures.same c.if-are_rules_changed.false in
    let d = c.args.worked.now.dropped in
    rules_but g.S.Shadows (leaving d pages) (left_out d pages) m c.args.before.now
    (record c.args.worked.now.cpu { cr3 = c.args.before.now.cr3 }) c.args.shadows.now c.args.ram.now refl same.1 same.0
    (λ page o. left_leaving d pages page (sym c.is_all.ensures ∙ c.if-not-is_all.false) o) h

pub returns-then-are_rules_changed-clause-ready : goal.returns-then-are_rules_changed-clause-ready
returns-then-are_rules_changed-clause-ready g c = λ m pages low h.
    none_ready g.S.Shadows (left_out c.args.worked.now.dropped pages) m (record c.args.worked.now.cpu { cr3 = c.args.before.now.cr3 })
    c.drop_all.new.self c.drop_all.new.ram
    (c.drop_all.ensures.known.cr3 ∙ h.cr3_is) c.drop_all.ensures.none c.drop_all.ensures.other_roots

pub drop_from-requires-clause-page : goal.drop_from-requires-clause-page
drop_from-requires-clause-page g c = c.requires.page

pub returns-then-are_rules_changed-clause-has_tables_under : goal.returns-then-are_rules_changed-clause-has_tables_under
returns-then-are_rules_changed-clause-has_tables_under g c = c.drop_all.ensures.has_tables_under

pub returns-then-not-is_all-clause-has_tables_under : goal.returns-then-not-is_all-clause-has_tables_under
returns-then-not-is_all-clause-has_tables_under g c = c.drop_from.ensures.has_tables_under

pub returns-then-not-is_all-clause-fewer : goal.returns-then-not-is_all-clause-fewer
returns-then-not-is_all-clause-fewer g c = c.drop_from.ensures.fewer

pub returns-else-not-is_all-clause-has_tables_under : goal.returns-else-not-is_all-clause-has_tables_under
returns-else-not-is_all-clause-has_tables_under g c = λ indices h. h

pub drop_all-requires-clause-stands : goal.drop_all-requires-clause-stands
drop_all-requires-clause-stands g c = c.requires.owned.stands

pub drop_all-requires-clause-owns : goal.drop_all-requires-clause-owns
drop_all-requires-clause-owns g c = c.requires.owned.owns

pub drop_from-requires-clause-owned : goal.drop_from-requires-clause-owned
drop_from-requires-clause-owned g c = c.requires.owned

pub returns-then-are_rules_changed-clause-moved : goal.returns-then-are_rules_changed-clause-moved
returns-then-are_rules_changed-clause-moved g c = let e = c.drop_all.ensures in record { stands = e.stands; owns = e.owns; moves = e.moves }

pub returns-then-not-is_all-clause-moved : goal.returns-then-not-is_all-clause-moved
returns-then-not-is_all-clause-moved g c = c.drop_from.ensures.moved

pub returns-else-not-is_all-clause-moved : goal.returns-else-not-is_all-clause-moved
returns-else-not-is_all-clause-moved g c = let o =
    c.requires.owned in record { stands = o.stands; owns = o.owns; moves = Moves-refl _ _ _ o.owns.stands }

pub returns-then-are_rules_changed-clause-shown : goal.returns-then-are_rules_changed-clause-shown
returns-then-are_rules_changed-clause-shown g c = λ image. record {
  present = λ h. none_open image _ (g.S.Shadows.slots c.drop_all.new.self c.drop_all.new.ram) c.drop_all.ensures.none;
  others = λ h. subst (λ (l : List OtherRoot). AllOpen image (wp_of c.args.worked.now.cpu) l) (sym c.drop_all.ensures.other_roots) tt;
}

pub returns-then-not-is_all-clause-shown : goal.returns-then-not-is_all-clause-shown
returns-then-not-is_all-clause-shown g c = λ image.
    let same = c.are_rules_changed.ensures.same c.if-are_rules_changed.false in
    record {
      present = λ h. subst (λ (w : Bool). AreOpen image w (g.S.Shadows.slots c.drop_from.new.shadows c.drop_from.new.ram)) (sym same.0)
          ((c.drop_from.ensures.shown image _).present h);
      others = λ h. subst (λ (w : Bool). AllOpen image w (g.S.Shadows.other_roots c.drop_from.new.shadows c.drop_from.new.ram)) (sym same.0)
          ((c.drop_from.ensures.shown image _).others h);
    }

pub returns-else-not-is_all-clause-shown : goal.returns-else-not-is_all-clause-shown
returns-else-not-is_all-clause-shown g c = λ image.
    let same = c.are_rules_changed.ensures.same c.if-are_rules_changed.false in
    record {
      present = λ h. subst (λ (w : Bool). AreOpen image w (g.S.Shadows.slots c.args.shadows.now c.args.ram.now)) (sym same.0) h;
      others = λ h. subst (λ (w : Bool). AllOpen image w (g.S.Shadows.other_roots c.args.shadows.now c.args.ram.now)) (sym same.0) h;
    }

pub returns-then-are_rules_changed-clause-left : goal.returns-then-are_rules_changed-clause-left
returns-then-are_rules_changed-clause-left g c = λ no. c.drop_all.ensures.entries

pub returns-then-not-is_all-clause-left : goal.returns-then-not-is_all-clause-left
returns-then-not-is_all-clause-left g c = λ no. c.drop_from.ensures.entries

pub returns-else-not-is_all-clause-left : goal.returns-else-not-is_all-clause-left
returns-else-not-is_all-clause-left g c = λ no. absurd (both_ways _ no (sym c.is_all.ensures ∙ c.if-not-is_all.false))

pub returns-then-are_rules_changed-clause-changed : goal.returns-then-are_rules_changed-clause-changed
returns-then-are_rules_changed-clause-changed g c = λ yes.
    let e = c.drop_all.ensures in
    record {
      rules = c.are_rules_changed.ensures.other c.if-are_rules_changed.true;
      none = e.none;
      beside = record { notes = e.known.read_from; marks = e.known.stale; others = e.other_roots };
    }

pub returns-then-not-is_all-clause-changed : goal.returns-then-not-is_all-clause-changed
returns-then-not-is_all-clause-changed g c = λ yes. absurd (both_ways false refl yes)

pub returns-else-not-is_all-clause-changed : goal.returns-else-not-is_all-clause-changed
returns-else-not-is_all-clause-changed g c = λ yes. absurd (both_ways false refl yes)

pub returns-then-are_rules_changed-clause-same : goal.returns-then-are_rules_changed-clause-same
returns-then-are_rules_changed-clause-same g c = λ no. absurd (both_ways true no refl)

pub returns-then-not-is_all-clause-same : goal.returns-then-not-is_all-clause-same
returns-then-not-is_all-clause-same g c = λ no. record {
  rules = c.are_rules_changed.ensures.same c.if-are_rules_changed.false;
  beside = c.drop_from.ensures.stay (sym c.is_all.ensures ∙ c.if-not-is_all.true);
  same = λ all. absurd (both_ways _ (sym c.is_all.ensures ∙ c.if-not-is_all.true) all);
}

pub returns-else-not-is_all-clause-same : goal.returns-else-not-is_all-clause-same
returns-else-not-is_all-clause-same g c = λ no. record {
  rules = c.are_rules_changed.ensures.same c.if-are_rules_changed.false;
  beside = stays_same _;
  same = λ all. (refl, refl, refl);
}
