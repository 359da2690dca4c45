use Rattle.std.proofs.Common.{◌≡◌, ◌≤◌, Bool, true, false, inl, inr, refl, sym, ap, ◌∙◌, arith}
use Rattle.frame_pool.specs.Pool.{base_of}
use Rattle.frame_pool.proofs.Held.{Moves-trans}
use Rattle.shadow_tables.specs.Entries.{entries_of}
use Rattle.shadow_tables.specs.Laws.Entries.{entries_of-none}
use Rattle.guest_ram.specs.Among.{is_among}
use Rattle.wedge_step.specs.Parts.{left_of}
use Rattle.wedge_step.specs.Ready.{left_out}
use Rattle.shadow_tables.specs.Sight.{sight}
use Rattle.wedge_step.proofs.Returning.{rules_but, through_ready, loaded_left, through_left, nothing_out, out_among}
use Rattle.machine_step.specs.Worked.{dropping}
use Rattle.wedge_step.proofs.Leaving.{no_way, loads_from, same_free}
use Rattle.wedge_step.proofs.close.drop_and_switch.Goals as goal
use Rattle.wedge_step.proofs.Bools.{not_true, not_false}

pub returns-clause-left : goal.returns-clause-left
returns-clause-left g c = λ back.
    let d = c.args.worked.now.dropped in
    let old = entries_of (g.S.Shadows.slots c.args.shadows.now c.args.ram.now) in
    loaded_left d c.args.notes_wanted old _ c.load.ensures.emptied back
    ∙ ap (λ (x : Bool). left_of x (dropping d old)) (sym c.is_lost-2.ensures)

pub returns-clause-shows : goal.returns-clause-shows
returns-clause-shows g c = λ image h a. c.load.ensures.shows image _ ((c.drop_by-changed.ensures.shown image).present h)
    ((c.drop_by-changed.ensures.shown image).others a)

pub returns-clause-ready : goal.returns-clause-ready
returns-clause-ready g c = λ m low has_tables_under h.
    let mid = c.drop_by-changed.new in
    let d = c.args.worked.now.dropped in
    let cpu = record c.args.worked.now.cpu { cr3 = c.args.before.now.cr3 } in
    let same = c.drop_by-changed.ensures.moved.moves.same.0 in
    let low_mid : m.frames ≤ base_of mid.pool = omega (arith, low, same) in
    let ready = rules_but g.S.Shadows (left_out d c.args.pages.now) (λ page. is_among page c.args.pages.now) m cpu cpu mid.shadows mid.ram
    refl refl refl (λ page o. out_among d c.args.pages.now page o)
    (c.drop_by-changed.ensures.ready m c.args.pages.now low h) in
    let p = c.load.ensures.ready m cpu c.args.worked.now.cpu low_mid refl refl refl
    ((c.drop_by-changed.ensures.shown m.image).present has_tables_under) ready in
    (p.0, λ back. p.1)

pub returns-then-is_through-clause-left : goal.returns-then-is_through-clause-left
returns-then-is_through-clause-left g c = λ back.
    let d = c.args.worked.now.dropped in
    let old = entries_of (g.S.Shadows.slots c.args.shadows.now c.args.ram.now) in
    let mid = c.drop_by-changed.new in
    through_left d c.drop_by-changed.result old _ (c.is_through.ensures.other c.if-is_through.true) c.drop_by-changed.ensures.left
    (λ gone. entries_of-none (g.S.Shadows.slots mid.shadows mid.ram) (c.drop_by-changed.ensures.changed gone).none)
    ∙ ap (λ (x : Bool). left_of x (dropping d old)) (sym c.is_lost.ensures)

pub returns-then-is_through-clause-ready : goal.returns-then-is_through-clause-ready
returns-then-is_through-clause-ready g c = λ m low has_tables_under h.
    let mid = c.drop_by-changed.new in
    let d = c.args.worked.now.dropped in
    let cpu = record c.args.worked.now.cpu { cr3 = c.args.before.now.cr3 } in
    let ready = through_ready g.S.Shadows (left_out d c.args.pages.now) m cpu c.args.worked.now.cpu mid.shadows mid.ram
    (c.is_through.ensures.same c.if-is_through.true) refl refl
    (λ page lt. elim (nothing_out d c.drop_by-changed.result c.args.pages.now page (c.is_through.ensures.other c.if-is_through.true))
    [ inl gone ↦ inl ((c.drop_by-changed.ensures.changed gone).none page lt) | inr free ↦ inr free ])
    (c.drop_by-changed.ensures.ready m c.args.pages.now low h) in
    (ready, λ back. absurd (let f : false ≡ true = back in cc))

pub returns-clause-has_tables_under : goal.returns-clause-has_tables_under
returns-clause-has_tables_under g c =
    λ indices o. c.load.ensures.has_tables_under indices (c.drop_by-changed.ensures.has_tables_under indices o)

pub drop_by-changed-requires-clause-page : goal.drop_by-changed-requires-clause-page
drop_by-changed-requires-clause-page g c = c.requires.page

pub returns-then-is_through-clause-has_tables_under : goal.returns-then-is_through-clause-has_tables_under
returns-then-is_through-clause-has_tables_under g c = c.drop_by-changed.ensures.has_tables_under

pub returns-then-is_through-clause-fewer : goal.returns-then-is_through-clause-fewer
returns-then-is_through-clause-fewer g c = c.drop_by-changed.ensures.fewer

pub returns-then-is_through-clause-notes_wanted : goal.returns-then-is_through-clause-notes_wanted
returns-then-is_through-clause-notes_wanted g c = λ w. refl

pub returns-clause-moved : goal.returns-clause-moved
returns-clause-moved g c = record {
  stands = c.load.ensures.moved.stands;
  owns = c.load.ensures.moved.owns;
  moves = Moves-trans _ _ _ _ _ _ _ _ _ c.drop_by-changed.ensures.moved.moves c.load.ensures.moved.moves;
}

pub returns-then-is_through-clause-moved : goal.returns-then-is_through-clause-moved
returns-then-is_through-clause-moved g c = c.drop_by-changed.ensures.moved

pub drop_by-changed-requires-clause-owned : goal.drop_by-changed-requires-clause-owned
drop_by-changed-requires-clause-owned g c = c.requires.owned

pub load-requires-clause-owned : goal.load-requires-clause-owned
load-requires-clause-owned g c = let m = c.drop_by-changed.ensures.moved in record { stands = m.stands; owns = m.owns }

pub returns-clause-leaves : goal.returns-clause-leaves
returns-clause-leaves g c = record {
  stay = λ rules cr3 all. absurd (let t = (c.is_through.ensures.loaded c.if-is_through.false cr3).1 in
      let f : false ≡ true = sym all ∙ t in cc);
  lost = λ rules cr3. absurd (rules (c.drop_by-changed.ensures.same (c.is_through.ensures.loaded c.if-is_through.false cr3).0).rules);
  loads = λ rules all w enough.
      let e = c.drop_by-changed.ensures in
      let mid = c.drop_by-changed.new in
      let no = not_true c.drop_by-changed.result (λ t. (e.changed t).rules rules) in
      let same = (e.same no).same all in
      loads_from g.S.Shadows c.args.worked.now.cpu.cr3 c.args.pages.now (sight g.S.Shadows c.load.new.shadows c.load.new.ram)
      c.args.shadows.now mid.shadows c.args.ram.now mid.ram same.0 same.1
      (c.load.ensures.loads w (same_free c.args.pool.now mid.pool c.args.ram.now mid.ram same.2 same.1 enough));
}

pub returns-then-is_through-clause-leaves : goal.returns-then-is_through-clause-leaves
returns-then-is_through-clause-leaves g c = record {
  stay = λ rules cr3 all.
      let e = c.drop_by-changed.ensures in
      let d = c.args.worked.now.dropped in
      let old = entries_of (g.S.Shadows.slots c.args.shadows.now c.args.ram.now) in
      let no = not_true c.drop_by-changed.result (λ t. (e.changed t).rules rules) in
      ((e.same no).beside, e.left all ∙ ap (λ (x : Bool). left_of x (dropping d old)) no);
  lost = λ rules cr3.
      let e = c.drop_by-changed.ensures in
      let mid = c.drop_by-changed.new in
      let yes = not_false c.drop_by-changed.result (λ f. rules (e.same f).rules) in
      ((e.changed yes).beside, entries_of-none (g.S.Shadows.slots mid.shadows mid.ram) (e.changed yes).none);
  loads = λ rules all w enough.
      let e = c.drop_by-changed.ensures in
      let no = not_true c.drop_by-changed.result (λ t. (e.changed t).rules rules) in
      absurd (no_way c.drop_by-changed.result _ no all (c.is_through.ensures.other c.if-is_through.true));
}

pub returns-then-is_through-clause-shows : goal.returns-then-is_through-clause-shows
returns-then-is_through-clause-shows g c = λ image h a. (c.drop_by-changed.ensures.shown image).present h
