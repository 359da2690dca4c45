use Rattle.std.proofs.Common.{◌≡◌, ℕ, ◌≤◌, List, length, false, sym, subst, ◌∙◌, arith}
use Rattle.std.proofs.lemmas.Bool.{both_ways, ltb-true, ltb-false}
use Rattle.frame_pool.specs.Pool.{free_list}
use Rattle.frame_pool.proofs.Held.{Owns-moves}
use Rattle.guest_ram.specs.Among.{is_among}
use Rattle.wedge_step.proofs.Memories.{front_same, shown_same}
use Rattle.shadow_tables.specs.OtherRoot.{OtherRoot}
use Rattle.wedge_step.specs.Ready.{AllOpen}
use Rattle.wedge_step.proofs.Dropping.{Drops, drops}
use Rattle.wedge_step.proofs.Opening.{none_open, some_open}
use Rattle.wedge_step.proofs.Readying.{fewer_ready, none_ready, none_pages}
use Rattle.wedge_step.proofs.Returning.{fewer_pages, some_part, chosen_out}
use Rattle.wedge_step.proofs.Shedding.{same_shed, open_shed}
use Rattle.wedge_step.proofs.Leaving.{stays_by}
use Rattle.wedge_step.proofs.close.make_way.Given.{Over}
use Rattle.wedge_step.proofs.close.make_way.Goals as goal
use Rattle.wedge_step.proofs.close.make_way.Goals.{then-notes_wanted, else-notes_wanted}

-- all was dropped: notes are wanted, or frames lack
lacking : (g : Over) (c : goal.After-drop_all g) → c.args.notes_wanted ≡ false → 2 ≤ length (free_list c.args.pool.now c.args.ram.now) → ⊥
lacking g c unwanted enough =
    elim c.if-notes_wanted.branch [
      | then-notes_wanted w ↦ both_ways c.args.notes_wanted unwanted w.if-notes_wanted.true
      | else-notes_wanted w ↦ (let short = ltb-true _ _ (sym w.value-is ∙ c.if-free-lt2.true) in
          let count = w.free.ensures.count c.args.ram.now in omega (arith, short, count, enough))
    ]

-- it wasn't: no notes are wanted, and frames are free
unwanted : (g : Over) (c : goal.After-drop_pages g) → c.args.notes_wanted ≡ false
unwanted g c =
    elim c.if-notes_wanted.branch [
      | then-notes_wanted w ↦ absurd (both_ways c.if-notes_wanted.value c.if-free-lt2.false (w.value-is ∙ w.if-notes_wanted.true))
      | else-notes_wanted w ↦ w.if-notes_wanted.false
    ]

spare : (g : Over) (c : goal.After-drop_pages g) (m : List ℕ) → 2 ≤ length (free_list c.args.pool.now m)
spare g c m =
    elim c.if-notes_wanted.branch [
      | then-notes_wanted w ↦ absurd (both_ways c.if-notes_wanted.value c.if-free-lt2.false (w.value-is ∙ w.if-notes_wanted.true))
      | else-notes_wanted w ↦ (let enough = ltb-false _ _ (sym w.value-is ∙ c.if-free-lt2.false) in let count = w.free.ensures.count m in
          omega (arith, enough, count))
    ]

dropped : (g : Over) (c : goal.After-drop_pages g) → Drops g.S.Shadows c.args.pages.now c.args.shadows.now c.drop_pages.new.shadows
    c.args.ram.now c.drop_pages.new.ram
dropped g c = drops g.S.Shadows g.met.S.Shadows.seen _ _ _ _ _ c.drop_pages.ensures.sight

pub returns-then-free-lt2-clause-room : goal.returns-then-free-lt2-clause-room
returns-then-free-lt2-clause-room g c =
    let two = c.drop_all.ensures.two in let lengths =
    c.drop_all.ensures.moves.lengths in let enough = c.requires.enough in omega (arith, two, lengths, enough)

pub returns-else-free-lt2-clause-room : goal.returns-else-free-lt2-clause-room
returns-else-free-lt2-clause-room g c = spare g c c.drop_pages.new.ram

pub returns-else-free-lt2-clause-ready : goal.returns-else-free-lt2-clause-ready
returns-else-free-lt2-clause-ready g c = λ m cpu low h.
    let d = dropped g c in
    let n = c.drop_pages.new in
    let moves = c.drop_pages.ensures.moves c.args.pool.now c.requires.owned.owns in
    let front = front_same m.frames c.args.pool.now c.args.pool.now c.args.ram.now n.ram _ _ low c.requires.owned.owns moves in
    fewer_ready g.S.Shadows (λ page. is_among page c.args.pages.now) (λ page. false) m cpu c.args.shadows.now n.shadows
    c.args.ram.now n.ram d.cr3
    (λ un. sym d.stale ∙ un) (λ f n. d.read_from f ∙ n)
    (λ page lt o. chosen_out (is_among page c.args.pages.now) _ _ (d.gone page lt) (d.others page lt))
    (same_shed _ _ d.other_roots) (shown_same m c.args.ram.now n.ram front) h

pub returns-then-free-lt2-clause-ready : goal.returns-then-free-lt2-clause-ready
returns-then-free-lt2-clause-ready g c = λ m cpu low h.
    none_ready g.S.Shadows (λ page. false) m cpu c.drop_all.new.self c.drop_all.new.ram (c.drop_all.ensures.known.cr3 ∙ h.cr3_is)
    c.drop_all.ensures.none c.drop_all.ensures.other_roots

pub returns-then-free-lt2-clause-fewer : goal.returns-then-free-lt2-clause-fewer
returns-then-free-lt2-clause-fewer g c =
    let none = none_pages g.S.Shadows c.drop_all.new.self c.drop_all.new.ram c.drop_all.ensures.entries c.drop_all.ensures.other_roots in
    omega (arith, none)

pub returns-else-free-lt2-clause-fewer : goal.returns-else-free-lt2-clause-fewer
returns-else-free-lt2-clause-fewer g c = fewer_pages _ _ _ _ (some_part _ _ (dropped g c).others) (same_shed _ _ (dropped g c).other_roots)

pub drop_all-requires-clause-stands : goal.drop_all-requires-clause-stands
drop_all-requires-clause-stands g c = c.requires.owned.stands

pub drop_all-requires-clause-owns : goal.drop_all-requires-clause-owns
drop_all-requires-clause-owns g c = c.requires.owned.owns

pub drop_pages-requires : goal.drop_pages-requires
drop_pages-requires g c = record { stands = c.requires.owned.stands }

pub returns-then-free-lt2-clause-cr3 : goal.returns-then-free-lt2-clause-cr3
returns-then-free-lt2-clause-cr3 g c = c.drop_all.ensures.known.cr3

pub returns-then-free-lt2-clause-has_tables_under : goal.returns-then-free-lt2-clause-has_tables_under
returns-then-free-lt2-clause-has_tables_under g c = c.drop_all.ensures.has_tables_under

pub returns-else-free-lt2-clause-cr3 : goal.returns-else-free-lt2-clause-cr3
returns-else-free-lt2-clause-cr3 g c = (dropped g c).cr3

pub returns-else-free-lt2-clause-has_tables_under : goal.returns-else-free-lt2-clause-has_tables_under
returns-else-free-lt2-clause-has_tables_under g c = c.drop_pages.ensures.has_tables_under

pub returns-then-free-lt2-clause-moved : goal.returns-then-free-lt2-clause-moved
returns-then-free-lt2-clause-moved g c =
    record { stands = c.drop_all.ensures.stands; owns = c.drop_all.ensures.owns; moves = c.drop_all.ensures.moves }

pub returns-then-free-lt2-clause-shown : goal.returns-then-free-lt2-clause-shown
returns-then-free-lt2-clause-shown g c =
    λ image wp. record {
      present = λ h. none_open image wp (g.S.Shadows.slots c.drop_all.new.self c.drop_all.new.ram)
          c.drop_all.ensures.none;
      others = λ h. subst (λ (l : List OtherRoot). AllOpen image wp l) (sym c.drop_all.ensures.other_roots) tt;
    }

pub returns-else-free-lt2-clause-moved : goal.returns-else-free-lt2-clause-moved
returns-else-free-lt2-clause-moved g c = record {
  stands = c.drop_pages.ensures.stands;
  owns = Owns-moves _ _ _ _ _ _ c.requires.owned.owns (c.drop_pages.ensures.moves c.args.pool.now c.requires.owned.owns);
  moves = c.drop_pages.ensures.moves c.args.pool.now c.requires.owned.owns;
}

pub returns-else-free-lt2-clause-shown : goal.returns-else-free-lt2-clause-shown
returns-else-free-lt2-clause-shown g c = λ image wp. record {
  present = λ h. some_open image wp _ _ (dropped g c).others h;
  others = λ h. open_shed image wp _ _ (same_shed _ _ (dropped g c).other_roots) h;
}

pub returns-then-free-lt2-clause-emptied : goal.returns-then-free-lt2-clause-emptied
returns-then-free-lt2-clause-emptied g c = λ w. record { none = c.drop_all.ensures.none; alone = c.drop_all.ensures.other_roots }

pub returns-else-free-lt2-clause-emptied : goal.returns-else-free-lt2-clause-emptied
returns-else-free-lt2-clause-emptied g c = λ yes. absurd (both_ways c.args.notes_wanted (unwanted g c) yes)

pub returns-then-free-lt2-clause-sheds : goal.returns-then-free-lt2-clause-sheds
returns-then-free-lt2-clause-sheds g c = λ unwished enough. absurd (lacking g c unwished enough)

pub returns-else-free-lt2-clause-sheds : goal.returns-else-free-lt2-clause-sheds
returns-else-free-lt2-clause-sheds g c = λ unwished enough. let e = dropped g c in
    record { stay = stays_by _ _ e.read_from e.stale e.other_roots; gone = e.gone; others = e.stays }
