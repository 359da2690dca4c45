use Rattle.std.proofs.Common.{◌≡◌, ℕ, ◌≤◌, List, length, true, false, Option, sym, subst, ◌∙◌, arith}
use Rattle.frame_pool.specs.Pool.{base_of, free_list}
use Rattle.machine_model.specs.Run.{Set}
use Rattle.shadow_tables.specs.Slots.{Slot}
use Rattle.step_mem.specs.Changes.{changed}
use Rattle.shadow_tables.specs.Entries.{entries_of}
use Rattle.wedge_mem.specs.Owned.{first, owns}
use Rattle.wedge_mem.specs.Settled.{pages_of}
use Rattle.wedge_step.proofs.Closing.{settled_left, settled_shows, settled_whole, settled_few, settled_filled}
use Rattle.wedge_step.proofs.Opening.{none_open}
use Rattle.wedge_step.proofs.Memories.{front_same, shown_same}
use Rattle.wedge_step.proofs.Readying.{none_ready, none_pages}
use Rattle.wedge_step.proofs.Resettling.{Settled, closed_opens, closed_none, closed_filled, closed_ready, counts_join}
use Rattle.wedge_step.specs.Ready.{AllOpen}
use Rattle.shadow_tables.specs.Sight.{sight}
use Rattle.wedge_step.specs.Stand.{stand}
use Rattle.wedge_step.proofs.close.settle_or_drop.Given.{Over}
use Rattle.wedge_step.proofs.Leaving.{tells_by}
use Rattle.wedge_step.proofs.close.settle_or_drop.Goals as goal

pub are_open-requires-clause-told : goal.are_open-requires-clause-told
are_open-requires-clause-told g c = c.requires.sound.told

pub are_open-requires-clause-stands : goal.are_open-requires-clause-stands
are_open-requires-clause-stands g c = first c.requires.sound.stands_now

pub drop_all-requires-clause-stands : goal.drop_all-requires-clause-stands
drop_all-requires-clause-stands g c = first c.requires.sound.stands_now

pub drop_all-requires-clause-owns : goal.drop_all-requires-clause-owns
drop_all-requires-clause-owns g c = owns c.requires.sound.stands_now

pub returns-then-not-are_open-clause-left : goal.returns-then-not-are_open-clause-left
returns-then-not-are_open-clause-left g c = c.drop_all.ensures.entries

pub returns-then-not-are_open-clause-shows : goal.returns-then-not-are_open-clause-shows
returns-then-not-are_open-clause-shows g c = λ image is h. none_open image _ _ c.drop_all.ensures.none

pub returns-then-not-are_open-clause-whole : goal.returns-then-not-are_open-clause-whole
returns-then-not-are_open-clause-whole g c = λ may.
    let page = c.are_open.ensures.barred c.if-not-are_open.true in
    absurd (let f : true ≡ false = sym (may.open_to page.0 page.1) ∙ page.2 in cc)

-- what was kept, what is kept, the set that the step left, and its pages
module _ (g : Over) (c : goal.After-settle g) where
  abbrev old : ℕ → Option Slot
  old = g.S.Shadows.slots c.args.shadows.now c.args.ram.now

  abbrev new : ℕ → Option Slot
  new = g.S.Shadows.slots c.settle.new.shadows c.settle.new.ram

  abbrev set : Set
  set = changed (entries_of (g.S.Shadows.slots c.args.shadows.now c.args.ram.now)) c.args.state.now.changes

  abbrev pages : List ℕ
  pages = pages_of c.args.state.now.visited c.args.state.now.changes

  abbrev free : ℕ
  free = length (free_list c.args.pool.now c.args.ram.now)

pub returns-clause-left : goal.returns-clause-left
returns-clause-left g c = settled_left (entries_of (new g c)) (set g c) c.settle.result c.settle.ensures.settled.entries

pub returns-clause-shows : goal.returns-clause-shows
returns-clause-shows g c = λ image is h.
    settled_shows (old g c) (new g c) (set g c) (pages g c) c.args.side c.args.state.now.control.wp
    (g.S.Shadows.write_protected c.settle.new.shadows) image c.args.count c.settle.result c.settle.ensures.settled.entries
    c.settle.ensures.settled.filled
    (λ page lt. g.met.S.Shadows.entry_at c.settle.new.shadows c.settle.new.ram page lt)
    (c.are_open.ensures.opened c.if-not-are_open.false) is h

pub returns-clause-whole : goal.returns-clause-whole
returns-clause-whole g c = λ may.
    settled_whole (old g c) (new g c) (set g c) (pages g c) c.args.side c.args.state.now.control.wp
    (g.S.Shadows.write_protected c.settle.new.shadows) c.args.count (free g c) c.args.state.now.wrote c.settle.result c.settle.ensures.room
    c.settle.ensures.settled.entries c.settle.ensures.settled.filled
    c.settle.ensures.settled.unprotected may

-- what the end of the step makes of what is kept
module _ (g : Over) (c : goal.After-settle g) where
  settled : Settled g.S.Shadows c.args.shadows.now c.settle.new.shadows c.args.ram.now c.settle.new.ram (set g c) c.args.state.now.tables
      c.args.state.now.wrote c.settle.result
  settled = record {
    entries = c.settle.ensures.settled.entries;
    at = λ page lt. g.met.S.Shadows.entry_at c.settle.new.shadows c.settle.new.ram page lt;
    noted_is = c.settle.ensures.settled.read_from;
    marked_is = c.settle.ensures.settled.stale;
    cr3_is = c.settle.ensures.settled.cr3;
    others_are = c.settle.ensures.settled.other_roots;
  }

pub returns-clause-opens : goal.returns-clause-opens
returns-clause-opens g c = λ image wp h.
    closed_opens image wp c.settle.result c.args.state.now.tables c.args.state.now.wrote
    (g.S.Shadows.other_roots c.args.shadows.now c.args.ram.now) (g.S.Shadows.other_roots c.settle.new.shadows c.settle.new.ram)
    c.settle.ensures.settled.other_roots h

pub returns-clause-fewer : goal.returns-clause-fewer
returns-clause-fewer g c = λ e.
    closed_none g.S.Shadows c.args.shadows.now c.settle.new.shadows c.args.ram.now c.settle.new.ram (set g c) c.args.state.now.tables
    c.args.state.now.wrote c.settle.result (settled g c) e

pub returns-clause-ready : goal.returns-clause-ready
returns-clause-ready g c = λ out m cpu frames h.
    let below = c.requires.sound.below in
    let low : m.frames ≤ base_of c.args.pool.now = omega (arith, below, frames) in
    let front = front_same m.frames c.args.pool.now c.settle.new.pool c.args.ram.now c.settle.new.ram _ _ low
    (owns c.requires.sound.stands_now) c.settle.ensures.moves in
    closed_ready g.S.Shadows out m cpu c.args.shadows.now c.settle.new.shadows c.args.ram.now c.settle.new.ram (set g c)
    c.args.state.now.tables c.args.state.now.wrote c.settle.result (settled g c)
    (shown_same m c.args.ram.now c.settle.new.ram front) h

pub returns-then-not-are_open-clause-opens : goal.returns-then-not-are_open-clause-opens
returns-then-not-are_open-clause-opens g c = λ image wp h. subst (AllOpen image wp) (sym c.drop_all.ensures.other_roots) tt

pub returns-then-not-are_open-clause-fewer : goal.returns-then-not-are_open-clause-fewer
returns-then-not-are_open-clause-fewer g c = λ e.
    none_pages g.S.Shadows c.drop_all.new.self c.drop_all.new.ram c.drop_all.ensures.entries c.drop_all.ensures.other_roots

pub returns-then-not-are_open-clause-ready : goal.returns-then-not-are_open-clause-ready
returns-then-not-are_open-clause-ready g c = λ out m cpu frames h.
    none_ready g.S.Shadows out m cpu c.drop_all.new.self c.drop_all.new.ram (c.drop_all.ensures.known.cr3 ∙ h.cr3_is)
    c.drop_all.ensures.none c.drop_all.ensures.other_roots

pub returns-clause-has_tables_under : goal.returns-clause-has_tables_under
returns-clause-has_tables_under g c = λ indices all o. c.settle.ensures.has_tables_under indices all o

pub returns-then-not-are_open-clause-told : goal.returns-then-not-are_open-clause-told
returns-then-not-are_open-clause-told g c = λ e. absurd (let f : true ≡ false = e in cc)

pub returns-then-not-are_open-clause-has_tables_under : goal.returns-then-not-are_open-clause-has_tables_under
returns-then-not-are_open-clause-has_tables_under g c = λ indices all o. c.drop_all.ensures.has_tables_under indices o

pub returns-then-not-are_open-clause-cr3 : goal.returns-then-not-are_open-clause-cr3
returns-then-not-are_open-clause-cr3 g c = c.drop_all.ensures.known.cr3

pub returns-then-not-are_open-clause-filled : goal.returns-then-not-are_open-clause-filled
returns-then-not-are_open-clause-filled g c = tt

pub returns-clause-cr3 : goal.returns-clause-cr3
returns-clause-cr3 g c = c.settle.ensures.settled.cr3

pub settle-requires : goal.settle-requires
settle-requires g c = record { sound = c.requires.sound }

pub returns-then-not-are_open-clause-moved : goal.returns-then-not-are_open-clause-moved
returns-then-not-are_open-clause-moved g c = let e = c.drop_all.ensures in record { stands = e.stands; owns = e.owns; moves = e.moves }

pub returns-clause-moved : goal.returns-clause-moved
returns-clause-moved g c = let e = c.settle.ensures in record { stands = e.stands; owns = e.owns; moves = e.moves }

pub returns-clause-filled : goal.returns-clause-filled
returns-clause-filled g c =
    let state = c.args.state.now in let wp = c.args.state.now.control.wp in
    counts_join g.S.Shadows c.args.side (stand c.args.shadows.now c.args.pool.now c.args.ram.now)
    (stand c.settle.new.shadows c.settle.new.pool c.settle.new.ram) state c.settle.result
    (settled_few (old g c) (entries_of (old g c)) state.changes state.tables state.visited c.args.side wp c.settle.result
    c.settle.ensures.count (omega (arith, c.requires.sound.visits, c.requires.sound.few)))
    c.settle.ensures.count
    (closed_filled c.settle.result state.tables state.wrote (entries_of (old g c)) (entries_of (new g c))
    (g.S.Shadows.other_roots c.args.shadows.now c.args.ram.now) (g.S.Shadows.other_roots c.settle.new.shadows c.settle.new.ram)
    c.settle.ensures.settled.other_roots
    (settled_filled (old g c) (entries_of (old g c)) state.changes state.tables state.visited c.args.side wp (entries_of (new g c))
    c.settle.result c.requires.sound.told c.settle.ensures.count c.settle.ensures.settled.entries))

pub returns-clause-told : goal.returns-clause-told
returns-clause-told g c = λ e.
    let s = c.settle.ensures in
    tells_by (sight g.S.Shadows c.args.shadows.now c.args.ram.now) (sight g.S.Shadows c.settle.new.shadows c.settle.new.ram)
    c.args.state.now.tables c.args.state.now.wrote c.settle.result s.settled.noted_only s.settled.stale s.settled.other_roots e
