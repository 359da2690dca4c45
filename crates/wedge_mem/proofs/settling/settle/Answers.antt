use Rattle.std.proofs.Common.{◌≡◌, ℕ, List, length, Option, ◌||◌, ap, sym, ◌∙◌, subst, arith}
use Rattle.std.specs.List.{list_any}
use Rattle.std.specs.FinMap.{FinMap, get}
use Rattle.std.specs.Ordering.{nat_cmp}
use Rattle.paging.specs.declared.entry.Entry.{Entry}
use Rattle.guest_ram.specs.Among.{is_among}
use Rattle.shadow_tables.specs.OtherRoot.{LoseWrites, AreSame, all_spared}
use Rattle.shadow_tables.specs.Calls.{IsWithin}
use Rattle.shadow_tables.specs.Entries.{entries_of}
use Rattle.shadow_tables.specs.Slots.{Slot}
use Rattle.shadow_tables.proofs.OtherRoots.{any-same}
use Rattle.step_mem.specs.Changes.{changed}
use Rattle.step_mem.specs.declared.changes.Change.{Change}
use Rattle.wedge_mem.specs.Owned.{first, owns}
use Rattle.wedge_mem.specs.Settled.{Fills, LosesSome, filled_by, pages_of, refilled, used}
use Rattle.wedge_mem.specs.Told.{guest_frames, read_by}
use Rattle.wedge_mem.proofs.Below.{below-same}
use Rattle.wedge_mem.proofs.Passed.{owns-read_from, owns-told, owns-all, moves-all}
use Rattle.wedge_mem.proofs.Told.{all-told}
use Rattle.wedge_mem.proofs.Due.{settled-count}
use Rattle.wedge_mem.proofs.Filled.{entries-filled}
use Rattle.wedge_mem.proofs.Losing.{lost-same, lost-within}
use Rattle.wedge_mem.proofs.Visited.{among-visited, fills-visited, used-visited}
use Rattle.wedge_mem.proofs.settling.settle.Given.{Over}
use Rattle.wedge_mem.proofs.settling.settle.Goals as goal

pub lacks_frames-requires-clause-stands : goal.lacks_frames-requires-clause-stands
lacks_frames-requires-clause-stands g c = first c.requires.sound.stands_now

pub drop_all-requires-clause-stands : goal.drop_all-requires-clause-stands
drop_all-requires-clause-stands g c = first c.requires.sound.stands_now

pub drop_all-requires-clause-owns : goal.drop_all-requires-clause-owns
drop_all-requires-clause-owns g c = owns c.requires.sound.stands_now

pub returns-then-lacks_frames-clause-guest : goal.returns-then-lacks_frames-clause-guest
returns-then-lacks_frames-clause-guest g c =
    let f = g.S.Shadows.frames in
    below-same c.args.pool.now c.drop_all.new.pool c.args.ram.now c.drop_all.new.ram (f c.args.shadows.now c.args.ram.now)
    (f c.drop_all.new.self c.drop_all.new.ram) (owns c.requires.sound.stands_now) c.drop_all.ensures.moves

pub note_tables-requires : goal.note_tables-requires
note_tables-requires g c = record { stands = first c.requires.sound.stands_now }

pub tell_written-requires-clause-owns : goal.tell_written-requires-clause-owns
tell_written-requires-clause-owns g c =
    let f = g.S.Shadows.frames in let n = c.note_tables.new in
    owns-read_from c.args.pool.now c.args.pool.now c.args.pool.now c.args.ram.now n.ram n.ram n.ram (f c.args.shadows.now c.args.ram.now)
    (f n.shadows n.ram) (f n.shadows n.ram) (f n.shadows n.ram)
    (owns c.requires.sound.stands_now) c.note_tables.ensures.frames c.note_tables.ensures.memory

pub fill_pages-filled-requires-clause-owns : goal.fill_pages-filled-requires-clause-owns
fill_pages-filled-requires-clause-owns g c =
    let f = g.S.Shadows.frames in let n = c.note_tables.new in let t = c.tell_written.new in
    owns-told c.args.pool.now t.pool t.pool c.args.ram.now n.ram t.ram t.ram (f c.args.shadows.now c.args.ram.now) (f n.shadows n.ram)
    (f t.shadows t.ram) (f t.shadows t.ram)
    (owns c.requires.sound.stands_now) c.note_tables.ensures.frames c.note_tables.ensures.memory c.tell_written.ensures.moves

pub fill_pages-filled-requires-clause-free : goal.fill_pages-filled-requires-clause-free
fill_pages-filled-requires-clause-free g c =
    let s = g.S.Shadows.slots in let n = c.note_tables.new in let t = c.tell_written.new in let st = c.args.state.now in
    let old = changed (entries_of (s c.args.shadows.now c.args.ram.now)) st.changes in
    let mid = entries_of (s t.shadows t.ram) in
    let visited = used-visited old st.visited st.changes c.requires.sound.told in
    let same : length (used (changed mid c.as_slice-3.result.now) c.as_slice-4.result.now) ≡ length (used old st.visited) =
    ap (λ (cs : List Change). length (used (changed mid cs) c.as_slice-4.result.now)) c.as_slice-3.ensures.changes
    ∙ (ap (λ (xs : List ℕ). length (used (changed mid st.changes) xs)) c.as_slice-4.ensures
    ∙ ap (λ (e : FinMap nat_cmp Entry). length (used (changed e st.changes) st.visited))
    (c.tell_written.ensures.entries ∙ c.note_tables.ensures.entries)) in
    let few = c.lacks_frames.ensures.enough c.if-lacks_frames.false in let free = c.free.ensures.count n.ram in
    let more = c.tell_written.ensures.fewer in
    omega (arith, visited, same, few, free, more)

pub returns-clause-owns : goal.returns-clause-owns
returns-clause-owns g c =
    let f = g.S.Shadows.frames in let n = c.note_tables.new in let t = c.tell_written.new in let u = c.fill_pages-filled.new in
    owns-all c.args.pool.now t.pool u.pool c.args.ram.now n.ram t.ram u.ram (f c.args.shadows.now c.args.ram.now) (f n.shadows n.ram)
    (f t.shadows t.ram) (f u.shadows u.ram)
    (owns c.requires.sound.stands_now) c.note_tables.ensures.frames c.note_tables.ensures.memory c.tell_written.ensures.moves
    c.fill_pages-filled.ensures.moves

pub returns-clause-moves : goal.returns-clause-moves
returns-clause-moves g c =
    let f = g.S.Shadows.frames in let n = c.note_tables.new in let t = c.tell_written.new in let u = c.fill_pages-filled.new in
    moves-all c.args.pool.now t.pool u.pool c.args.ram.now n.ram t.ram u.ram (f c.args.shadows.now c.args.ram.now) (f n.shadows n.ram)
    (f t.shadows t.ram) (f u.shadows u.ram)
    (owns c.requires.sound.stands_now) c.note_tables.ensures.frames c.note_tables.ensures.memory c.tell_written.ensures.moves
    c.fill_pages-filled.ensures.moves

pub returns-clause-guest : goal.returns-clause-guest
returns-clause-guest g c =
    let f = g.S.Shadows.frames in let n = c.note_tables.new in let t = c.tell_written.new in let u = c.fill_pages-filled.new in
    below-same c.args.pool.now u.pool c.args.ram.now u.ram (f c.args.shadows.now c.args.ram.now) (f u.shadows u.ram)
    (owns c.requires.sound.stands_now)
    (moves-all c.args.pool.now t.pool u.pool c.args.ram.now n.ram t.ram u.ram (f c.args.shadows.now c.args.ram.now) (f n.shadows n.ram)
    (f t.shadows t.ram) (f u.shadows u.ram)
    (owns c.requires.sound.stands_now) c.note_tables.ensures.frames c.note_tables.ensures.memory c.tell_written.ensures.moves
    c.fill_pages-filled.ensures.moves)

pub returns-clause-roots : goal.returns-clause-roots
returns-clause-roots g c =
    λ view. c.fill_pages-filled.ensures.rest.roots view ∙ c.tell_written.ensures.roots view ∙ c.note_tables.ensures.roots view

pub returns-clause-has_tables_under : goal.returns-clause-has_tables_under
returns-clause-has_tables_under g c = λ indices all has_tables_under.
    c.fill_pages-filled.ensures.has_tables_under indices
    (λ page there. all page (among-visited c.args.state.now.visited c.args.state.now.changes c.requires.sound.told page
    ∙ (sym (ap (is_among page) c.as_slice-4.ensures) ∙ there)))
    (c.tell_written.ensures.has_tables_under indices (c.note_tables.ensures.has_tables_under indices has_tables_under))

-- what the fills leave, of all pages that the step used
filled-all : (g : Over) (c : goal.After-fill_pages-filled g)
    → Fills (g.S.Shadows.slots c.tell_written.new.shadows c.tell_written.new.ram)
    (g.S.Shadows.slots c.fill_pages-filled.new.shadows c.fill_pages-filled.new.ram)
    (changed (entries_of (g.S.Shadows.slots c.tell_written.new.shadows c.tell_written.new.ram)) c.args.state.now.changes)
    (pages_of c.args.state.now.visited c.args.state.now.changes)
    c.args.side c.args.state.now.control.wp (g.S.Shadows.write_protected c.tell_written.new.shadows)
filled-all g c =
    let s = g.S.Shadows.slots in let t = c.tell_written.new in let u = c.fill_pages-filled.new in
    let st = c.args.state.now in
    let mid = s t.shadows t.ram in
    let fills = c.fill_pages-filled.ensures.fills in
    fills-visited mid (s u.shadows u.ram) (changed (entries_of mid) st.changes) st.visited st.changes c.args.side st.control.wp
    (g.S.Shadows.write_protected t.shadows) c.requires.sound.told
    (subst (λ (xs : List ℕ). Fills mid (s u.shadows u.ram) (changed (entries_of mid) st.changes) xs c.args.side st.control.wp
    (g.S.Shadows.write_protected t.shadows)) c.as_slice-4.ensures
    (subst (λ (cs : List Change). Fills mid (s u.shadows u.ram) (changed (entries_of mid) cs) c.as_slice-4.result.now c.args.side
    st.control.wp (g.S.Shadows.write_protected t.shadows)) c.as_slice-3.ensures.changes fills))

pub returns-clause-count : goal.returns-clause-count
returns-clause-count g c =
    let s = g.S.Shadows.slots in let n = c.note_tables.new in let t = c.tell_written.new in
    let st = c.args.state.now in
    let old = s c.args.shadows.now c.args.ram.now in let mid = s t.shadows t.ram in
    settled-count old mid st.changes st.tables st.visited c.args.side st.control.wp c.fill_pages-filled.result c.as_slice-3.ensures.pages
    (c.tell_written.ensures.entries ∙ c.note_tables.ensures.entries)
    (lost-same (guest_frames st.tables) old (s n.shadows n.ram) mid
    (subst (λ (fs : List ℕ). LosesSome (guest_frames fs) old (s n.shadows n.ram)) c.as_slice.ensures c.note_tables.ensures.slots)
    c.tell_written.ensures.slots)
    (c.fill_pages-filled.ensures.filled
    ∙ (ap (λ (cs : List Change). length (refilled mid (changed (entries_of mid) cs) cs c.args.side st.control.wp c.as_slice-4.result.now))
    c.as_slice-3.ensures.changes
    ∙ ap (λ (xs : List ℕ). length (refilled mid (changed (entries_of mid) st.changes) st.changes c.args.side st.control.wp xs))
    c.as_slice-4.ensures))

pub returns-clause-settled : goal.returns-clause-settled
returns-clause-settled g c = record {
  entries =
      let s = g.S.Shadows.slots in let t = c.tell_written.new in let u = c.fill_pages-filled.new in
      let cs = c.args.state.now.changes in let visited = c.args.state.now.visited in
      let same = c.tell_written.ensures.entries ∙ c.note_tables.ensures.entries in
      entries-filled (s t.shadows t.ram) (s u.shadows u.ram) visited cs c.args.side c.args.state.now.control.wp
      (g.S.Shadows.write_protected t.shadows) c.as_slice-3.ensures.pages (filled-all g c)
      ∙ ap (λ e. changed e cs) same;
  filled =
      let s = g.S.Shadows.slots in let n = c.note_tables.new in let t = c.tell_written.new in let u = c.fill_pages-filled.new in
      let st = c.args.state.now in let fills = filled-all g c in
      let same = c.tell_written.ensures.entries ∙ c.note_tables.ensures.entries in
      record {
        through = λ page small there.
            fills.through page small there
            ∙ ap (λ (frames : List ℕ). filled_by c.args.side st.control.wp frames
            (get (changed (entries_of (s t.shadows t.ram)) st.changes) page)) (sym c.fill_pages-filled.ensures.rest.write_protected)
            ∙ ap (λ (e : FinMap nat_cmp Entry). filled_by c.args.side st.control.wp (g.S.Shadows.write_protected u.shadows)
            (get (changed e st.changes) page)) same;
        others = λ page small none.
            subst (λ (o : Option Slot). IsWithin o (s c.args.shadows.now c.args.ram.now page))
            (sym (fills.others page small none ∙ c.tell_written.ensures.slots page small))
            (lost-within _ (s c.args.shadows.now c.args.ram.now) (s n.shadows n.ram) c.note_tables.ensures.slots page small);
      };
  read_from = λ some frame none.
      c.fill_pages-filled.ensures.rest.read_from frame
      ∙ c.tell_written.ensures.known.read_from frame (ap (is_among frame) c.as_slice-2.ensures ∙ none)
      ∙ c.note_tables.ensures.read_from frame
      ∙ ap (λ (fs : List ℕ). read_by (g.S.Shadows.read_from c.args.shadows.now) fs frame) c.as_slice.ensures;
  noted_only = λ frame read_from.
      sym (c.note_tables.ensures.read_from frame ∙ ap (λ (fs : List ℕ). read_by (g.S.Shadows.read_from c.args.shadows.now) fs frame)
      c.as_slice.ensures)
      ∙ c.tell_written.ensures.known.noted_less frame (sym (c.fill_pages-filled.ensures.rest.read_from frame) ∙ read_from);
  stale =
      let read_from = g.S.Shadows.read_from in let stale = g.S.Shadows.stale in let old = c.args.shadows.now in
      let n = c.note_tables.new in let t = c.tell_written.new in let st = c.args.state.now in
      c.fill_pages-filled.ensures.rest.stale
      ∙ subst (λ (fs : List ℕ). stale t.shadows ≡ (stale n.shadows || list_any (read_from n.shadows) fs)) c.as_slice-2.ensures
      c.tell_written.ensures.known.stale
      ∙ ap (λ b. b || list_any (read_from n.shadows) st.wrote) c.note_tables.ensures.stale
      ∙ ap (λ b. stale old || b) (any-same (read_by (read_from old) st.tables) (read_from n.shadows) st.wrote
      (λ f. c.note_tables.ensures.read_from f ∙ ap (λ (fs : List ℕ). read_by (read_from old) fs f) c.as_slice.ensures));
  cr3 = c.fill_pages-filled.ensures.rest.cr3 ∙ c.tell_written.ensures.known.cr3 ∙ c.note_tables.ensures.cr3;
  other_roots =
      let a = g.S.Shadows.other_roots in let n = c.note_tables.new in let t = c.tell_written.new in let u = c.fill_pages-filled.new in
      let st = c.args.state.now in
      all-told st.wrote st.tables (a c.args.shadows.now c.args.ram.now) (a n.shadows n.ram) (a t.shadows t.ram) (a u.shadows u.ram)
      (subst (λ (fs : List ℕ). LoseWrites (guest_frames fs) (a c.args.shadows.now c.args.ram.now) (a n.shadows n.ram)) c.as_slice.ensures
      c.note_tables.ensures.other_roots)
      (subst (λ (fs : List ℕ). AreSame (all_spared fs (a n.shadows n.ram)) (a t.shadows t.ram)) c.as_slice-2.ensures
      c.tell_written.ensures.other_roots)
      c.fill_pages-filled.ensures.rest.other_roots;
  unprotected = λ some frame wrote.
      ap (is_among frame) c.fill_pages-filled.ensures.rest.write_protected
      ∙ c.tell_written.ensures.known.unprotected frame (ap (is_among frame) c.as_slice-2.ensures ∙ wrote);
}
