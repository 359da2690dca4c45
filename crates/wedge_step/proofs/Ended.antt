-- What a run knows after a step that was settled and ended, and after one that the host is to do.
use Rattle.std.proofs.Common.{◌≡◌, ℕ, ◌*◌, ◌/◌, ◌≤◌, Bool, true, false, ◌==◌, eqb, ◌||◌, List, [], ◌∷◌, ◌++◌, length, Option, Some, None, refl, sym, ap, subst, ◌∙◌, arith}
use Rattle.std.specs.List.{Contains}
use Rattle.std.specs.Set.{is_member}
use Rattle.std.specs.FinMap.{get}
use Rattle.guest_ram.specs.Bytes.{AreBytes}
use Rattle.paging.specs.declared.entry.Entry.{Entry}
use Rattle.paging.specs.Fresh.{has}
use Rattle.paging.specs.Space.{Mode, Wedge, Own, no_own, Space}
use Rattle.board.specs.declared.devices.Board.{Board}
use Rattle.board.specs.Scripts.{Events}
use Rattle.descriptors.specs.declared.cpu.Cpu.{Cpu}
use Rattle.image_check.specs.Image.{Image}
use Rattle.image_load.specs.Boot.{text_pages}
use Rattle.shadow_tables.specs.OtherRoot.{AreSame}
use Rattle.shadow_tables.specs.Entries.{entries_of}
use Rattle.guest_ram.specs.Among.{is_among}
use Rattle.shadow_tables.specs.Slots.{is_user}
use Rattle.shadow_tables.proofs.OtherRoots.{same-refl}
use Rattle.shadow_tables.specs.declared.shadows.Shadows as shadows
use Rattle.step_mem.specs.Changes.{AreWithin, AreToldIn, changed}
use Rattle.step_mem.specs.declared.changes.Change.{Change}
use Rattle.wedge_mem.specs.Settled.{pages_of}
use Rattle.machine_model.specs.Run.{Set}
use Rattle.machine_model.specs.State.{Setting, State, wedge, wedge_mode, rules_over}
use Rattle.machine_model.specs.Step.{stepped}
use Rattle.machine_model.specs.Taken.{Taken, is_load}
use Rattle.machine_model.specs.UsedPages.{Uses, LeadWell, may_use}
use Rattle.machine_step.specs.declared.worked.Worked.{Worked}
use Rattle.machine_step.specs.Worked.{went_as}
use Rattle.native_steps.specs.Mirrors.{shown}
use Rattle.kept_laws.specs.Carried.{IndicesGrow, indices_in}
use Rattle.kept_laws.specs.Known.{IsKnown, KnownOn, KnownStill}
use Rattle.kept_laws.specs.OverSteps.{SettlingTells, DroppedComesFrom, Tells}
use Rattle.wedge_step.specs.Carried.{IsTakenFrom}
use Rattle.wedge_step.specs.Closed.{MayClose}
use Rattle.wedge_step.specs.Leaving.{Ends}
use Rattle.wedge_step.specs.Opened.{is_entry_open}
use Rattle.wedge_step.specs.Ready.{IsReady}
use Rattle.shadow_tables.specs.Sight.{Sight, sight}
use Rattle.machine_step.specs.Roots.{RootsAs}
use Rattle.wedge_step.specs.Standing.{ground, side_of}
use Rattle.wedge_step.proofs.Knowing.{answer_from, told_by, over, a_step, all_found}
use Rattle.wedge_step.proofs.AmongPages.{among_contains, told_among, used_within}

-- ---- the pages that a step used may be shown

open_used : (count : ℕ) (own : Own) (user : Bool) (page frame : ℕ) → may_use (Wedge 0x100 count own) user page frame ≡ true
    → may_use (rules_over count) (is_user (side_of user)) page frame ≡ true
open_used count own true page frame h = h
open_used count own false page frame h = h

pub may_close_used : (image : Image) (count frames free : ℕ) (user : Bool) (first s : Space) (changes : List Change)
    → count ≡ text_pages image → Uses user first s → first.visited ≡ [] → first.mode ≡ wedge_mode image → AreWithin frames s.set
    → AreToldIn s.visited changes → length s.visited ≤ free → MayClose count (side_of user) s.set (pages_of s.visited changes) free
may_close_used image count frames free user first s changes count_is uses none mode within told few = record {
  open_to = λ q h. subst (λ (k : ℕ). is_entry_open k (side_of user) (get s.set q) ≡ true) (sym count_is)
      (by q (among_contains s.visited q (told_among s.visited changes told q h)) (get s.set q) refl);
  room = (let u = used_within s.set (pages_of s.visited changes) s.visited (told_among s.visited changes told) in omega (arith, u, few));
}
  where
    at_first : LeadWell user first
    at_first =
        record { each = λ page c. absurd (let d = subst (λ (l : List ℕ). Contains l page) none c in let lt = d.1 in omega (arith, lt)) }

    by : (q : ℕ) → Contains s.visited q → (o : Option Entry) → get s.set q ≡ o → is_entry_open (text_pages image) (side_of user)
        (get s.set q) ≡ true
    by q c None at = ap (is_entry_open (text_pages image) (side_of user)) at
    by q c (Some e) at =
        let lead = (uses.lead at_first).each q c e at in
        let here = sym (uses.rules q e.frame) ∙ lead in
        let there = subst (λ (x : Mode). may_use x user q e.frame ≡ true) mode here in
        let page : e.page ≡ q = (within q e at).0 in
        ap (is_entry_open (text_pages image) (side_of user)) at
        ∙ subst (λ (k : ℕ). may_use (wedge_mode image) (is_user (side_of user)) k e.frame ≡ true) (sym page)
        (open_used (text_pages image) no_own user q e.frame there)

-- ---- and lie under directory indices of the steps

among_member : (q : ℕ) (xs : List ℕ) → is_member eqb xs q ≡ is_among q xs
among_member q [] = refl
among_member q (x ∷ xs) = ap (λ (b : Bool). (q == x) || b) (among_member q xs)

pub index_used : IndicesGrow → (steps : List Taken) (t : Taken) (visited : List ℕ) (changes : List Change) → t.report.pages ≡ visited
    → AreToldIn visited changes
    → (page : ℕ) → is_among page (pages_of visited changes) ≡ true → is_member eqb (indices_in (steps ++ t ∷ [])) (page / 1024) ≡ true
index_used grow steps t visited changes pages told page h =
    (grow steps t).1 page (among_member page t.report.pages ∙ (ap (is_among page) pages ∙ told_among visited changes told page h))

-- ---- what is known

module _ {S : Type 0} (shows : shadows.Ghosts S) where
  -- A step of a run, from what shadows keep over a memory, and the memory after its accesses.
  pub record IsDone (image : Image) (script : Events) (n : ℕ) (t : Taken) (b : State) (s : S) (memory then : List ℕ) : Type 0 where
    pub taken : IsTakenFrom (wedge image script n) b t
    pub by : t.set ≡ b.set
    pub ram : b.ram ≡ shown (ground image n) memory
    pub set : b.set ≡ entries_of (shows.slots s memory)
    pub room : 4096 * n ≤ length b.ram
    pub entries : entries_of (shows.slots s then) ≡ entries_of (shows.slots s memory)
    pub same : AreSame (shows.other_roots s memory) (shows.other_roots s then)

  module _ (tells : SettlingTells) (comes : DroppedComesFrom) (still : KnownStill) (on : KnownOn) (image : Image) (script : Events) (n : ℕ)
      (steps : List Taken) (t : Taken) (b : State) (kept : Set) (s : S) (memory then : List ℕ)
      (d : IsDone image script n t b s memory then) (known : IsKnown (wedge image script n) steps t.before (sight shows s memory) kept)
      (v' : Sight)
    where
      abbrev m : Setting
      m = wedge image script n

      room_before : 4096 * n ≤ length t.before.ram
      room_before = subst (λ (l : List ℕ). 4096 * n ≤ length l) (sym d.taken.ram) d.room

      known_then : IsKnown m steps t.before (sight shows s then) kept
      known_then = still m steps t.before (sight shows s memory) (sight shows s then) kept
          (record { notes = λ frame e. e; marks = λ e. e; others = d.same }) known

      -- after a step that was ended
      pub known_went : (w : Worked) (board : Board) (last : Space) (changes : List Change) → stepped m b ≡ went_as b w board last
          → RootsAs b.cpu w → IsReady shows (ground image n) b.cpu s memory
          → last.set ≡ changed (entries_of (shows.slots s then)) changes → AreToldIn last.visited changes
          → 4096 * n ≤ length last.ram → AreBytes last.ram
          → Ends w.dropped b.cpu w.cpu (pages_of last.visited changes) last.tables last.wrote last.set (sight shows s then) v'
          → IsKnown m (steps ++ t ∷ []) t.after v' (entries_of v'.slots)
      known_went w board last changes went roots ready set told room_after bytes ends =
          let a = answer_from m b t w board last d.taken d.by went in
          let base_is = d.entries ∙ (sym d.set ∙ sym d.by) in
          let base = entries_of (shows.slots s then) in
          on m steps t (sight shows s then) v' kept
          (a_step tells comes t b.cpu w last (shows.cr3 s) base changes a d.taken.cpu roots ready.cr3_is set base_is told
          (shows.slots s memory) (d.by ∙ d.set) m b d.taken room_before room_after bytes)
          (λ load un. all_found m steps t b.cpu (shown (ground image n) memory) (shows.read_from s) (shows.stale s) (shows.slots s memory)
          d.taken.cpu (d.taken.ram ∙ d.ram) (d.by ∙ d.set) (λ free page lt. ready.present free page lt refl) known.remembered.noted_read
          known.remembered.unmarked un)
          (over tells comes t b.cpu w last (shows.cr3 s) base changes a d.taken.cpu roots ready.cr3_is set base_is told
          (shows.slots s memory) (d.by ∙ d.set) (sight shows s then) v' refl ends)
          known_then

      -- after one that the host does, and that loads no CR3 and leaves the rules and the translations
      pub known_asked : (tables wrote : List ℕ) → t.report.tables ≡ tables → t.report.wrote ≡ wrote → is_load t.report.completed ≡ false
          → (t.after.cpu.cr0 ≡ b.cpu.cr0) × (t.after.cpu.cr3 ≡ b.cpu.cr3) × (t.after.cpu.cr4 ≡ b.cpu.cr4)
          → t.after.set ≡ entries_of v'.slots → 4096 * n ≤ length t.after.ram → AreBytes t.after.ram
          → Tells tables wrote (sight shows s then) v'
          → IsKnown m (steps ++ t ∷ []) t.after v' (entries_of v'.slots)
      known_asked tables wrote tables_are wrote_are load same set room_after bytes told =
          let cpu = d.taken.cpu in
          let wp = ap (λ (x : ℕ). has x 65536) (same.0 ∙ sym (ap (λ (c : Cpu). c.cr0) cpu)) in
          let pse = ap (λ (x : ℕ). has x 16) (same.2 ∙ sym (ap (λ (c : Cpu). c.cr4) cpu)) in
          on m steps t (sight shows s then) v' kept
          (record {
            went = d.taken.went;
            room = room_before;
            room_after = room_after;
            bytes = bytes;
            through = λ go. same.1 ∙ sym (ap (λ (c : Cpu). c.cr3) cpu);
            emptied = λ no. absurd (no pse);
          })
          (λ loads. absurd (let f : true ≡ false = sym loads ∙ load in cc))
          (record {
            between = v';
            told = told_by tells t (sight shows s then) v' tables wrote tables_are wrote_are told;
            through = λ go stay. (record { notes = λ frame e. e; marks = λ e. e; others = same-refl v'.other_roots }, sym set);
            lost = λ go no. absurd (no (record { wp = wp; pse = pse }));
            loaded = λ loads. absurd (let f : true ≡ false = sym loads ∙ load in cc);
          })
          known_then
