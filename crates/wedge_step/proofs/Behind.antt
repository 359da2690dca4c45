-- What is kept may be used again after the accesses of a step.
use Rattle.std.proofs.Common.{◌≡◌, ◌⊎◌, ℕ, ◌*◌, ◌/◌, ◌^◌, ◌<◌, ◌≤◌, ◌==◌, List, [], ◌∷◌, length, Bool, true, false, ◌||◌, not, cond, Option, Some, None, refl, sym, ap, subst, ◌∙◌, inl, inr, arith}
use Rattle.std.proofs.lemmas.Bool.Decides.{eqb_tells}
use Rattle.std.specs.Prelude.{nat_le}
use Rattle.std.specs.List.{Contains, list_any}
use Rattle.std.specs.FinMap.{get}
use Rattle.std.proofs.lemmas.Bool.{leb-true, or_parts}
use Rattle.descriptors.specs.Controls.{pse_of}
use Rattle.descriptors.specs.declared.cpu.Cpu.{Cpu}
use Rattle.paging.specs.declared.entry.Entry.{Entry}
use Rattle.paging.specs.Space.{Space}
use Rattle.shadow_tables.specs.OtherRoot.{OtherRoot, IsSame, AreSame}
use Rattle.guest_ram.specs.Among.{is_among}
use Rattle.shadow_tables.specs.Slots.{Slot, entry_in}
use Rattle.shadow_tables.proofs.Lists.{within-same}
use Rattle.machine_model.specs.Reloading.{MemoryFollows, IsFoundBy, Follows}
use Rattle.machine_model.specs.Run.{Set}
use Rattle.machine_model.specs.State.{Setting}
use Rattle.machine_model.proofs.FoundStill.{found_still}
use Rattle.native_steps.specs.Mirrors.{shown}
use Rattle.wedge_mem.specs.Told.{guest_frames, read_by}
use Rattle.wedge_step.specs.Ready.{IsReadyRoot, AreReady, AreReadyBehind, IsReady, IsReadyBehind}
use Rattle.wedge_step.proofs.Bools.{none_some, clash, or_true, or_false}
use Rattle.wedge_step.proofs.Shedding.{Sheds, found_tables, ready_shed}
use Rattle.shadow_tables.proofs.OtherRoots.{any-same}
use Rattle.shadow_tables.specs.declared.shadows.Shadows as shadows
pub use Rattle.image_check.proofs.Starts.{contains_any as contains_among}

-- ---- frames of a list

-- a test that holds of none of them
pub any_none : (test : ℕ → Bool) (frames : List ℕ) → list_any test frames ≡ false → (f : ℕ) → is_among f frames ≡ true → test f ≡ false
any_none test [] h f a = absurd (clash false a refl)
any_none test (x ∷ xs) h f a =
    elim (eqb_tells f x) [
      | inl e ↦ ap test e.1 ∙ (or_parts (test x) (list_any test xs) h).0
      | inr n ↦ any_none test xs (or_parts (test x) (list_any test xs) h).1 f (sym (or_false (f == x) (is_among f xs) n.0) ∙ a)
    ]

-- a frame that a guest has
among_guest : (tables : List ℕ) (f : ℕ) → is_among f tables ≡ true → f < 16384 → is_among f (guest_frames tables) ≡ true
among_guest [] f a lt = a
among_guest (x ∷ xs) f a lt = by (nat_le 16384 x) refl (λ h. among_guest xs f h lt)
  where
    by : (b : Bool) → nat_le 16384 x ≡ b → (is_among f xs ≡ true → is_among f (guest_frames xs) ≡ true)
        → is_among f (cond (not b) (x ∷ guest_frames xs) (guest_frames xs)) ≡ true
    by true e rest = elim (eqb_tells f x) [
      | inl t ↦ let same = t.1 in absurd (let le = leb-true 16384 x e in omega (arith, same, le, lt))
      | inr n ↦ rest (sym (or_false (f == x) (is_among f xs) n.0) ∙ a)
    ]
    by false e rest = elim (eqb_tells f x) [
      | inl t ↦ ap (λ (b : Bool). b || is_among f (guest_frames xs)) t.0
      | inr n ↦ ap (λ (b : Bool). b || is_among f (guest_frames xs)) n.0 ∙ rest (sym (or_false (f == x) (is_among f xs) n.0) ∙ a)
    ]

module _ (read_from : ℕ → Bool) (tables wrote : List ℕ) (low : (frame : ℕ) → Contains tables frame → frame < 16384)
    (none : list_any (read_by read_from tables) wrote ≡ false) where
  -- no frame that was noted was written
  unwritten : (frame : ℕ) → read_from frame ≡ true → Contains wrote frame → ⊥
  unwritten frame n c =
      clash (read_from frame) n
      (or_parts (read_from frame) (is_among frame (guest_frames tables))
      (any_none (read_by read_from tables) wrote none frame (contains_among wrote frame c))).0

  apart : (frame : ℕ) → Contains tables frame → Contains wrote frame → ⊥
  apart frame t c =
      clash (is_among frame (guest_frames tables)) (among_guest tables frame (contains_among tables frame t) (low frame t))
      (or_parts (read_from frame) (is_among frame (guest_frames tables))
      (any_none (read_by read_from tables) wrote none frame (contains_among wrote frame c))).1

holds_of : (read_from : ℕ → Bool) (tables : List ℕ) → ((frame : ℕ) → Contains tables frame → frame < 16384) → (frame : ℕ)
    → Contains tables frame → read_by read_from tables frame ≡ true
holds_of read_from tables low frame c = ap (λ (b : Bool). read_from frame || b)
    (among_guest tables frame (contains_among tables frame c) (low frame c)) ∙ or_true (read_from frame)

noted_holds : (read_from : ℕ → Bool) (tables : List ℕ) (frame : ℕ) → read_from frame ≡ true → read_by read_from tables frame ≡ true
noted_holds read_from tables frame e = ap (λ (b : Bool). b || is_among frame (guest_frames tables)) e

-- over memory that follows, what is found by words in frames that weren't written is found still
pub found_behind : (wrote ram then : List ℕ) (frames cr3 : ℕ) (pse : Bool) (tables : ℕ → Bool) (page : ℕ) (e : Entry) → page < 2 ^ 20
    → 4096 * frames ≤ length ram → MemoryFollows wrote ram then
    → ((frame : ℕ) → tables frame ≡ true → Contains wrote frame → ⊥) → IsFoundBy ram frames cr3 pse tables page e → IsFoundBy
    then frames cr3 pse tables page e
found_behind wrote ram then frames cr3 pse tables page e lt room follows free h =
    found_still ram then frames cr3 pse tables page e room lt (λ at even within t. follows.words at even within (free (at / 4096) t)) h

-- ---- what is kept for another value

root_behind : (wrote : List ℕ) (m : Setting) (cpu : Cpu) (ram then : List ℕ) (a : OtherRoot) → 4096 * m.frames ≤ length ram
    → MemoryFollows wrote ram then → list_any a.tables wrote ≡ false
    → IsReadyRoot m cpu ram a → IsReadyRoot m cpu then a
root_behind wrote m cpu ram then a room follows none h = record {
  found = λ page lt slot e.
      found_behind wrote ram then m.frames a.cr3 (pse_of cpu) a.tables page slot.entry lt room follows
      (λ frame t c. clash (a.tables frame) t (any_none a.tables wrote none frame (contains_among wrote frame c))) (h.found page lt slot e);
  open_to = h.open_to;
}

shed : (a b : OtherRoot) → IsSame a b → Sheds a b
shed a b k = record { cr3 = k.cr3; tables = k.tables; slots = λ page lt. within-same (b.slots page) (a.slots page) (k.slots page lt) }

pub roots_behind : (wrote : List ℕ) (m : Setting) (cpu : Cpu) (ram then : List ℕ) (olds news : List OtherRoot)
    → 4096 * m.frames ≤ length ram → MemoryFollows wrote ram then → AreSame olds news
    → AreReady m cpu ram olds → AreReadyBehind wrote m cpu then news
roots_behind wrote m cpu ram then [] [] room follows same h = tt
roots_behind wrote m cpu ram then [] (n ∷ ns) room follows same h = absurd same
roots_behind wrote m cpu ram then (o ∷ os) [] room follows same h = absurd same
roots_behind wrote m cpu ram then (o ∷ os) (n ∷ ns) room follows same h = (
  λ none.
      ready_shed m cpu then o n (shed o n same.0)
      (root_behind wrote m cpu ram then o room follows (sym (any-same o.tables n.tables wrote same.0.tables) ∙ none) h.0),
  roots_behind wrote m cpu ram then os ns room follows same.1 h.1,
)

module _ {S : Type 0} (shows : shadows.Ghosts S) where
  -- what a step's memory stands for before its first access and after its last
  pub record IsStep (m : Setting) (cpu : Cpu) (s : S) (memory then : List ℕ) (first last : Space) : Type 0 where
    pub follows : Follows first last
    pub ram : first.ram ≡ shown m memory
    pub then_ram : last.ram ≡ shown m then
    pub frames : first.frames ≡ m.frames
    pub cr3 : first.cr3 ≡ cpu.cr3
    pub pse : first.pse ≡ pse_of cpu
    pub room : 4096 * m.frames ≤ length (shown m memory)
    pub small : m.frames ≤ 16384
    pub untold : first.tables ≡ []
    pub kept : (page : ℕ) → page < 2 ^ 20 → get first.set page ≡ entry_in (shows.slots s memory page)
    pub same : AreSame (shows.other_roots s memory) (shows.other_roots s then)

  module _ (m : Setting) (cpu : Cpu) (s : S) (memory then : List ℕ) (first last : Space) (k : IsStep m cpu s memory then first last)
      (tables wrote : List ℕ) (tables_are : last.tables ≡ tables) (wrote_are : last.wrote ≡ wrote)
      (h : IsReady shows m cpu s memory)
    where
      follows : MemoryFollows wrote (shown m memory) (shown m then)
      follows =
          subst (λ (l : List ℕ). MemoryFollows wrote (shown m memory) l) k.then_ram
          (subst (λ (l : List ℕ). MemoryFollows wrote l last.ram) k.ram
          (subst (λ (w : List ℕ). MemoryFollows w first.ram last.ram) wrote_are k.follows.memory))

      low : (frame : ℕ) → Contains tables frame → frame < 16384
      low frame c =
          let few = k.small in
          let fr = k.frames in
          elim (k.follows.low frame (subst (λ (l : List ℕ). Contains l frame) (sym tables_are) c)) [
            | inl before ↦ absurd (clash false (contains_among [] frame (subst (λ (l : List ℕ). Contains l frame) k.untold before)) refl)
            | inr lt ↦ omega (arith, lt, few, fr)
          ]

      -- what was kept before
      old_found : shows.stale s ≡ false → list_any (read_by (shows.read_from s) tables) wrote ≡ false → (page : ℕ) → page < 2 ^ 20
          → (e : Entry) → get first.set page ≡ Some e
          → IsFoundBy (shown m then) m.frames cpu.cr3 (pse_of cpu) (read_by (shows.read_from s) tables) page e
      old_found un none page lt e is = by (shows.slots s memory page) refl
        where
          by : (o : Option Slot) → shows.slots s memory page ≡ o → IsFoundBy (shown m then) m.frames cpu.cr3 (pse_of cpu)
              (read_by (shows.read_from s) tables) page e
          by None at = absurd (none_some e (sym (k.kept page lt ∙ ap entry_in at) ∙ is))
          by (Some slot) at =
              let same : slot.entry ≡ e = (let x : Some slot.entry ≡ Some e = sym (k.kept page lt ∙ ap entry_in at) ∙ is in cc) in
              let here = h.present un page lt refl slot at in
              let still = found_behind wrote (shown m memory) (shown m then) m.frames cpu.cr3 (pse_of cpu) (shows.read_from s) page
              slot.entry lt k.room follows (unwritten (shows.read_from s) tables wrote low none) here in
              subst (λ (x : Entry). IsFoundBy (shown m then) m.frames cpu.cr3 (pse_of cpu) (read_by (shows.read_from s) tables) page x) same
              (found_tables (shown m then) m.frames cpu.cr3 (pse_of cpu) (shows.read_from s) (read_by (shows.read_from s) tables) page
              slot.entry (noted_holds (shows.read_from s) tables) still)

      -- or what it left
      new_found : shows.stale s ≡ false → list_any (read_by (shows.read_from s) tables) wrote ≡ false → (page : ℕ) → page < 2 ^ 20
          → (e : Entry) → get last.set page ≡ Some e
          → IsFoundBy (shown m then) m.frames cpu.cr3 (pse_of cpu) (read_by (shows.read_from s) tables) page e
      new_found un none page lt e is =
          let room = k.room in
          let fr = k.frames in
          let size = ap length k.ram in
          let there = k.follows.each (omega (arith, room, fr, size))
          (λ frame t w. apart (shows.read_from s) tables wrote low none frame (subst (λ (l : List ℕ). Contains l frame) tables_are t)
          (subst (λ (l : List ℕ). Contains l frame) wrote_are w))
          (read_by (shows.read_from s) tables)
          (λ frame t. holds_of (shows.read_from s) tables low frame (subst (λ (l : List ℕ). Contains l frame) tables_are t)) page lt e is in
          elim there [
            | inl was ↦ old_found un none page lt e was
            | inr found ↦
                subst (λ (b : Bool). IsFoundBy (shown m then) m.frames cpu.cr3 b (read_by (shows.read_from s) tables) page e)
                (k.follows.pse ∙ k.pse)
                (subst (λ (c : ℕ). IsFoundBy (shown m then) m.frames c last.pse (read_by (shows.read_from s) tables) page e)
                (k.follows.cr3 ∙ k.cr3)
                (subst (λ (n : ℕ). IsFoundBy (shown m then) n last.cr3 last.pse (read_by (shows.read_from s) tables) page e)
                (k.follows.frames ∙ k.frames)
                (subst (λ (l : List ℕ). IsFoundBy l last.frames last.cr3 last.pse (read_by (shows.read_from s) tables) page e) k.then_ram
                found)))
          ]

      pub behind_ready : (out : ℕ → Bool) (set : Set)
          → ((page : ℕ) → page < 2 ^ 20 → out page ≡ false → (e : Entry) → get set page ≡ Some e → (get first.set page ≡ Some e)
          ⊎ (get last.set page ≡ Some e))
          → IsReadyBehind shows out m cpu s then set tables wrote
      behind_ready out set each = record {
        cr3_is = h.cr3_is;
        present = λ un none page lt o e is. elim (each page lt o e is)
            [ inl was ↦ old_found un none page lt e was | inr left ↦ new_found un none page lt e left ];
        others = roots_behind wrote m cpu (shown m memory) (shown m then) (shows.other_roots s memory) (shows.other_roots s then) k.room
            follows k.same h.others;
      }
