-- What is kept after a step whose pages were settled, or for which frames lacked: for each value of CR3.
use Rattle.std.proofs.Common.{◌≡◌, ℕ, ◌+◌, ◌^◌, ◌<◌, ◌≤◌, List, [], Bool, true, false, ◌||◌, Option, Some, None, refl, sym, ap, subst, ◌∙◌, arith}
use Rattle.std.specs.Prelude.{MatchOption, IfSome, IsSome, is_none}
use Rattle.std.specs.FinMap.{get, empty, get-empty, len}
use Rattle.std.specs.Ordering.{nat_cmp}
use Rattle.std.specs.List.{list_any}
use Rattle.descriptors.specs.declared.cpu.Cpu.{Cpu}
use Rattle.image_check.specs.Image.{Image}
use Rattle.shadow_tables.specs.OtherRoot.{OtherRoot, LoseWrites, all_spared}
use Rattle.shadow_tables.specs.Entries.{entries_of}
use Rattle.guest_ram.specs.Among.{is_among}
use Rattle.shadow_tables.specs.Slots.{Slot, entry_in}
use Rattle.shadow_tables.specs.declared.shadows.Shadows as shadows
use Rattle.shadow_tables.specs.declared.words.Side.{Side}
use Rattle.step_mem.specs.declared.state.StepState.{StepState}
use Rattle.machine_model.specs.Run.{Set}
use Rattle.machine_model.specs.State.{Setting}
use Rattle.native_steps.specs.Mirrors.{shown}
use Rattle.wedge_mem.specs.Told.{guest_frames, read_by}
use Rattle.wedge_step.specs.Filled.{pages_of_others, pages_kept}
use Rattle.wedge_step.specs.Ready.{AllOpen, IsReadyBut, IsReadyBehind}
use Rattle.wedge_step.specs.Stand.{FillsIn, IsFilledBy, Stand, count_in}
use Rattle.wedge_step.proofs.Behind.{any_none}
use Rattle.wedge_step.proofs.Opening.{no_slot}
use Rattle.wedge_step.proofs.Readying.{none_ready, none_pages, settled_ready}
use Rattle.wedge_step.proofs.Shedding.{lost_shed, open_shed, open_spared, shed_pages, spared_pages, found_tables}
use Rattle.wedge_step.proofs.Bools.{clash}

or_parts : (a b c : Bool) → c ≡ (a || b) → c ≡ false → (a ≡ false) × (b ≡ false)
or_parts true b c e f = absurd (let g : true ≡ false = sym e ∙ f in cc)
or_parts false b c e f = (refl, sym e ∙ f)

-- what is kept for other values
abbrev pub OthersAre : Option ℕ → (tables wrote : List ℕ) → (olds news : List OtherRoot) → Type 0
OthersAre result tables wrote olds news =
    MatchOption result (news ≡ []) (λ n. LoseWrites (guest_frames tables) (all_spared wrote olds) news)

pub closed_opens : (image : Image) (wp : Bool) (result : Option ℕ) (tables wrote : List ℕ) (olds news : List OtherRoot)
    → OthersAre result tables wrote olds news → AllOpen image wp olds → AllOpen image wp news
closed_opens image wp None tables wrote olds news is h = subst (AllOpen image wp) (sym is) tt
closed_opens image wp (Some n) tables wrote olds news is h = open_shed image wp (all_spared wrote olds) news
    (lost_shed (guest_frames tables) (all_spared wrote olds) news is) (open_spared image wp wrote olds h)

pub closed_pages : (result : Option ℕ) (tables wrote : List ℕ) (olds news : List OtherRoot) → OthersAre result tables wrote olds news
    → pages_of_others news ≤ pages_of_others olds
closed_pages None tables wrote olds news is = let none = ap pages_of_others is in omega (arith, none)
closed_pages (Some n) tables wrote olds news is =
    let same = shed_pages (all_spared wrote olds) news (lost_shed (guest_frames tables) (all_spared wrote olds) news is) in
    let few = spared_pages wrote olds in
    omega (arith, same, few)

pub closed_filled : (result : Option ℕ) (tables wrote : List ℕ) (old new : Set) (olds news : List OtherRoot)
    → OthersAre result tables wrote olds news → IfSome result (λ n. len new ≤ len old + n)
    → IfSome result (λ n. len new + pages_of_others news ≤ len old + pages_of_others olds + n)
closed_filled None tables wrote old new olds news is few = tt
closed_filled (Some n) tables wrote old new olds news is few =
    let more = closed_pages (Some n) tables wrote olds news is in omega (arith, few, more)

-- nothing is kept in the slots of an empty set
pub no_slots : (slots : ℕ → Option Slot) → ((page : ℕ) → page < 2 ^ 20 → get (entries_of slots) page ≡ entry_in (slots page))
    → entries_of slots ≡ empty → (page : ℕ) → page < 2 ^ 20 → slots page ≡ None
no_slots slots at is page lt = no_slot (slots page) (sym (at page lt) ∙ (ap (λ (set : Set). get set page) is ∙ get-empty nat_cmp page))

module _ {S : Type 0} (shows : shadows.Ghosts S) where
  -- what the end of a step makes of them
  pub record Settled (old new : S) (memory then : List ℕ) (set : Set) (tables wrote : List ℕ) (result : Option ℕ) : Type 0 where
    pub entries : MatchOption result (entries_of (shows.slots new then) ≡ empty) (λ n. entries_of (shows.slots new then) ≡ set)
    pub at : (page : ℕ) → page < 2 ^ 20 → get (entries_of (shows.slots new then)) page ≡ entry_in (shows.slots new then page)
    pub noted_is : IsSome result → (frame : ℕ) → is_among frame wrote ≡ false
        → shows.read_from new frame ≡ read_by (shows.read_from old) tables frame
    pub marked_is : MatchOption result (shows.stale new ≡ true → shows.stale old ≡ true)
        (λ n. shows.stale new ≡ (shows.stale old || list_any (read_by (shows.read_from old) tables) wrote))
    pub cr3_is : shows.cr3 new ≡ shows.cr3 old
    pub others_are : OthersAre result tables wrote (shows.other_roots old memory) (shows.other_roots new then)

  pub closed_none : (old new : S) (memory then : List ℕ) (set : Set) (tables wrote : List ℕ) (result : Option ℕ) → Settled old new memory
      then set tables wrote result → is_none result ≡ true → pages_kept shows new then ≡ 0
  closed_none old new memory then set tables wrote None s e = none_pages shows new then s.entries s.others_are
  closed_none old new memory then set tables wrote (Some n) s e = absurd (let f : false ≡ true = e in cc)

  pub closed_ready : (out : ℕ → Bool) (m : Setting) (cpu : Cpu) (old new : S) (memory then : List ℕ) (set : Set) (tables wrote : List ℕ)
      (result : Option ℕ) → Settled old new memory then set tables wrote result
      → shown m then ≡ shown m memory → IsReadyBehind shows out m cpu old memory set tables wrote → IsReadyBut shows out m cpu new then
  closed_ready out m cpu old new memory then set tables wrote None s ram h =
      none_ready shows out m cpu new then (s.cr3_is ∙ h.cr3_is) (no_slots (shows.slots new then) s.at s.entries) s.others_are
  closed_ready out m cpu old new memory then set tables wrote (Some n) s ram h =
      let parts = λ (un : shows.stale new ≡ false). or_parts (shows.stale old) (list_any (read_by (shows.read_from old) tables) wrote)
      (shows.stale new) s.marked_is un in
      settled_ready shows out m cpu old new memory then set tables wrote s.cr3_is parts
      (λ un page lt e. found_tables (shown m memory) m.frames cpu.cr3 (Rattle.descriptors.specs.Controls.pse_of cpu)
      (read_by (shows.read_from old) tables) (shows.read_from new) page e
      (λ f r. s.noted_is refl f (unwritten f (parts un).1 r) ∙ r))
      (λ page lt. ap (λ (x : Set). get x page) (sym s.entries) ∙ s.at page lt)
      (lost_shed (guest_frames tables) (all_spared wrote (shows.other_roots old memory)) (shows.other_roots new then) s.others_are) ram h
    where
      by : (f : ℕ) (b : Bool) → is_among f wrote ≡ b → list_any (read_by (shows.read_from old) tables) wrote ≡ false
          → read_by (shows.read_from old) tables f ≡ true → is_among f wrote ≡ false
      by f true e none r =
          absurd (clash (read_by (shows.read_from old) tables f) r (any_none (read_by (shows.read_from old) tables) wrote none f e))
      by f false e none r = e

      unwritten : (f : ℕ) → list_any (read_by (shows.read_from old) tables) wrote ≡ false → read_by (shows.read_from old) tables f ≡ true
          → is_among f wrote ≡ false
      unwritten f none r = by f (is_among f wrote) refl none r

-- how many were filled, and how many are kept then
module _ {S : Type 0} (g : shadows.Ghosts S) (side : Side) (old new : Stand S) (state : StepState) where
  pub counts_join : (result : Option ℕ) → IfSome result (λ n. n ≤ 128) → IfSome result (λ n. FillsIn g side old state n)
      → IfSome result (λ n. count_in g new ≤ count_in g old + n) → IfSome result (λ n. IsFilledBy g side old new state n)
  counts_join None few exact filled = tt
  counts_join (Some n) few exact filled = record { few = few; exact = exact; filled = filled }
