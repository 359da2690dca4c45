-- What a try at the instruction at EIP left, before anything is kept of it.
use Rattle.std.proofs.Common.{◌≡◌, ℕ, ◌+◌, ◌*◌, ◌==◌, ◌≤◌, ◌<◌, ◌^◌, Bool, true, not, List, length, drop, sym, ap, subst, ◌∙◌, arith}
use Rattle.descriptors.specs.Controls.{wp_of}
use Rattle.guest_ram.specs.Bytes.{AreBytes}
use Rattle.board.specs.Scripts.{Events}
use Rattle.frame_pool.specs.Held.{Owns, SameIn}
use Rattle.frame_pool.specs.Pool.{base_of, free_list}
use Rattle.frame_pool.specs.declared.Pool.{Pool}
use Rattle.image_check.specs.Image.{Image}
use Rattle.image_load.specs.Boot.{text_pages}
use Rattle.paging.specs.Space.{Wedge, no_own, Space}
use Rattle.shadow_tables.specs.OtherRoot.{AreSame}
use Rattle.shadow_tables.specs.Entries.{entries_of}
use Rattle.shadow_tables.specs.Slots.{SameSlots}
use Rattle.shadow_tables.specs.declared.shadows.Shadows as shadows
use Rattle.step_mem.specs.Changes.{AreWithin, changed}
use Rattle.step_mem.specs.Shown as laying
use Rattle.step_mem.specs.Sound.{space_at}
use Rattle.step_mem.specs.declared.guard.Guard.{Guard}
use Rattle.step_mem.specs.declared.state.StepState.{StepState}
use Rattle.step_mem.specs.declared.walking.Control.{Control}
use Rattle.machine_model.specs.State.{wedge, wedge_mode, space_at_start}
use Rattle.native_steps.specs.Again as again
use Rattle.native_steps.specs.Forward.{IsNext}
use Rattle.native_steps.specs.Mirrors.{IsWedge, shown}
use Rattle.wedge_step.specs.Standing.{IsHeld, AreOpen, ground, state_of}
use Rattle.wedge_core.specs.Views.{may_run}
use Rattle.wedge_step.specs.declared.running.Running.{Running}
use Rattle.wedge_step.proofs.AfterTry.{After, any_script, after, few_after}
use Rattle.wedge_step.proofs.Memories.{shown_is}
use Rattle.wedge_core.proofs.Nexts.{next_from, starts}
use Rattle.wedge_step.proofs.Opening.{same_open}

module _ {S : Type 0} (shows : shadows.Ghosts S) where
  -- the state before it, in the words of a run with a script
  pub record Begun (image : Image) (r : Running S) (ram0 : List ℕ) (s0 : StepState) (script : Events) : Type 0 where
    pub start : space_at (λ x. entries_of (shows.slots r.shadows x)) ram0 s0 ≡ space_at_start (wedge_mode image) r.frames r.cpu
        (shown (wedge image script r.frames) ram0) (entries_of (shows.slots r.shadows ram0))
    pub wedge_is : IsWedge (wedge image script r.frames)
    pub bytes : AreBytes (shown (wedge image script r.frames) ram0)
    pub room : 4096 * r.frames ≤ length (shown (wedge image script r.frames) ram0)
    pub sound : again.AreWithin (wedge image script r.frames) (entries_of (shows.slots r.shadows ram0))
    pub next : IsNext (wedge image script r.frames) (not (r.cpu.cpl == 3)) (state_of shows (wedge image script r.frames) r ram0)

  pub record Tried (image : Image) (r : Running S) (pool : Pool) (ram0 ram1 : List ℕ) (s0 s1 : StepState) : Type 0 where
    pub a : After shows image r.frames r.shadows pool ram0 ram1
    pub frames1 : s1.control.frames ≡ r.frames
    pub others1 : AreSame (shows.other_roots r.shadows ram0) (shows.other_roots r.shadows ram1)
    pub counted1 : r.held ≡ length (shows.frames r.shadows ram1)
    pub few1 : length (free_list pool ram1) + length (shows.frames r.shadows ram1) < 2 ^ 32
    pub wp1 : s1.control.wp ≡ wp_of r.cpu
    pub open1 : AreOpen image s1.control.wp (shows.slots r.shadows ram1)
    pub within1 : AreWithin r.frames (changed (entries_of (shows.slots r.shadows ram1)) s1.changes)
    pub ram1_is : (script : Events) → (space_at (λ x. entries_of (shows.slots r.shadows x)) ram1 s1).ram ≡ shown
        (wedge image script r.frames) ram1
    pub begun : (script : Events) → Begun image r ram0 s0 script

  module _ (above : (s : S) (p : Pool) (m m' : List ℕ) (limit : ℕ) → Owns p m (shows.frames s m) → limit ≤ 4096 * base_of p → drop limit m'
      ≡ drop limit m → length m' ≡ length m → SameIn (shows.frames s m) m m')
      (same_frames : (s : S) (m m' : List ℕ) → ∥ shows.stands s m ∥₁ → SameIn (shows.frames s m) m m' → shows.frames s
      m' ≡ shows.frames s m)
      (same_slots : (s : S) (m m' : List ℕ) → ∥ shows.stands s m ∥₁ → SameIn (shows.frames s m) m m' → SameSlots
      (shows.slots s m) (shows.slots s m'))
      (same_entries : (s : S) (m m' : List ℕ) → ∥ shows.stands s m ∥₁ → SameIn (shows.frames s m) m m' → entries_of (shows.slots s m')
      ≡ entries_of (shows.slots s m))
      (same_other_roots : (s : S) (m m' : List ℕ) → ∥ shows.stands s m ∥₁ → SameIn (shows.frames s m) m m' → AreSame (shows.other_roots s m)
      (shows.other_roots s m'))
      (image : Image) (r : Running S) (pool : Pool) (ram0 ram1 : List ℕ) (s0 s1 : StepState) (first count : ℕ) (bytes : List ℕ)
      (guard : Guard) (guard0 : s0.guard ≡ guard)
      (first_is : first ≡ 256) (count_is : count ≡ text_pages image) (bytes_is : bytes ≡ image.text)
      (hides : (m : List ℕ) → laying.hidden guard r.frames m ≡ laying.beyond first count r.frames m)
      (lays : (m : List ℕ) → laying.shown_by guard.text.now r.frames m ≡ laying.laid bytes first r.frames m)
      (held : IsHeld shows (ground image r.frames) r pool ram0)
      (space0 : space_at (λ x. entries_of (shows.slots r.shadows x)) ram0 s0 ≡ space_at_start (Wedge first count no_own) r.frames r.cpu
      (laying.laid bytes first r.frames ram0) (entries_of (shows.slots r.shadows ram0)))
      (frames0 : s0.control.frames ≡ r.frames) (control : s1.control ≡ s0.control) (text : s1.guard.text ≡ s0.guard.text)
      (hidden : laying.hidden s0.guard s0.control.frames ram1 ≡ laying.hidden s0.guard s0.control.frames ram0)
      (fits : 4096 * s1.control.frames ≤ length ram1)
      (within : AreWithin s1.control.frames (changed (entries_of (shows.slots r.shadows ram1)) s1.changes))
      (are_bytes : AreBytes (shown (ground image r.frames) ram0)) (long : length (shown (ground image r.frames) ram0) ≡ 4096 * r.frames)
      (runs : may_run r.cpu r.board image ≡ true) (small : r.cpu.regs.eip < 2 ^ 32)
    where
      frames_same : s1.control.frames ≡ r.frames
      frames_same = ap (λ (k : Control). k.frames) control ∙ frames0

      hid : laying.beyond first count r.frames ram1 ≡ laying.beyond first count r.frames ram0
      hid =
          sym (hides ram1)
          ∙ (subst (λ (x : Guard). laying.hidden x r.frames ram1 ≡ laying.hidden x r.frames ram0) guard0
          (subst (λ (k : ℕ). laying.hidden s0.guard k ram1 ≡ laying.hidden s0.guard k ram0) frames0 hidden)
          ∙ hides ram0)

      fits1 : 4096 * r.frames ≤ length ram1
      fits1 = subst (λ (k : ℕ). 4096 * k ≤ length ram1) frames_same fits

      left : After shows image r.frames r.shadows pool ram0 ram1
      left = after shows above same_frames same_slots same_entries image r pool ram0 ram1 first count held fits1 first_is count_is hid

      wp_same : s1.control.wp ≡ wp_of r.cpu
      wp_same = ap (λ (k : Control). k.wp) control ∙ ap (λ (x : Space). x.wp) space0

      begins : (script : Events) → Begun image r ram0 s0 script
      begins script =
          let m = wedge image script r.frames in
          let b = state_of shows m r ram0 in
          let same = any_script image script r.frames ram0 in
          let as_long = ap length same in
          record {
            start = starts m b (Wedge first count no_own) (space_at (λ x. entries_of (shows.slots r.shadows x)) ram0 s0)
                (λ i. Wedge (sym first_is i) (sym count_is i) no_own) (laying.laid bytes first r.frames ram0)
                (shown_is m bytes first ram0 bytes_is first_is) space0;
            wedge_is = record { mode = held.wedge.mode; accepted = held.wedge.accepted; room = held.wedge.room };
            bytes = subst AreBytes (sym same) are_bytes;
            room = omega (arith, as_long, long);
            sound = λ page entry is. (held.within page entry is).1;
            next = next_from m b runs small;
          }

      pub tried_from : Tried image r pool ram0 ram1 s0 s1
      tried_from = record {
        a = left;
        frames1 = frames_same;
        others1 = same_other_roots r.shadows ram0 ram1 held.stand left.same;
        counted1 = held.counted ∙ ap length (sym left.frames_same);
        few1 = few_after shows image r pool ram0 ram1 held left;
        wp1 = wp_same;
        open1 = subst (λ (x : Bool). AreOpen image x (shows.slots r.shadows ram1)) (sym wp_same)
            (same_open image (wp_of r.cpu) (shows.slots r.shadows ram0) (shows.slots r.shadows ram1) left.slots_same held.open_to);
        within1 = subst (λ (k : ℕ). AreWithin k (changed (entries_of (shows.slots r.shadows ram1)) s1.changes)) frames_same within;
        ram1_is = λ script.
            (λ i. laying.shown_by ((text ∙ ap (λ (x : Guard). x.text) guard0) i).now (frames_same i) ram1)
            ∙ (lays ram1 ∙ shown_is (wedge image script r.frames) bytes first ram1 bytes_is first_is);
        begun = begins;
      }
