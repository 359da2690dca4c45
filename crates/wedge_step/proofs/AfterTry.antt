-- What a try at an instruction leaves of what a guest holds, and what is held after it.
use Rattle.std.proofs.Common.{◌≡◌, ℕ, ◌+◌, ◌*◌, ◌%◌, ◌≤◌, ◌<◌, ◌^◌, List, length, drop, refl, ap, ◌∙◌, arith}
use Rattle.descriptors.specs.Controls.{wp_of}
use Rattle.board.specs.Scripts.{Events}
use Rattle.frame_pool.specs.Held.{Owns, Moves, SameIn}
use Rattle.frame_pool.specs.Pool.{base_of, free_list}
use Rattle.frame_pool.specs.declared.Pool.{Pool}
use Rattle.frame_pool.proofs.Above.{free_list-above}
use Rattle.image_check.specs.Image.{Image}
use Rattle.image_load.specs.Boot.{text_pages}
use Rattle.shadow_tables.specs.Entries.{entries_of}
use Rattle.shadow_tables.specs.Slots.{SameSlots}
use Rattle.shadow_tables.specs.declared.shadows.Shadows as shadows
use Rattle.step_mem.specs.Changes.{AreWithin}
use Rattle.step_mem.specs.Shown.{beyond}
use Rattle.machine_model.specs.State.{wedge}
use Rattle.native_steps.specs.Mirrors.{shown}
use Rattle.wedge_step.specs.Pools.{Keeps}
use Rattle.wedge_step.specs.Standing.{IsHeld, AreOpen, ground}
use Rattle.wedge_step.specs.declared.running.Running.{Running}
use Rattle.wedge_step.proofs.Keeping.{keeps_join, keeps_above, keeps_moves}
use Rattle.wedge_step.proofs.Memories.{Leaves, step_leaves, text_within, front_same, host_same, host_left}

-- events are no part of memory
pub any_script : (image : Image) (script : Events) (n : ℕ) (ram : List ℕ) → shown (wedge image script n) ram ≡ shown (ground image n) ram
unfolding shown
any_script image script n ram = refl

module _ {S : Type 0} (shows : shadows.Ghosts S) where
  pub record After (image : Image) (n : ℕ) (shadows : S) (pool : Pool) (old new : List ℕ) : Type 0 where
    pub left : Leaves (text_pages image) n old new
    pub same : SameIn (shows.frames shadows old) old new
    pub behind : 4096 * n ≤ 4096 * base_of pool
    pub frames_same : shows.frames shadows new ≡ shows.frames shadows old
    pub free_same : free_list pool new ≡ free_list pool old
    pub slots_same : SameSlots (shows.slots shadows old) (shows.slots shadows new)
    pub entries_same : entries_of (shows.slots shadows new) ≡ entries_of (shows.slots shadows old)

  pub after : ((s : S) (p : Pool) (m m' : List ℕ) (limit : ℕ) → Owns p m (shows.frames s m) → limit ≤ 4096 * base_of p → drop limit m'
      ≡ drop limit m → length m' ≡ length m → SameIn (shows.frames s m) m m')
      → ((s : S) (m m' : List ℕ) → ∥ shows.stands s m ∥₁ → SameIn (shows.frames s m) m m' → shows.frames s m' ≡ shows.frames s m)
      → ((s : S) (m m' : List ℕ) → ∥ shows.stands s m ∥₁ → SameIn (shows.frames s m) m m' → SameSlots (shows.slots s m) (shows.slots s m'))
      → ((s : S) (m m' : List ℕ) → ∥ shows.stands s m ∥₁ → SameIn (shows.frames s m) m m' → entries_of (shows.slots s m')
      ≡ entries_of (shows.slots s m))
      → (image : Image) (running : Running S) (pool : Pool) (ram0 ram1 : List ℕ) (first count : ℕ)
      → IsHeld shows (ground image running.frames) running pool ram0 → 4096 * running.frames ≤ length ram1 → first ≡ 256
      → count ≡ text_pages image
      → beyond first count running.frames ram1 ≡ beyond first count running.frames ram0
      → After image running.frames running.shadows pool ram0 ram1
  after above same_frames same_slots same_entries image running pool ram0 ram1 first count held fits first_is count_is hid =
      let n = running.frames in
      let left = step_leaves image n first count ram0 ram1 held.wedge.room held.host.room fits first_is count_is hid in
      let behind : 4096 * n ≤ 4096 * base_of pool = (let h = held.behind in omega (arith, h)) in
      let same = above running.shadows pool ram0 ram1 (4096 * n) held.owns behind left.above left.size in
      record {
        left = left;
        same = same;
        behind = behind;
        frames_same = same_frames running.shadows ram0 ram1 held.stand same;
        free_same = free_list-above pool ram0 ram1 (4096 * n) behind left.above left.size held.owns.stands;
        slots_same = same_slots running.shadows ram0 ram1 held.stand same;
        entries_same = same_entries running.shadows ram0 ram1 held.stand same;
      }

  -- the frames are as many as they were
  pub few_after : (image : Image) (running : Running S) (pool : Pool) (ram0 ram1 : List ℕ)
      → IsHeld shows (ground image running.frames) running pool ram0 → After image running.frames running.shadows pool ram0 ram1
      → length (free_list pool ram1) + length (shows.frames running.shadows ram1) < 2 ^ 32
  few_after image running pool ram0 ram1 held a =
      let free = ap length a.free_same in
      let same = ap length a.frames_same in
      let few = held.few in
      omega (arith, free, same, few)

  pub held_then : (image : Image) (old new : Running S) (pool0 pool2 : Pool) (ram0 ram1 ram2 : List ℕ)
      → IsHeld shows (ground image old.frames) old pool0 ram0 → After image old.frames old.shadows pool0 ram0 ram1
      → Owns pool0 ram1 (shows.frames old.shadows ram1) → Moves pool0 pool2 ram1 ram2 (shows.frames old.shadows ram1)
      (shows.frames new.shadows ram2) → ∥ shows.stands new.shadows ram2 ∥₁ → Owns pool2 ram2 (shows.frames new.shadows ram2)
      → new.held ≡ length (shows.frames new.shadows ram2) → new.fills ≤ 128 * new.step → new.frames ≡ old.frames
      → AreWithin old.frames (entries_of (shows.slots new.shadows ram2)) → AreOpen image (wp_of new.cpu) (shows.slots new.shadows ram2)
      → IsHeld shows (ground image old.frames) new pool2 ram2
  held_then image old new pool0 pool2 ram0 ram1 ram2 held a owned moves stand owns counted fills frames_are within has_tables_under =
      let m = ground image old.frames in
      let room = held.wedge.room in
      let text = text_within image in
      let front = front_same old.frames pool0 pool2 ram1 ram2 (shows.frames old.shadows ram1) (shows.frames new.shadows ram2)
      held.behind owned moves in
      let free = ap length a.free_same in
      let same = ap length a.frames_same in
      let few = held.few in
      let lengths = moves.lengths in
      record {
        wedge = held.wedge;
        frames_are = frames_are;
        size = held.size;
        host = host_same m ram1 ram2 (omega (arith, room, text)) moves.size front
            (host_left m (text_pages image) ram0 ram1 text a.left held.host);
        whole = ap (λ (k : ℕ). k % 4096) (moves.size ∙ a.left.size) ∙ held.whole;
        behind = (let h = held.behind in let e = moves.same.0 in omega (arith, h, e));
        stand = stand;
        owns = owns;
        counted = counted;
        few = omega (arith, few, free, same, lengths);
        fills = fills;
        within = within;
        open_to = has_tables_under;
      }

  pub keeps_then : (image : Image) (old new : Running S) (pool0 pool2 : Pool) (ram0 ram1 ram2 : List ℕ)
      → IsHeld shows (ground image old.frames) old pool0 ram0 → After image old.frames old.shadows pool0 ram0 ram1
      → Moves pool0 pool2 ram1 ram2 (shows.frames old.shadows ram1) (shows.frames new.shadows ram2)
      → Keeps pool0 pool2 ram0 ram2 (shows.frames old.shadows ram0) (shows.frames new.shadows ram2)
  keeps_then image old new pool0 pool2 ram0 ram1 ram2 held a moves =
      let fs = shows.frames old.shadows ram0 in
      let gs = shows.frames old.shadows ram1 in
      let hs = shows.frames new.shadows ram2 in
      keeps_join pool0 pool0 pool2 ram0 ram1 ram2 fs gs hs
      (keeps_above pool0 ram0 ram1 (4096 * old.frames) fs gs held.owns.stands a.behind a.left.above a.left.size a.frames_same)
      (keeps_moves pool0 pool2 ram1 ram2 gs hs moves)

  pub keeps_still : (image : Image) (old : Running S) (pool0 : Pool) (ram0 ram1 : List ℕ) → IsHeld shows (ground image old.frames) old pool0
      ram0 → After image old.frames old.shadows pool0 ram0 ram1
      → Keeps pool0 pool0 ram0 ram1 (shows.frames old.shadows ram0) (shows.frames old.shadows ram1)
  keeps_still image old pool0 ram0 ram1 held a =
      keeps_above pool0 ram0 ram1 (4096 * old.frames) (shows.frames old.shadows ram0) (shows.frames old.shadows ram1) held.owns.stands
      a.behind a.left.above a.left.size a.frames_same
