-- What shadows show over memory: a step's state over what they keep, and what their calls leave.
use Rattle.std.specs.Prelude.{◌≡◌, ℕ, ◌*◌, ◌/◌, List, Bool, true, false, ◌||◌}
use Rattle.std.specs.FinMap.{FinMap}
use Rattle.std.specs.List.{list_any}
use Rattle.std.specs.Ordering.{nat_cmp}
use Rattle.frame_pool.specs.Held.{Owns}
use Rattle.frame_pool.specs.Pool.{base_of}
use Rattle.frame_pool.specs.declared.Pool.{Pool}
use Rattle.guest_ram.specs.Among.{is_among}
use Rattle.paging.specs.declared.entry.Entry.{Entry}
use Rattle.shadow_tables.specs.OtherRoot.{AreSame}
use Rattle.shadow_tables.specs.Entries.{entries_of}
use Rattle.shadow_tables.specs.Slots.{ArePart}
use Rattle.shadow_tables.specs.declared.shadows.Shadows as shadows
use Rattle.shadow_tables.specs.declared.words.Side.{Side}
use Rattle.step_mem.specs.Changes.{changed}
use Rattle.step_mem.specs.Sound.{IsSound}
use Rattle.step_mem.specs.declared.changes.Change.{Change}
use Rattle.step_mem.specs.declared.state.StepState.{StepState}
use Rattle.wedge_mem.specs.Progress.{IsGoing}
use Rattle.wedge_mem.specs.declared.progress.Progress.{Progress}

module _ {S : Type 0} (g : shadows.Ghosts S) where
  -- ---- a step over what they keep

  -- the set that changes of a step leave of it
  abbrev pub set_after : S → List ℕ → List Change → FinMap nat_cmp Entry
  set_after s m changes = changed (entries_of (g.slots s m)) changes

  -- they stand over the memory, and the frames that they hold are the pool's
  abbrev pub StandsOver : S → Pool → List ℕ → Type 0
  StandsOver s pool m = (∥ g.stands s m ∥₁) × Owns pool m (g.frames s m)

  -- the step is sound, and all frames of the pool lie after the guest's
  abbrev pub IsSoundBy : S → Pool → List ℕ → StepState → Type 0
  IsSoundBy s pool ram state = IsSound (λ m. entries_of (g.slots s m)) (4096 * base_of pool) (StandsOver s pool) ram state

  abbrev pub IsGoingBy : S → Pool → List ℕ → Progress → Type 0
  IsGoingBy s pool ram p = IsGoing (λ m. entries_of (g.slots s m)) (4096 * base_of pool) (StandsOver s pool) ram p

  -- ---- what fills leave

  -- all but what is kept of pages under the present tables
  pub record KeepsRest (old new : S) (m m' : List ℕ) : Type 0 where
    pub write_protected : g.write_protected new ≡ g.write_protected old
    pub read_from : (frame : ℕ) → g.read_from new frame ≡ g.read_from old frame
    pub stale : g.stale new ≡ g.stale old
    pub cr3 : g.cr3 new ≡ g.cr3 old
    pub other_roots : AreSame (g.other_roots old m) (g.other_roots new m')
    pub roots : (view : Side) → g.directory new view ≡ g.directory old view

  -- they open tables for the page's directory index alone
  abbrev pub OpensUnder : ℕ → (old new : S) → (m m' : List ℕ) → Type 0
  OpensUnder page old new m m' =
      (indices : ℕ → Bool) → indices (page / 1024) ≡ true → g.has_tables_under old m indices → g.has_tables_under new m' indices

  -- for those of these pages alone
  abbrev pub OpensFor : List ℕ → (old new : S) → (m m' : List ℕ) → Type 0
  OpensFor pages old new m m' =
      (indices : ℕ → Bool) → ((page : ℕ) → is_among page pages ≡ true → indices (page / 1024) ≡ true)
      → g.has_tables_under old m indices → g.has_tables_under new m' indices

  -- ---- what telling of writes leaves

  -- They know that these frames were written: none of them is write-protected or noted any more, and the present tables are marked
  -- where one of them was noted.
  pub record KnowsWritten (wrote : List ℕ) (old new : S) : Type 0 where
    pub read_from : (frame : ℕ) → is_among frame wrote ≡ false → g.read_from new frame ≡ g.read_from old frame
    pub noted_less : (frame : ℕ) → g.read_from new frame ≡ true → g.read_from old frame ≡ true
    pub stale : g.stale new ≡ (g.stale old || list_any (g.read_from old) wrote)
    pub cr3 : g.cr3 new ≡ g.cr3 old
    pub write_protected : ArePart (g.write_protected new) (g.write_protected old)
    pub unprotected : (frame : ℕ) → is_among frame wrote ≡ true → is_among frame (g.write_protected new) ≡ false
