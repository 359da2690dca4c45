-- Shadows, the pool whose frames they hold, and the memory in which they stand, as one value.
use Rattle.std.specs.Prelude.{◌≡◌, ℕ, ◌+◌, ◌/◌, ◌≤◌, List, length, Bool, true}
use Rattle.descriptors.specs.declared.cpu.Cpu.{Cpu}
use Rattle.frame_pool.specs.Held.{Owns, Moves}
use Rattle.frame_pool.specs.Pool.{free_list}
use Rattle.frame_pool.specs.declared.Pool.{Pool}
use Rattle.guest_ram.specs.Among.{is_among}
use Rattle.shadow_tables.specs.Entries.{entries_of}
use Rattle.shadow_tables.specs.declared.shadows.Shadows as bound
use Rattle.shadow_tables.specs.declared.words.Side.{Side}
use Rattle.step_mem.specs.Changes.{changed}
use Rattle.step_mem.specs.declared.state.StepState.{StepState}
use Rattle.wedge_mem.specs.Seen.{IsSoundBy}
use Rattle.wedge_mem.specs.Settled.{IsFillCount, pages_of}
use Rattle.machine_model.specs.Run.{Set}
use Rattle.machine_model.specs.State.{Setting}
use Rattle.machine_step.specs.declared.worked.Dropped.{Dropped}
use Rattle.native_steps.specs.Mirrors.{shown}
use Rattle.wedge_step.specs.Closed.{MayClose, Closes}
use Rattle.wedge_step.specs.Filled.{pages_kept}
use Rattle.wedge_step.specs.Leaving.{RulesSame}
use Rattle.wedge_step.specs.Ready.{AreFound, IsReady, IsReadyBut, IsReadyBehind, is_all}
use Rattle.shadow_tables.specs.Sight.{Sight, StaysBeside, sight}

pub record Stand (S : Type 0) : Type 0 where
  pub shadows : S
  pub pool : Pool
  pub memory : List ℕ

abbrev pub stand : {S : Type 0} → S → Pool → List ℕ → Stand S
stand shadows pool memory = record { shadows = shadows; pool = pool; memory = memory }

-- how many frames of the pool are free
abbrev pub free_in : {S : Type 0} → Stand S → ℕ
free_in c = length (free_list c.pool c.memory)

-- the pages that a step went through, and then those whose entries it changed
abbrev pub pages_through : StepState → List ℕ
pages_through state = pages_of state.visited state.changes

-- these pages lie under the directory indices of which the test is true
abbrev pub AreUnder : List ℕ → (ℕ → Bool) → Type 0
AreUnder pages indices = (page : ℕ) → is_among page pages ≡ true → indices (page / 1024) ≡ true

module _ {S : Type 0} (g : bound.Ghosts S) where
  abbrev pub sight_in : Stand S → Sight
  sight_in c = sight g c.shadows c.memory

  -- the translations that are kept
  abbrev pub set_in : Stand S → Set
  set_in c = entries_of (g.slots c.shadows c.memory)

  -- and what a step left of them
  abbrev pub set_behind : Stand S → StepState → Set
  set_behind c state = changed (set_in c) state.changes

  -- how many pages are kept, for all values of CR3
  abbrev pub count_in : Stand S → ℕ
  count_in c = pages_kept g c.shadows c.memory

  -- how many frames of the pool are free or held
  abbrev pub room_in : Stand S → ℕ
  room_in c = free_in c + length (g.frames c.shadows c.memory)

  -- the memory is as the shadows left it, and they hold their frames of the pool
  pub record IsOwned (c : Stand S) : Type 0 where
    pub stands : ∥ g.stands c.shadows c.memory ∥₁
    pub owns : Owns c.pool c.memory (g.frames c.shadows c.memory)

  -- so it is again, and no other frame that was out was written
  pub record Moved (old new : Stand S) : Type 0 where
    pub stands : ∥ g.stands new.shadows new.memory ∥₁
    pub owns : Owns new.pool new.memory (g.frames new.shadows new.memory)
    pub moves : Moves old.pool new.pool old.memory new.memory (g.frames old.shadows old.memory) (g.frames new.shadows new.memory)

  -- what a step did so far is sound over them
  abbrev pub IsSoundIn : Stand S → StepState → Type 0
  IsSoundIn c state = IsSoundBy g c.shadows c.pool c.memory state

  -- they have tables under no other directory indices than before
  abbrev pub OpensNoMore : Stand S → Stand S → Type 0
  OpensNoMore old new =
      (indices : ℕ → Bool) → g.has_tables_under old.shadows old.memory indices → g.has_tables_under new.shadows new.memory indices

  -- nor but for these pages
  abbrev pub OpensFor : List ℕ → Stand S → Stand S → Type 0
  OpensFor pages old new =
      (indices : ℕ → Bool) → AreUnder pages indices → g.has_tables_under old.shadows old.memory indices
      → g.has_tables_under new.shadows new.memory indices

  -- with tables under these directory indices alone, two of so many frames stay free
  abbrev pub Suffices : (ℕ → Bool) → ℕ → Type 0
  Suffices indices room =
      (s : S) (memory : List ℕ) → ∥ g.stands s memory ∥₁ → g.has_tables_under s memory indices → length (g.frames s memory) + 2 ≤ room

  -- a view of this side may show each page that the step went through, and frames suffice
  abbrev pub MayCloseIn : ℕ → Side → Stand S → StepState → Type 0
  MayCloseIn count side c state = MayClose count side (set_behind c state) (pages_through state) (free_in c)

  -- all that the step left is kept
  abbrev pub ClosesIn : Side → Stand S → Stand S → StepState → Type 0
  ClosesIn side old new state =
      Closes (g.slots old.shadows old.memory) (g.slots new.shadows new.memory) (set_behind old state) (pages_through state) side
      state.control.wp (g.write_protected new.shadows) state.wrote

  -- So many pages are filled after a step, on this side: of those that it went through, each once that has an entry, if the
  -- step changed that or what is kept doesn't let the host do there all that it does.
  abbrev pub FillsIn : Side → Stand S → StepState → ℕ → Type 0
  FillsIn side c state n =
      IsFillCount (g.slots c.shadows c.memory) (set_behind c state) state.changes state.tables state.visited side state.control.wp n

  -- So many pages were filled. No more are kept than were before and these.
  pub record IsFilledBy (side : Side) (old new : Stand S) (state : StepState) (n : ℕ) : Type 0 where
    pub few : n ≤ 128
    pub exact : FillsIn side old state n
    pub filled : count_in new ≤ count_in old + n

  -- The rules are the same, and what is kept beside what is present. Where the instruction drops all, nothing was done.
  pub record KeepsRules (dropped : Dropped) (before after : Cpu) (old new : Stand S) : Type 0 where
    pub rules : RulesSame before after
    pub beside : StaysBeside (sight_in old) (sight_in new)
    pub same : is_all dropped ≡ true → (new.shadows ≡ old.shadows) × (new.memory ≡ old.memory) × (new.pool ≡ old.pool)

  -- what is kept can be found again, but for the pages that the test leaves out
  abbrev pub IsReadyButIn : (ℕ → Bool) → Setting → Cpu → Stand S → Type 0
  IsReadyButIn out m cpu c = IsReadyBut g out m cpu c.shadows c.memory

  abbrev pub IsReadyIn : Setting → Cpu → Stand S → Type 0
  IsReadyIn m cpu c = IsReady g m cpu c.shadows c.memory

  -- so it is after a step, of what the step left
  abbrev pub IsReadyBehindIn : (ℕ → Bool) → Setting → Cpu → Stand S → StepState → Type 0
  IsReadyBehindIn out m cpu c state =
      IsReadyBehind g out m cpu c.shadows c.memory (set_behind c state) state.tables state.wrote

  -- each page that is kept is found from this directory
  abbrev pub AreFoundIn : Setting → Cpu → ℕ → Stand S → Type 0
  AreFoundIn m cpu cr3 c = AreFound m cpu (shown m c.memory) cr3 (g.read_from c.shadows) (g.slots c.shadows c.memory)
