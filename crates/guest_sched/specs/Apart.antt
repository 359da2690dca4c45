-- What is known of several kernels between two slices, while one of them stands in the host's memory.
use Rattle.std.specs.Prelude.{◌≡◌, ◌⊎◌, ℕ, ◌+◌, ◌*◌, ◌≤◌, Bool, true, List, [], ◌∷◌, ◌++◌, length, take, drop}
use Rattle.std.specs.FinMap.{empty}
use Rattle.frame_pool.specs.Pool.{base_of, count_of, free_list}
use Rattle.frame_pool.specs.declared.Pool.{Pool}
use Rattle.frame_pool.specs.Held.{times, Owns}
use Rattle.image_check.specs.Image.{Image}
use Rattle.machine_model.specs.Run.{with_set}
use Rattle.machine_model.specs.State.{Setting, State}
use Rattle.shadow_cache.specs.Views as roots
use Rattle.wedge_core.specs.OfRoots.{of_roots}
use Rattle.shadow_cache.specs.declared.roots.Roots.{Roots}
use Rattle.wedge_step.specs.Filled.{WereFilled, pages_kept}
use Rattle.wedge_step.specs.Ready.{IsReady}
use Rattle.wedge_step.specs.Standing.{IsHeld, IsAble, ground, state_of}
use Rattle.wedge_step.specs.declared.running.Running.{Running}

-- A kernel with its image and what runs it, the host's memory as it is while the kernel's own memory stands at its front,
-- and whether it may go on: it hasn't met a stop.
pub record Seat : Type 0 where
  pub image : Image
  pub running : Running Roots
  pub memory : List ℕ
  pub live : Bool

-- the frames of the pool that it holds
abbrev pub held_by : Seat → List ℕ
held_by s = roots.frames s.running.shadows s.memory

-- Its shadows stand in frames of the pool, which it holds.
pub record HoldsFrames (frames : ℕ) (pool : Pool) (s : Seat) : Type 0 where
  pub frames_are : s.running.frames ≡ frames
  pub room : 4096 * frames ≤ length s.memory
  pub stand : ∥ roots.stands s.running.shadows s.memory ∥₁
  pub owns : Owns pool s.memory (held_by s)
  pub counted : s.running.held ≡ length (held_by s)

-- A slice of it may begin, once its memory is in the host's.
pub record MayGoOn (frames : ℕ) (pool : Pool) (s : Seat) : Type 0 where
  pub held : IsHeld of_roots (ground s.image frames) s.running pool s.memory
  pub ready : IsReady of_roots (ground s.image frames) s.running.cpu s.running.shadows s.memory
  pub able : IsAble s.running.cpu
  pub filled : WereFilled (pages_kept of_roots s.running.shadows s.memory) s.running.fills

pub record IsSeated (frames : ℕ) (pool : Pool) (s : Seat) : Type 0 where
  pub holds : HoldsFrames frames pool s
  pub goes_on : s.live ≡ true → MayGoOn frames pool s

-- so of each kernel; and each one's memory goes on past its own as the host's does
abbrev pub AreSeated : ℕ → Pool → List ℕ → List Seat → Type 0
AreSeated frames pool host [] = Unit {0}
AreSeated frames pool host (s ∷ seats) =
    IsSeated frames pool s × (length s.memory ≡ length host) × (drop (4096 * frames) s.memory ≡ drop (4096 * frames) host)
    × AreSeated frames pool host seats

-- how often a frame is held, and how many are held
abbrev pub times_held : ℕ → List Seat → ℕ
times_held f [] = 0
times_held f (s ∷ seats) = times f (held_by s) + times_held f seats

abbrev pub all_held : List Seat → ℕ
all_held [] = 0
all_held (s ∷ seats) = length (held_by s) + all_held seats

-- No frame is held by two kernels, and those that are held are, with the free ones, all of the pool, which lies past the
-- kernels' memory.
pub record AreApart (frames : ℕ) (pool : Pool) (host : List ℕ) (seats : List Seat) : Type 0 where
  pub seated : AreSeated frames pool host seats
  pub once : (f : ℕ) → times_held f seats ≤ 1
  pub all : length (free_list pool host) + all_held seats ≡ count_of pool
  pub few : count_of pool ≤ 512
  pub behind : frames ≤ base_of pool

-- the kernel's memory where the host's has become another past the kernels'
abbrev pub behind_as : ℕ → List ℕ → Seat → Seat
behind_as frames host s = record s { memory = take (4096 * frames) s.memory ++ drop (4096 * frames) host }

abbrev pub MayForget : State → State → Type 0
MayForget old new = (new ≡ old) ⊎ (new ≡ with_set old empty)

-- Its machine is as it was, or has forgotten its translations.
pub record StaysSo (frames : ℕ) (old new : Seat) : Type 0 where
  pub step : new.running.step ≡ old.running.step
  pub fills : new.running.fills ≡ old.running.fills
  pub state : (m : Setting) → m.frames ≡ frames → MayForget (state_of of_roots m old.running old.memory)
      (state_of of_roots m new.running new.memory)

-- so of each kernel
abbrev pub EachStays : ℕ → List Seat → List Seat → Type 0
EachStays frames [] [] = Unit {0}
EachStays frames (old ∷ olds) (new ∷ news) = StaysSo frames old new × EachStays frames olds news
EachStays frames olds news = ⊥
