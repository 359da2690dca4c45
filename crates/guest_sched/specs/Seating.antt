-- The kernels that share a host as contracts see them.
use Rattle.std.specs.Prelude.{◌≡◌, ℕ, suc, ◌+◌, ◌*◌, ◌≤◌, ◌<◌, ◌==◌, List, [], ◌∷◌, ◌++◌, length, take, drop, map, slice_index_or, slice_set, None, true, is_none, if◌then◌else◌}
use Rattle.std.specs.List.{All}
use Rattle.frame_pool.specs.Pool.{count_of, free_list}
use Rattle.frame_pool.specs.declared.Pool.{Pool}
use Rattle.shadow_cache.specs.Views as roots
use Rattle.wedge_step.specs.Pools.{Keeps}
use Rattle.guest_sched.specs.Apart.{Seat, IsSeated, MayGoOn, AreApart, EachStays}
use Rattle.guest_sched.specs.Dropped.{AllDropped}
use Rattle.guest_sched.specs.Stages.{Stage}
use Rattle.guest_sched.specs.declared.kernel.Kernel.{Kernel}
use Rattle.guest_sched.specs.declared.tenants.Tenant.{Tenant}

-- the host's memory as it is while a kernel's own stands at its front
abbrev pub memory_with : ℕ → List ℕ → Tenant → List ℕ
memory_with frames host tenant = take (4096 * frames) tenant.ram ++ drop (4096 * frames) host

-- kernel i, where this kernel is present
abbrev pub seat_of : ℕ → List ℕ → ℕ → ℕ → Kernel → Tenant → Seat
seat_of frames host present i kernel tenant = record {
  image = kernel.image;
  running = tenant.guest;
  memory = if i == present then host else memory_with frames host tenant;
  live = is_none tenant.stop;
}

-- those from kernel i on
abbrev pub seats_from : ℕ → List ℕ → ℕ → ℕ → List Kernel → List Tenant → List Seat
seats_from frames host present i [] tenants = []
seats_from frames host present i (kernel ∷ kernels) [] = []
seats_from frames host present i (kernel ∷ kernels) (tenant ∷ tenants) =
    seat_of frames host present i kernel tenant ∷ seats_from frames host present (suc i) kernels tenants

-- Its memory is exchanged with the front of the host's.
abbrev pub HasExchanged : ℕ → List ℕ → ℕ → List Tenant → List Tenant → Type 0
HasExchanged frames host kernel tenants tenants' =
    (d : Tenant) → (new : Tenant) × (tenants' ≡ slice_set tenants kernel new)
    × (take (4096 * frames) new.ram ≡ take (4096 * frames) host) × (length new.ram ≡ length (slice_index_or tenants kernel d).ram)
    × (new.guest ≡ (slice_index_or tenants kernel d).guest) × (new.stop ≡ (slice_index_or tenants kernel d).stop)

-- Another kernel stands in the host's memory: all are as they were, wherever their memory is.
pub record HasBrought (frames : ℕ) (host host' : List ℕ) (present present' : ℕ) (tenants tenants' : List Tenant) : Type 0 where
  pub seats : (kernels : List Kernel) → seats_from frames host' present' 0 kernels tenants' ≡ seats_from frames host
      present 0 kernels tenants
  pub guests : map (λ (t : Tenant). t.guest) tenants' ≡ map (λ (t : Tenant). t.guest) tenants
  pub stops : map (λ (t : Tenant). t.stop) tenants' ≡ map (λ (t : Tenant). t.stop) tenants
  pub rooms : All (λ (t : Tenant). 4096 * frames ≤ length t.ram) tenants'
  pub size : length host' ≡ length host
  pub behind : drop (4096 * frames) host' ≡ drop (4096 * frames) host
  pub apart : (pool : Pool) (kernel : Kernel) (kernels : List Kernel)
      → AreApart frames pool host (seats_from frames host present 0 (kernel ∷ kernels) tenants)
      → AreApart frames pool host' (seats_from frames host' present' 0 (kernel ∷ kernels) tenants')

-- A kernel has dropped its shadows, and is as it was otherwise.
pub record HasReleased (p p' : Pool) (host host' : List ℕ) (old new : Tenant) : Type 0 where
  pub dropped : AllDropped p p' host host' old.guest.shadows new.guest.shadows old.guest.fills
  pub running : new.guest ≡ record old.guest { shadows = new.guest.shadows; held = 2 }
  pub ram : new.ram ≡ old.ram
  pub stop : new.stop ≡ old.stop

-- so kernel n of them
abbrev pub OneReleased : ℕ → Stage → Stage → Type 0
OneReleased kernel old new =
    (d : Tenant) → (then_ : Tenant) × (new.tenants ≡ slice_set old.tenants kernel then_)
    × HasReleased old.pool new.pool old.memory new.memory (slice_index_or old.tenants kernel d) then_

-- where kernels of these images were apart they still are
abbrev pub StaysApart : ℕ → Stage → Stage → Type 0
StaysApart frames old new =
    (kernels : List Kernel) → length kernels ≡ length old.tenants
    → AreApart frames old.pool old.memory (seats_from frames old.memory old.present 0 kernels old.tenants)
    → AreApart frames new.pool new.memory (seats_from frames new.memory old.present 0 kernels new.tenants)

-- and the machine of each is as it was, but for its translations
abbrev pub KeepsMachines : ℕ → Stage → Stage → Type 0
KeepsMachines frames old new =
    (kernels : List Kernel) → length kernels ≡ length old.tenants
    → AreApart frames old.pool old.memory (seats_from frames old.memory old.present 0 kernels old.tenants)
    → EachStays frames (seats_from frames old.memory old.present 0 kernels old.tenants)
    (seats_from frames new.memory old.present 0 kernels new.tenants)

-- They are the kernels of some images, and apart.
abbrev pub StandApart : ℕ → Pool → List ℕ → ℕ → List Tenant → Type 0
StandApart frames pool host present tenants = (kernels : List Kernel) × (length kernels ≡ length tenants)
    × AreApart frames pool host (seats_from frames host present 0 kernels tenants)

-- Four kernels at most, that are apart, share a pool of 512 frames.
pub record MayMakeRoom (frames : ℕ) (s : Stage) : Type 0 where
  pub there : s.present < length s.tenants
  pub theirs : All (λ (t : Tenant). 4096 * frames ≤ length t.ram) s.tenants
  pub apart : StandApart frames s.pool s.memory s.present s.tenants
  pub pool : (length s.tenants ≤ 4) × (count_of s.pool ≡ 512)

-- a kernel that may have given up frames, and is as it was otherwise
pub record MayGiveUp (old new : Tenant) : Type 0 where
  pub running : new.guest ≡ record old.guest { shadows = new.guest.shadows; held = new.guest.held }
  pub ram : new.ram ≡ old.ram
  pub stop : new.stop ≡ old.stop

-- so all but the present one, which keeps its own
pub record HasMadeRoom (present : ℕ) (tenants tenants' : List Tenant) : Type 0 where
  pub len : length tenants' ≡ length tenants
  pub stops : map (λ (t : Tenant). t.stop) tenants' ≡ map (λ (t : Tenant). t.stop) tenants
  pub each : (j : ℕ) (d : Tenant) → MayGiveUp (slice_index_or tenants j d) (slice_index_or tenants' j d)
  pub here : (d : Tenant) → slice_index_or tenants' present d ≡ slice_index_or tenants present d

-- a kernel that stands in the host's memory may go on
abbrev pub GoesOn : Kernel → Pool → List ℕ → Tenant → Type 0
GoesOn kernel pool host tenant =
    MayGoOn tenant.guest.frames pool (record { image = kernel.image; running = tenant.guest; memory = host; live = true })

-- It has met no stop, and it and the free frames have enough for a slice.
pub record TakesTurn (kernel : Kernel) (pool : Pool) (host : List ℕ) (tenant : Tenant) : Type 0 where
  pub fresh : tenant.stop ≡ None
  pub goes_on : GoesOn kernel pool host tenant
  pub enough : 16 ≤ length (free_list pool host) + tenant.guest.held

-- A kernel that stands in the host's memory has gone on, or has met a stop: it holds its frames, and may go on if it met none.
pub record HasGoneOn (kernel : Kernel) (p p' : Pool) (host host' : List ℕ) (old new : Tenant) : Type 0 where
  pub seated : IsSeated old.guest.frames p' (record { image = kernel.image; running = new.guest; memory = host'; live = is_none new.stop })
  pub keeps : Keeps p p' host host' (roots.frames old.guest.shadows host) (roots.frames new.guest.shadows host')
  pub ram : new.ram ≡ old.ram
