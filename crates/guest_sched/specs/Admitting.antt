-- What is known while kernels are taken in, before the first turn.
use Rattle.std.specs.Prelude.{◌≡◌, ℕ, ◌+◌, ◌*◌, ◌≤◌, ◌<◌, true, List, [], ◌∷◌, length, take, drop}
use Rattle.std.specs.List.{All}
use Rattle.descriptors.specs.declared.cpu.Cpu.{Cpu}
use Rattle.frame_pool.specs.Pool.{base_of, count_of, free_list, Stands}
use Rattle.frame_pool.specs.declared.Pool.{Pool}
use Rattle.image_load.specs.Boot.{need, boot_cpu, boot_ram}
use Rattle.machine_model.specs.State.{boot}
use Rattle.wedge_core.specs.OfRoots.{of_roots}
use Rattle.wedge_step.specs.Pools.{Keeps}
use Rattle.wedge_step.specs.Standing.{state_of}
use Rattle.wedge_core.specs.declared.guest.Guest.{Guest}
use Rattle.guest_sched.specs.Apart.{Seat, held_by, IsSeated, AreApart, all_held}
use Rattle.guest_sched.specs.Seating.{seats_from}
use Rattle.guest_sched.specs.Shared.{alone, AllFit}
use Rattle.guest_sched.specs.declared.kernel.Kernel.{Kernel}
use Rattle.guest_sched.specs.declared.kernel.SharedFault.{SharedFault}
use Rattle.guest_sched.specs.declared.kernel.SharedFault.TheVariants as fault
use Rattle.guest_sched.specs.declared.tenants.Tenant.{Tenant}

-- a kernel that stands where its run begins
pub record IsAtStart (kernel : Kernel) (frames : ℕ) (s : Seat) : Type 0 where
  pub state : state_of of_roots (alone kernel frames) s.running s.memory ≡ boot (alone kernel frames)
  pub fills : s.running.fills ≡ 0
  pub live : s.live ≡ true

abbrev pub EachAtStart : ℕ → List Kernel → List Seat → Type 0
EachAtStart frames [] [] = Unit {0}
EachAtStart frames (kernel ∷ kernels) (s ∷ seats) = IsAtStart kernel frames s × EachAtStart frames kernels seats
EachAtStart frames kernels seats = ⊥

-- These kernels were taken in: they are apart, each where its run begins, and each holds two frames of the pool.
pub record IsAdmitted (kernels : List Kernel) (frames : ℕ) (tenants : List Tenant) (pool : Pool) (present : ℕ)
    (host : List ℕ) : Type 0 where
  pub len : length tenants ≡ length kernels
  pub fits : AllFit frames kernels
  pub apart : AreApart frames pool host (seats_from frames host present 0 kernels tenants)
  pub theirs : All (λ (t : Tenant). 4096 * frames ≤ length t.ram) tenants
  pub each : EachAtStart frames kernels (seats_from frames host present 0 kernels tenants)
  pub two : all_held (seats_from frames host present 0 kernels tenants) ≡ 2 * length tenants
  pub stands : Stands pool host
  pub pool_is : (base_of pool ≡ frames) × (count_of pool ≡ 512)
  pub size : length host ≡ 4096 * (frames + 512)
  pub there : 1 ≤ length tenants → present < length tenants

-- No kernel stands in the host's memory any more. All are as they were, wherever their memory is.
pub record HasParked (frames : ℕ) (host host' : List ℕ) (present : ℕ) (tenants tenants' : List Tenant) : Type 0 where
  pub seats : (kernels : List Kernel) → seats_from frames host' (length tenants) 0 kernels tenants' ≡ seats_from frames host
      present 0 kernels tenants
  pub len : length tenants' ≡ length tenants
  pub theirs : All (λ (t : Tenant). 4096 * frames ≤ length t.ram) tenants'
  pub size : length host' ≡ length host
  pub behind : drop (4096 * frames) host' ≡ drop (4096 * frames) host

abbrev pub first_seat : Kernel → Guest → List ℕ → Seat
first_seat kernel guest memory = record { image = kernel.image; running = guest; memory = memory; live = true }

-- A kernel's memory as it starts was put to the front of the host's, and its shadows were made in two frames that were free.
pub record HasBegun (kernel : Kernel) (frames : ℕ) (p p' : Pool) (host host' : List ℕ) (guest : Guest) : Type 0 where
  pub seated : IsSeated frames p' (first_seat kernel guest host')
  pub start : IsAtStart kernel frames (first_seat kernel guest host')
  pub two : length (held_by (first_seat kernel guest host')) ≡ 2
  pub between : List ℕ
  pub size : length between ≡ length host
  pub behind : drop (4096 * frames) between ≡ drop (4096 * frames) host
  pub keeps : Keeps p p' between host' [] (held_by (first_seat kernel guest host'))

-- Its processor and its memory are as it starts. The host's memory is the kernels' and the pool's, with two free frames.
pub record MayBegin (kernel : Kernel) (frames : ℕ) (cpu : Cpu) (ram : List ℕ) (pool : Pool) (host : List ℕ) : Type 0 where
  pub fits : need kernel.image ≤ frames
  pub cpu_is : cpu ≡ boot_cpu kernel.image frames
  pub front : take (frames * 4096) ram ≡ boot_ram kernel.image frames
  pub len : frames * 4096 ≤ length ram
  pub size : length host ≡ 4096 * (frames + 512)
  pub pool_is : (base_of pool ≡ frames) × (count_of pool ≡ 512)
  pub stands : Stands pool host
  pub free : 2 ≤ length (free_list pool host)

-- why a kernel isn't taken in
abbrev pub CantAdmit : Kernel → ℕ → SharedFault → Type 0
CantAdmit kernel frames fault.Write = ⊥
CantAdmit kernel frames (fault.TooSmall small) = (frames < need kernel.image) × (small ≡ record { need = need kernel.image; have = frames })
CantAdmit kernel frames fault.Memory = Unit {0}

abbrev pub IsMemory : SharedFault → Type 0
IsMemory fault.Write = ⊥
IsMemory (fault.TooSmall small) = ⊥
IsMemory fault.Memory = Unit {0}
