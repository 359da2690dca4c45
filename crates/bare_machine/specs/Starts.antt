-- How a machine starts.
use Rattle.std.specs.Prelude.{◌≡◌, ℕ, ◌≤◌, ◌<◌, Result, Ok, Err}
use Rattle.board.specs.Scripts.{Events}
use Rattle.image_check.specs.Image.{Image}
use Rattle.image_load.specs.Boot.{need}
use Rattle.image_load.specs.declared.fault.StartFault.{StartFault}
use Rattle.image_load.specs.declared.fault.StartFault.TheVariants as start
use Rattle.image_load.specs.declared.fault.RunFault.{RunFault}
use Rattle.image_load.specs.declared.fault.RunFault.TheVariants as fault
use Rattle.machine_model.specs.State.{boot}
use Rattle.machine_model.specs.Run.{Set}
use Rattle.bare_machine.specs.Machine.{state_of, IsKept}
use Rattle.bare_machine.specs.Settings.{bare}
use Rattle.bare_machine.specs.declared.machine.BareMachine as machines

-- the machine stands where every run begins
abbrev pub StartedAs : {C : Type 0} → (C → Set) → Image → ℕ → Result (machines.BareMachine C) StartFault → Type 0
StartedAs entries image frames (Ok machine) =
    (need image ≤ frames) × (machine.frames ≡ frames) × (machine.step ≡ 0) × IsKept frames (state_of entries machine)
    × ((script : Events) → state_of entries machine ≡ boot (bare image script frames))
StartedAs entries image frames (Err (start.TooSmall small)) = (frames < need image) × (small ≡ record { need = need image; have = frames })
StartedAs entries image frames (Err start.Memory) = Unit {0}

-- why a run does not begin
abbrev pub NotBegun : Image → ℕ → RunFault → Type 0
NotBegun image frames fault.Write = ⊥
NotBegun image frames (fault.TooSmall small) = (frames < need image) × (small ≡ record { need = need image; have = frames })
NotBegun image frames fault.Memory = Unit {0}

-- the machine with another cache
abbrev pub with_cache : {C : Type 0} → machines.BareMachine C → C → machines.BareMachine C
with_cache machine cache = record machine { kept = record { cache = cache } }
