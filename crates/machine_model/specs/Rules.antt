-- What a monitor's rules ask of a step beside its translations. The bare machine asks nothing.
use Rattle.std.specs.Prelude.{ℕ, ◌/◌, ◌%◌, Bool, true, ◌&&◌, ◌||◌, not, ◌==◌}
use Rattle.descriptors.specs.declared.controls.TheConstants.{EFLAGS_IF, EFLAGS_IOPL}
use Rattle.descriptors.specs.declared.cpu.Cpu.{Cpu}
use Rattle.paging.specs.Fresh.{has}
use Rattle.paging.specs.Space.{Mode, Bare, Wedge}
use Rattle.image_check.specs.Image.{Image}
use Rattle.image_check.specs.Places.{is_start_at}
use Rattle.machine_model.specs.State.{Setting}

-- an instruction of the text stands at the linear address
abbrev pub is_start : Image → ℕ → Bool
is_start image eip = is_start_at image.text eip

abbrev pub may_begin : Mode → Image → ℕ → Bool
may_begin Bare image eip = true
may_begin (Wedge text count own) image eip = is_start image eip

-- at level 0 an instruction is fetched, and a handler entered, at a start of the text alone
abbrev pub stands_well : Setting → Cpu → Bool
stands_well m cpu = may_begin m.mode m.image cpu.regs.eip || not (cpu.cpl == 0)

-- a user's code runs with IF 1 and IOPL 0
abbrev pub is_open : Cpu → Bool
is_open cpu = has cpu.regs.flags.bits EFLAGS_IF && cpu.regs.flags.bits / EFLAGS_IOPL % 4 == 0

-- what an instruction of this processor may leave: from level 0 to level 3 it leads with such flags alone
abbrev pub may_leave : Mode → Cpu → Cpu → Bool
may_leave Bare cpu after = true
may_leave (Wedge text count own) cpu after = not (cpu.cpl == 0 && after.cpl == 3) || is_open after
