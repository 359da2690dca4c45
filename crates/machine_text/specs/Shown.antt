-- A whole machine as text.
use Rattle.std.specs.Prelude.{ℕ, List, ◌++◌}
use Rattle.descriptors.specs.declared.cpu.Cpu.{Cpu}
use Rattle.board.specs.declared.devices.Board.{Board}
use Rattle.linear_view.specs.View.{View}
use Rattle.machine_text.specs.Registers.{registers_text}
use Rattle.machine_text.specs.Next.{next_text}
use Rattle.machine_text.specs.Devices.{devices_text}
use Rattle.machine_text.specs.Cached.{cached_text}

-- registers, the next instruction, devices, and what is cached
unfoldable pub state_text : Cpu → View → Board → List ℕ
state_text cpu v board = registers_text cpu ++ next_text v cpu.regs.eip ++ devices_text board ++ cached_text v.set
