-- What a line says of the beginning of a step: its number, the level, EIP, and what the processor does.
use Rattle.std.specs.Prelude.{ℕ, List, ◌++◌, codes, decimal}
use Rattle.ia32_encode.specs.Short.{plain}
use Rattle.ia32_text.specs.declared.style.Style.{Style}
use Rattle.ia32_text.specs.declared.style.Target.TheVariants as to
use Rattle.ia32_text.specs.Text.{instruction_text}
use Rattle.descriptors.specs.declared.cpu.Cpu.{Cpu}
use Rattle.run_trace.specs.Text.{hex2, hex8}
use Rattle.step_text.specs.declared.activity.Activity.{Activity}
use Rattle.step_text.specs.declared.activity.Activity.TheVariants as activity

-- direct branches lead to addresses, and numbers are as they are
abbrev pub by_address : Style
by_address = record { target = to.Address; named = plain }

-- at this EIP
unfoldable pub activity_text : ℕ → Activity → List ℕ
activity_text eip activity.Waits = codes "halted"
activity_text eip (activity.Takes vector) = codes "irq " ++ hex2 vector
activity_text eip (activity.CarriesOut insn len) = instruction_text by_address insn eip len
activity_text eip activity.Unsupported = codes "unsupported"
activity_text eip activity.Unfetched = codes "unfetched"

-- the step's number, the level, and EIP
unfoldable pub place_text : ℕ → Cpu → List ℕ
place_text step cpu = decimal step ++ codes " " ++ decimal cpu.cpl ++ codes " " ++ hex8 cpu.regs.eip ++ codes " "

unfoldable pub began_text : ℕ → Cpu → Activity → List ℕ
began_text step cpu does = place_text step cpu ++ activity_text cpu.regs.eip does
