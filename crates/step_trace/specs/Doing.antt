-- What the processor does in the step from a state, by the translations that the step may use, which stand in the state.
use Rattle.std.specs.Prelude.{ℕ, Bool, true, false, List, [], Option, Some, None}
use Rattle.ia32_types.specs.declared.flags.Regs.{Regs}
use Rattle.ia32_decode.specs.declared.answer.Decoded.{Decoded}
use Rattle.ia32_decode.specs.declared.answer.Decoded.TheVariants as begins
use Rattle.ia32_exec.specs.declared.access.Range.{Range}
use Rattle.ia32_exec.specs.Effect.{ranges_of}
use Rattle.board.specs.Boards.{given}
use Rattle.linear_view.specs.View.{View, view_of}
use Rattle.linear_view.specs.Instruction.{instruction_at}
use Rattle.linear_view.specs.Range.{places_of, bytes_there}
use Rattle.linear_view.specs.declared.range.Places.{Places}
use Rattle.machine_step.specs.declared.worked.Raised.{Raised}
use Rattle.machine_model.specs.State.{Setting, State}
use Rattle.machine_model.specs.Step.{interrupt_of}
use Rattle.step_text.specs.declared.activity.Activity.{Activity}
use Rattle.step_text.specs.declared.activity.Activity.TheVariants as activity

abbrev pub view_before : Setting → State → View
view_before m b = view_of b.ram m.frames b.cpu b.set

-- what the bytes at EIP begin with, or that they have no translation
abbrev pub carried_out : Option Decoded → Activity
carried_out None = activity.Unfetched
carried_out (Some (begins.Insn insn len)) = activity.CarriesOut insn len
carried_out (Some begins.Short) = activity.Unsupported
carried_out (Some begins.Outside) = activity.Unsupported

-- an interrupt is taken, the processor waits, or it carries out the instruction at EIP
abbrev pub doing : Option ℕ → Bool → Option Decoded → Activity
doing (Some vector) halted found = activity.Takes vector
doing None true found = activity.Waits
doing None false found = carried_out found

unfoldable pub activity_of : Setting → State → Activity
activity_of m b =
    doing (interrupt_of b.cpu (given b.board m.script b.step)) b.cpu.halted (instruction_at (view_before m b) b.cpu.regs.eip)

-- the range that an instruction writes
unfoldable pub range_of : Activity → Regs → Option Range
range_of (activity.CarriesOut insn len) regs = (ranges_of insn regs).write
range_of _ regs = None

-- where it raised nothing the range was written
abbrev pub written_range : Option Range → Option Raised → Option Range
written_range range None = range
written_range range (Some raised) = None

abbrev pub start_of : Option Range → ℕ
start_of None = 0
start_of (Some range) = range.at

-- by these translations
abbrev pub bytes_by : List ℕ → Places → Option Range → List ℕ
bytes_by ram places None = []
bytes_by ram places (Some range) = bytes_there ram places range.at range.len

-- the bytes that stand in a range after the step, by the translations by which the write goes
unfoldable pub bytes_after : Setting → State → List ℕ → Option Range → List ℕ
bytes_after m b ram None = []
bytes_after m b ram (Some range) = bytes_there ram (places_of (view_before m b) b.cpu range.at range.len) range.at range.len
