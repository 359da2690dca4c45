-- The lines of one step of a run.
use Rattle.std.specs.Prelude.{ℕ, ◌&&◌, nat_le, Bool, List, [], ◌∷◌, ◌++◌, Option, Some, None, if◌then◌else◌}
use Rattle.run_trace.specs.Text.{lines_of}
use Rattle.machine_step.specs.declared.worked.Raised.{Raised}
use Rattle.machine_step.specs.Raised.{raised_of}
use Rattle.step_text.specs.declared.raised.Raised as text
use Rattle.step_text.specs.Line.{went_line, stopping_line}
use Rattle.look_words.specs.Words.{Only}
use Rattle.machine_model.specs.State.{Setting, State}
use Rattle.machine_model.specs.Run.{Set, with_set}
use Rattle.machine_model.specs.Taken.{Taken}
use Rattle.step_trace.specs.Doing.{activity_of, range_of, written_range, start_of, bytes_after}
use Rattle.step_trace.specs.Stops.{stop_address}
use Rattle.step_trace.specs.Wanted.{wants}

-- an exception as a line has it
abbrev pub exception_of : Option Raised → Option text.Raised
exception_of None = None
exception_of (Some raised) = Some (record { vector = raised.vector; code = raised.code; at = raised.at })

-- The line of a step from a state, whose translations the step used, to another: what the processor does, what was raised,
-- what changed, and the bytes that stand where the instruction wrote.
unfoldable pub line_of : Setting → State → State → List ℕ
line_of m b after =
    let does = activity_of m b in
    let raised = raised_of m b b.set in
    let written = written_range (range_of does b.cpu.regs) raised in
    went_line b.step does b.cpu after.cpu (exception_of raised) (start_of written) (bytes_after m b after.ram written)

-- it is printed from a step on, where it is asked for
unfoldable pub is_printed : Setting → ℕ → Only → State → Bool
is_printed m from only b =
    let does = activity_of m b in
    nat_le from b.step && wants only does b.cpu.regs.eip (written_range (range_of does b.cpu.regs) (raised_of m b b.set))

unfoldable pub line_if_printed : Setting → ℕ → Only → State → State → List ℕ
line_if_printed m from only b after = if is_printed m from only b then line_of m b after else []

-- before the lines of the step's items
abbrev pub step_lines : Setting → ℕ → Only → Taken → List ℕ
step_lines m from only t = line_if_printed m from only (with_set t.before t.set) t.after ++ lines_of t.report.items

-- the line of the step that stops, from a step on
unfoldable pub stop_line : Setting → ℕ → State → List ℕ
stop_line m from b =
    if nat_le from b.step then stopping_line b.step (activity_of m b) b.cpu (exception_of (raised_of m b b.set)) (stop_address m b) else []

-- none where the run ends at its bound
abbrev pub lines_of_stop : Setting → ℕ → State → List Set → List ℕ
lines_of_stop m from last [] = []
lines_of_stop m from last (set ∷ more) = stop_line m from (with_set last set)
