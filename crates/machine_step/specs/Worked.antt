-- The outcome of one step, as a value, in the words of the definitions.
use Rattle.std.specs.Prelude.{◌≡◌, ◌==◌, ◌<◌, ◌^◌, Bool, true, false, List, [], ◌∷◌, Option, Some, None, Result, Ok, Err}
use Rattle.std.specs.FinMap.{FinMap, remove, empty}
use Rattle.std.specs.Ordering.{nat_cmp}
use Rattle.ia32_types.specs.declared.insn.Insn.{Insn}
use Rattle.ia32_types.specs.declared.stop.Stop.{Stop}
use Rattle.descriptors.specs.declared.cpu.Cpu.{Cpu}
use Rattle.paging.specs.declared.entry.Entry.{Entry}
use Rattle.paging.specs.Space.{Space}
use Rattle.paging.specs.Uses.{without_dir}
use Rattle.board.specs.declared.devices.Board.{Board}
use Rattle.run_trace.specs.declared.items.What.{What}
use Rattle.machine_model.specs.State.{State}
use Rattle.machine_model.specs.Step as steps
use Rattle.machine_step.specs.declared.worked.Completed.{Completed}
use Rattle.machine_step.specs.declared.worked.Dropped.{Dropped}
use Rattle.machine_step.specs.declared.worked.Dropped.TheVariants as dropped
use Rattle.machine_step.specs.declared.worked.Seen.{Seen}
use Rattle.machine_step.specs.declared.worked.Seen.TheVariants as seen
use Rattle.machine_step.specs.declared.worked.Worked.{Worked}

abbrev pub whats : Seen → List What
whats seen.Nothing = []
whats (seen.One a) = a ∷ []
whats (seen.Two a b) = a ∷ b ∷ []

abbrev pub completed_of : Completed → steps.Completed
completed_of done = record { insn = done.insn; eip = done.eip; user = done.user }

abbrev pub completed_by : Option Completed → Option steps.Completed
completed_by None = None
completed_by (Some done) = Some (completed_of done)

-- an instruction that completes, which this processor began
abbrev pub done_by : Insn → Cpu → Completed
done_by insn cpu = record { insn = insn; eip = cpu.regs.eip; user = cpu.cpl == 3 }

-- what leaves the set at the end of a step
abbrev pub dropping : Dropped → FinMap nat_cmp Entry → FinMap nat_cmp Entry
dropping dropped.Nothing set = set
dropping (dropped.Page page) set = remove set page
dropping (dropped.Dir index) set = without_dir set index
dropping dropped.All set = empty

-- all leave
abbrev pub is_all : Dropped → Bool
is_all dropped.Nothing = false
is_all (dropped.Page gone) = false
is_all (dropped.Dir index) = false
is_all dropped.All = true

abbrev pub IsDropped : Dropped → Type 0
IsDropped (dropped.Page page) = page < 2 ^ 20
IsDropped (dropped.Dir index) = index < 2 ^ 10
IsDropped _ = Unit {0}

-- the step went, and left this board and this memory
abbrev pub went_as : State → Worked → Board → Space → steps.Result
went_as b worked board s =
    steps.concluded (whats worked.seen) (completed_by worked.completed) b worked.cpu board
    (record s { set = dropping worked.dropped s.set })

-- the outcome of a step from this state, by the definitions, is what was answered
abbrev pub ComesTo : steps.Result → State → Result Worked Stop → Board → Space → Type 0
ComesTo result b (Ok worked) board s = result ≡ went_as b worked board s
ComesTo result b (Err stop) board s = result ≡ steps.Halts stop

-- the answer, where a step that went is recorded in its place
abbrev pub answer_of : Result (Unit {0}) Stop → Worked → Result Worked Stop
answer_of (Ok done) worked = Ok worked
answer_of (Err stop) worked = Err stop
