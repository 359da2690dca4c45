-- What a step of the bare machine leaves.
use Rattle.std.specs.Prelude.{◌≡◌, ◌+◌, ◌-◌, Bool, true, length, Option, None, Result}
use Rattle.ia32_types.specs.declared.stop.Stop.{Stop}
use Rattle.paging.specs.Space.{Space}
use Rattle.board.specs.declared.devices.Board.{Board}
use Rattle.board.specs.Boards.{given, with_timer_edge}
use Rattle.board.specs.Quiet.{comes_within, event_within}
use Rattle.board.specs.Scripts.{Events}
use Rattle.machine_model.specs.State.{Setting, State}
use Rattle.machine_model.specs.Run.{Set}
use Rattle.machine_model.specs.Step.{interrupt_of, stepped}
use Rattle.machine_step.specs.declared.worked.Raised.{Raised}
use Rattle.machine_step.specs.declared.worked.Seen.{Seen}
use Rattle.machine_step.specs.declared.worked.Worked.{Worked}
use Rattle.machine_step.specs.Left.{left_of, left_from}
use Rattle.machine_step.specs.Raised.{raised_of, raised_from}
use Rattle.machine_step.specs.Worked.{ComesTo, answer_of}
use Rattle.bare_mem.specs.Keeping.{Keeps}
use Rattle.bare_machine.specs.Buffered.{KeptAs, kept_step}
use Rattle.bare_machine.specs.Machine.{state_of, own_step, StepAs}
use Rattle.bare_machine.specs.Once.{taken_in}
use Rattle.bare_machine.specs.declared.machine.BareMachine as machines

-- The step by what the cache holds came out so: by the definition, of whose translations some may have been dropped; by what
-- this cache keeps of them, exactly; and it raised this.
pub record ComesAs (keeping : Keeps) (s : Setting) (exact : Bool) (old new : State) (raised : Option Raised)
    (result : Result Seen Stop) : Type 0 where
  pub step : StepAs (own_step s old) result old.step exact new
  pub kept : KeptAs (kept_step keeping s old) result old.step new
  pub raises : raised ≡ raised_of s old old.set

-- the memory is as large as it was
pub record StaysWide {C : Type 0} (old new : machines.BareMachine C) : Type 0 where
  pub frames : new.frames ≡ old.frames
  pub size : length new.ram ≡ length old.ram

-- A step that stops leaves its memory so, in which the script's events have reached the board and an interrupt was acknowledged,
-- and the rest as it was.
pub record StopLeaves {C : Type 0} (entries : C → Set) (s : Setting) (left : Space) (old new : machines.BareMachine C) : Type 0 where
  pub memory : left ≡ left_of s (state_of entries old) (entries old.kept.cache)
  pub board : new.board ≡ taken_in old.cpu (given old.board s.script old.step)
  pub cpu : new.cpu ≡ old.cpu
  pub kept : new.kept ≡ old.kept
  pub wide : StaysWide old new

-- The work of a step that begins in this state, whose events have come, comes to this outcome of a step from b, raised what is
-- told, and left this memory.
pub record WorksAs (s : Setting) (b began : State) (worked : Worked) (result : Result (Unit {0}) Stop) (board : Board)
    (left : Space) : Type 0 where
  pub comes : ComesTo (stepped s began) b (answer_of result worked) board left
  pub raises : worked.raised ≡ raised_from s began
  pub leaves : left ≡ left_from s began

-- A rest from one state to another ends where something reaches the board in the next step; an edge of the timer that doesn't wake
-- the processor ends it nowhere.
pub record EndsRest (script : Events) (old new : State) : Type 0 where
  pub furthest : comes_within old.board script (old.step - 1) (new.step - old.step + 1) ≡ true
  pub past_edges : interrupt_of old.cpu (with_timer_edge old.board) ≡ None
      → event_within (old.step - 1) (new.step - old.step + 1) script ≡ true
