-- What one step by itself says.
use Rattle.std.specs.Prelude.{◌≡◌, ◌+◌, Bool, true, [], ◌∷◌, Result, Ok, Err}
use Rattle.descriptors.specs.declared.cpu.Cpu.{Cpu}
use Rattle.paging.specs.Part.{IsPartOf}
use Rattle.board.specs.declared.devices.Board.{Board}
use Rattle.board.specs.Boards.{given}
use Rattle.machine_model.specs.State.{Setting, State}
use Rattle.machine_model.specs.Step.{Report, Went, Halts, step_of, interrupt_of, items_at}
use Rattle.machine_model.specs.Run.{Set, with_set}
use Rattle.machine_step.specs.Begun.{taken_by}
use Rattle.machine_step.specs.Left.{left_of, denied_page}
use Rattle.machine_step.specs.Raised.{raised_of}
use Rattle.machine_step.specs.Worked.{whats}
use Rattle.bare_mem.specs.Keeping.{Keeps}
use Rattle.bare_machine.specs.Buffered.{kept_step}
use Rattle.bare_machine.specs.Machine.{Passes}
use Rattle.bare_machine.specs.declared.once.Stepped.{Stepped}
use Rattle.bare_machine.specs.declared.once.StepStop.{StepStop}

-- The step by what the cache holds went, and these are its items and what it raised. What it leaves is cached then, of which
-- some may have been dropped, but none by an exact cache: exactly what this cache keeps of it.
pub record WentOnce (keeping : Keeps) (s : Setting) (exact : Bool) (old new : State) (done : Stepped) : Type 0 where
  pub report : Report
  pub whole : Set
  pub went : step_of s old old.set ≡ Went report (with_set new whole)
  pub part : IsPartOf new.set whole
  pub all : exact ≡ true → new.set ≡ whole
  pub kept : kept_step keeping s old ≡ Went report new
  pub items : items_at old.step (whats done.seen) ≡ report.items
  pub raised : done.raised ≡ raised_of s old old.set
  pub count : new.step ≡ old.step + 1
  pub passes : Passes s exact old (report ∷ []) new

-- the board when the processor works in a step: an interrupt that it takes is acknowledged
abbrev pub taken_in : Cpu → Board → Board
taken_in cpu board = taken_by (interrupt_of cpu board) board

-- The step by what the cache holds stops, and this is what it raised before, and the page of its last access, where that was
-- denied. Processor, translations and count are those before the step; the script's events have reached the board, and an
-- interrupt was acknowledged. Of memory nothing is said.
pub record StopsOnce (s : Setting) (old new : State) (stopped : StepStop) : Type 0 where
  pub halts : step_of s old old.set ≡ Halts stopped.stop
  pub raised : stopped.raised ≡ raised_of s old old.set
  pub page : stopped.page ≡ denied_page (left_of s old old.set)
  pub cpu : new.cpu ≡ old.cpu
  pub set : new.set ≡ old.set
  pub board : new.board ≡ taken_in old.cpu (given old.board s.script old.step)
  pub count : new.step ≡ old.step

-- one step went, or stops
abbrev pub OnceAs : Keeps → Setting → Bool → State → State → Result Stepped StepStop → Type 0
OnceAs keeping s exact old new (Ok done) = WentOnce keeping s exact old new done
OnceAs keeping s exact old new (Err stopped) = StopsOnce s old new stopped
