-- Where a step over a keeper of translations begins, by what the keeper shows.
use Rattle.std.specs.Prelude.{ℕ, List, ◌==◌}
use Rattle.descriptors.specs.declared.cpu.Cpu.{Cpu}
use Rattle.paging.specs.Space.{Space}
use Rattle.step_mem.specs.declared.guard.Guard.{Guard}
use Rattle.step_mem.specs.declared.translations.Translations as translations
use Rattle.step_mem.specs.Guard.{mode_of}
use Rattle.step_mem.specs.Shown.{shown}
use Rattle.machine_model.specs.State.{Setting, State, space_at_start}
use Rattle.machine_model.specs.Step as steps
use Rattle.machine_model.specs.UsedPages.{Uses}

-- what a step's memory stands for before anything is used, by this processor's tables
abbrev pub first_space : {B : Type 0} → translations.Ghosts B → B → List ℕ → Guard → ℕ → Cpu → Space
first_space g base ram guard frames cpu = space_at_start (mode_of guard) frames cpu (shown guard frames ram) (g.entries base ram)

-- what a run uses, with this step's rules and frames
abbrev pub under : Setting → Guard → ℕ → Setting
under m guard frames = record m { mode = mode_of guard; frames = frames }

-- a state with the memory and the translations that the step begins with
abbrev pub begins_over : {B : Type 0} → translations.Ghosts B → B → List ℕ → Guard → ℕ → State → State
begins_over g base ram guard frames b = record b { ram = shown guard frames ram; set = g.entries base ram }

-- the step from a state, in a memory of which nothing was used
abbrev pub stepped_in : Setting → State → Space → steps.Result
stepped_in m b s = steps.by_interrupt m (steps.interrupt_of b.cpu b.board) (steps.unheld b) s

-- what a part of a step used is as at this processor's level
abbrev pub UsesBy : Cpu → Space → Space → Type 0
UsesBy cpu s t = Uses (cpu.cpl == 3) s t
