-- What a run under a monitor's rules needs of the processor before each of its steps, and that each step keeps it.
use Rattle.std.specs.Prelude.{◌≡◌, true, false, List}
use Rattle.descriptors.specs.declared.cpu.Cpu.{Cpu}
use Rattle.descriptors.specs.Segments.{seg_of}
use Rattle.machine_model.specs.State.{Setting, State, wedge_mode, boot}
use Rattle.machine_model.specs.Rules.{is_open}
use Rattle.machine_model.specs.Fit.{IsLevel}
use Rattle.machine_model.specs.Step.{Report, Went, stepped}
use Rattle.machine_model.specs.Run.{Set, Steps}

-- The level is 0 or 3, neither the segment of code nor that of the stack is null, and a user has IF 1 and IOPL 0.
pub record IsAble (cpu : Cpu) : Type 0 where
  pub level : IsLevel cpu.cpl
  pub code : (seg_of cpu 1).null ≡ false
  pub stack : (seg_of cpu 2).null ≡ false
  pub users : cpu.cpl ≡ 3 → is_open cpu ≡ true

-- a step that goes keeps it
abbrev pub StepsKeepAble : Type 0
StepsKeepAble =
    (m : Setting) (b : State) → m.mode ≡ wedge_mode m.image → IsAble b.cpu → (report : Report) (after : State)
    → stepped m b ≡ Went report after → IsAble after.cpu

-- and so do steps one after another
abbrev pub RunsKeepAble : Type 0
RunsKeepAble =
    (m : Setting) (old new : State) (sets : List Set) (reports : List Report) → m.mode ≡ wedge_mode m.image → Steps m old sets reports new
    → IsAble old.cpu → IsAble new.cpu

abbrev pub EachRunBeginsAble : Type 0
EachRunBeginsAble = (s : Setting) → IsAble (boot s).cpu
