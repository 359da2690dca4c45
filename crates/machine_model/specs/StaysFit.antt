-- Each step keeps a processor fit.
use Rattle.std.specs.Prelude.{◌≡◌, length, List}
use Rattle.machine_model.specs.State.{Setting, State}
use Rattle.machine_model.specs.Fit.{Fit}
use Rattle.machine_model.specs.Step.{Report, Went, stepped}
use Rattle.machine_model.specs.Run.{Set, Steps}

-- on both machines, where the processor has its four segment registers
abbrev pub StepsKeepFit : Type 0
StepsKeepFit =
    (m : Setting) (b : State) → Fit b.cpu → length b.cpu.seg ≡ 4 → (report : Report) (after : State) → stepped m b ≡ Went report after
    → Fit after.cpu × (length after.cpu.seg ≡ 4)

-- and so do steps one after another
abbrev pub RunsKeepFit : Type 0
RunsKeepFit =
    (m : Setting) (old new : State) (sets : List Set) (reports : List Report) → Steps m old sets reports new → Fit old.cpu
    → length old.cpu.seg ≡ 4
    → Fit new.cpu × (length new.cpu.seg ≡ 4)
