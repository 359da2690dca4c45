-- Runs whose steps use what the steps before left, so that no note is reported.
use Rattle.std.specs.Prelude.{◌≡◌, List, [], ◌∷◌}
use Rattle.machine_model.specs.State.{Setting, State}
use Rattle.machine_model.specs.Step.{Report, Went, step_of}
use Rattle.machine_model.specs.Run.{Set}

-- where nothing is reported each step uses the translations that the one before left
abbrev pub AreLeft : Setting → State → List Set → Type 0
AreLeft m old [] = Unit {0}
AreLeft m old (set ∷ sets) = (set ≡ old.set) × ((now : Report) (mid : State) → step_of m old set ≡ Went now mid → AreLeft m mid sets)
