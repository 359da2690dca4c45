-- What is around a run, by its parts.
use Rattle.std.proofs.Common.{ℕ, List, Option}
use Rattle.wedge_core.specs.Counts.{Counts}
use Rattle.wedge_core.specs.Surroundings.{Around}

abbrev pub around_of : Option (List ℕ) → Option (List ℕ) → ℕ → ℕ → Counts → Counts → Around
around_of old new before now counts counts_after =
    record { taken = old; taken_after = new; faults = before; faults_after = now; counts = counts; counts_after = counts_after }
