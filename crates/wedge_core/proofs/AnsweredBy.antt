-- The answers of a run by each thing around it.
use Rattle.std.proofs.Common.{ℕ, List, Option, Result}
use Rattle.board.specs.Scripts.{Events}
use Rattle.image_check.specs.Image.{Image}
use Rattle.image_load.specs.declared.fault.RunFault.{RunFault}
use Rattle.run_trace.specs.declared.items.Ended.{Ended}
use Rattle.wedge_core.specs.Answers as answers
use Rattle.wedge_core.specs.Counts.{Counts}

abbrev pub WedgeAnswers : Image → Events → ℕ → ℕ → ℕ → Option (List ℕ) → Option (List ℕ) → ℕ → ℕ → Counts → Counts → List ℕ
    → Result Ended RunFault → Type 0
WedgeAnswers image script frames n pool old new before now counts counts_after memory result =
    answers.WedgeAnswers image script frames n pool (record {
      taken = old;
      taken_after = new;
      faults = before;
      faults_after = now;
      counts = counts;
      counts_after = counts_after;
    }) memory result
