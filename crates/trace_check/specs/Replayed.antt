-- What `replay` answers.
use Rattle.std.specs.Prelude.{◌≡◌, ℕ, List, Result, Ok, Err, ◌<◌, ◌≤◌}
use Rattle.board.specs.Scripts.{Events}
use Rattle.image_check.specs.Image.{Image}
use Rattle.image_load.specs.Boot.{need}
use Rattle.trace_check.specs.declared.list.Choice.{Choice}
use Rattle.trace_check.specs.declared.answer.Verdict.{Verdict}
use Rattle.trace_check.specs.declared.answer.ReplayFault.{ReplayFault}
use Rattle.trace_check.specs.declared.answer.ReplayFault.TheVariants as faults
use Rattle.trace_check.specs.Judged.{judged}

-- The answer is the judgement. The image may need more frames than there are.
abbrev pub ReplayFails : Image → ℕ → ReplayFault → Type 0
ReplayFails image frames (faults.TooSmall small) = (frames < need image) × (small ≡ record { need = need image; have = frames })
ReplayFails image frames faults.Memory = Unit {0}

abbrev pub Replays : Image → Events → ℕ → ℕ → List Choice → List ℕ → Result Verdict ReplayFault → Type 0
Replays image script frames n list text (Ok verdict) = (need image ≤ frames) × (verdict ≡ judged image script frames n list text)
Replays image script frames n list text (Err fault) = ReplayFails image frames fault
