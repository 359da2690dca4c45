-- What is answered of a text that is judged, and how it is reported.
use Rattle.std.specs.Prelude.{◌≡◌, ◌⊎◌, ℕ, List}
use Rattle.pv_io.specs.Taking.{Taking}
use Rattle.board.specs.Scripts.{Events}
use Rattle.image_check.specs.Image.{Image}
use Rattle.trace_check.specs.declared.list.Choice.{Choice}
use Rattle.pv_build.specs.Telling.{Says}
use Rattle.pv_build.specs.declared.status.Status.{Status}
use Rattle.pv_build.specs.declared.status.Status.TheVariants as status
use Rattle.pv_tasks.specs.Outcome.{Outcome}
use Rattle.pv_prove.specs.Replaying.{Judges}

-- The line of the outcome of a text was put, or no memory was found.
abbrev pub JudgesAs : ℕ → ℕ → Image → Events → List Choice → List ℕ → Taking → Status → Type 0
JudgesAs frames n image events list text out result =
    ((w : Outcome) × Judges frames n image events list text w × Says w.text w.status out.old out.new out.faults out.faults_after result)
    ⊎ ((result ≡ status.Memory) × (out.new ≡ out.old) × (out.faults_after ≡ out.faults))
