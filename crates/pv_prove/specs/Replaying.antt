-- The work of `replay`: a text is judged by the run of the bare machine that follows a certificate.
use Rattle.std.specs.Prelude.{◌≡◌, ℕ, List, Option, Result, Ok, Err}
use Rattle.pv_io.specs.Files.{FileMap, Holds}
use Rattle.board.specs.Scripts.{Events}
use Rattle.image_check.specs.Image.{Image}
use Rattle.trace_check.specs.declared.list.Choice.{Choice}
use Rattle.trace_check.specs.Reading.{choices_in}
use Rattle.trace_check.specs.Judged.{judged}
use Rattle.pv_prove.specs.CertificateLines.{certificate_refusal, verdict_line}
use Rattle.pv_tasks.specs.Outcome.{Outcome, refused, printed}
use Rattle.pv_tasks.specs.Tasks.{Task, plain}
use Rattle.pv_tasks.specs.Running.{RunsOn, Reads}
use Rattle.pv_prove.specs.Certificates.{FindsReplay}

-- the verdict is printed, where the image has room
abbrev pub Judges : ℕ → ℕ → Image → Events → List Choice → List ℕ → Outcome → Type 0
Judges frames n image events list text w = RunsOn (λ v. v ≡ printed (verdict_line (judged image events frames n list text))) image frames w

-- over what the certificate's file says: the text is read after it
abbrev pub ByChoices : ℕ → ℕ → Option FileMap → List ℕ → Image → Events → Result (List Choice) ℕ → Outcome → Type 0
ByChoices frames n files text image events (Ok list) w = (file : List ℕ) × Holds files text file × Judges frames n image events list file w
ByChoices frames n files text image events (Err at) w = w ≡ refused (certificate_refusal at)

-- the outcome of an image and events
abbrev pub Replays : ℕ → ℕ → Option FileMap → List ℕ → List ℕ → Image → Events → Outcome → Type 0
Replays frames n files certificate text image events w =
    (file : List ℕ) × Holds files certificate file × ByChoices frames n files text image events (choices_in file) w

-- what `replay` asks for
abbrev pub replay_task : List ℕ → List ℕ → ℕ → ℕ → List ℕ → List ℕ → Task
replay_task image script frames n certificate text =
    plain (λ files w. Reads (Replays frames n files certificate text) files image script w)
    (λ files. FindsReplay files image script certificate text)
