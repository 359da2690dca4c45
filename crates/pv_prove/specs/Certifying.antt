-- How the notes of a run are stored and reported.
use Rattle.std.specs.Prelude.{◌≡◌, ℕ, true, false, List, length}
use Rattle.run_trace.specs.Notes.{Note}
use Rattle.trace_check.specs.Form.{choices_bytes}
use Rattle.trace_check.specs.ChoicesTold.{choices_of}
use Rattle.pv_prove.specs.CertificateLines.{certificate_line, no_certificate_line}
use Rattle.pv_build.specs.Telling.{Says}
use Rattle.pv_build.specs.declared.status.Status.{Status}
use Rattle.pv_tasks.specs.Outside.{Outside}
use Rattle.pv_tasks.specs.Delivery.{Delivers}
use Rattle.pv_prove.specs.Proving.{are_few}

-- There are too many notes, and that was reported; or their file was delivered.
pub data Certifies (name : List ℕ) (notes : List Note) (meant : Status) (o : Outside) (result : Status) : Type 0 where
  TooMany : are_few notes ≡ false → o.after.files ≡ o.before.files
      → Says no_certificate_line meant o.before.taken o.after.taken o.before.puts o.after.puts result
      → Certifies name notes meant o result
  Delivered : are_few notes ≡ true
      → Delivers name (choices_bytes (choices_of notes)) (certificate_line (length notes)) meant o result
      → Certifies name notes meant o result
