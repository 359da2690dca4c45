-- The work of `prove`: a run under the monitor's rules, whose notes are kept as a certificate.
use Rattle.std.specs.Prelude.{◌≡◌, ◌≤◌, ℕ, Bool, true, List, Option, Some, None, length, nat_le, if◌then◌else◌}
use Rattle.pv_io.specs.Files.{FileMap}
use Rattle.pv_io.specs.Sink.{Appends}
use Rattle.board.specs.Scripts.{Events}
use Rattle.image_check.specs.Image.{Image}
use Rattle.run_trace.specs.declared.items.End.{End}
use Rattle.run_trace.specs.Notes.{Note}
use Rattle.image_load.specs.Boot.{need}
use Rattle.machine_model.specs.State.{State, boot, wedge}
use Rattle.machine_model.specs.Step.{Report}
use Rattle.machine_model.specs.Run.{Set, Run}
use Rattle.machine_model.specs.Notes.{AreTold, AreNotes}
use Rattle.trace_check.specs.Form.{most_choices, choices_bytes}
use Rattle.trace_check.specs.ChoicesTold.{choices_of}
use Rattle.trace_check.specs.Noted.{AreHeldBehind}
use Rattle.trace_check.specs.Runs.{StopsTold}
use Rattle.trace_check.specs.Proved.{IsProved}
use Rattle.pv_prove.specs.CertificateLines.{certificate_line, no_certificate_line}
use Rattle.pv_build.specs.Statuses.{status_of}
use Rattle.pv_build.specs.Images.{HasImage}
use Rattle.pv_build.specs.Scripts.{HasScript, FindsRun}
use Rattle.pv_tasks.specs.Outside.{Outside}
use Rattle.pv_tasks.specs.Outcome.{Outcome, HostedRun, EndedRun, run_text}
use Rattle.pv_tasks.specs.Tasks.{Task, plain, HostDoes}
use Rattle.pv_tasks.specs.Running.{Runs}

abbrev pub are_few : List Note → Bool
are_few notes = nat_le (length notes) most_choices

-- the file of the notes, and its line
abbrev pub certificate_file : List ℕ → List Note → Option (List ℕ × List ℕ)
certificate_file name notes = if are_few notes then Some (name, choices_bytes (choices_of notes)) else None

abbrev pub certificate_told : List Note → List ℕ
certificate_told notes = if are_few notes then certificate_line (length notes) else no_certificate_line

-- the text of the run is printed, then the certificate is stored, and then its line is printed
abbrev pub proved_as : List ℕ → HostedRun → List Note → Outcome
proved_as name r notes = record {
  status = status_of r.end;
  first = run_text r;
  stored = certificate_file name notes;
  text = certificate_told notes;
  hosted = EndedRun r;
}

-- A run from boot uses the translations that these notes report; so does its step that stops. Its text is judged yes by
-- their choices, or yes before a stop of the monitor's own.
pub record ProvesRun (frames n : ℕ) (name : List ℕ) (image : Image) (events : Events) (w : Outcome) : Type 0 where
  pub sets : List Set
  pub reports : List Report
  pub last : State
  pub end : End
  pub run : Run (wedge image events frames) n (boot (wedge image events frames)) sets reports last end
  pub notes : List Note
  pub told : AreTold (wedge image events frames) (boot (wedge image events frames)) sets notes
  pub stops : StopsTold (wedge image events frames) last notes end
  pub proved : IsProved image events frames n
      (run_text (record { setting = wedge image events frames; sets = sets; reports = reports; last = last; end = end })) end notes
  pub are_notes : AreNotes (wedge image events frames) (boot (wedge image events frames)) sets last.step notes
  pub behind : AreHeldBehind last notes
  pub comes : w ≡ proved_as name (record { setting = wedge image events frames; sets = sets; reports = reports; last = last; end = end })
      notes

-- what is printed first where the run's output fails: the text of a run, of which the notes aren't known
pub record ProvesText (frames n : ℕ) (image : Image) (events : Events) (text : List ℕ) : Type 0 where
  pub sets : List Set
  pub reports : List Report
  pub last : State
  pub end : End
  pub run : Run (wedge image events frames) n (boot (wedge image events frames)) sets reports last end
  pub text_is : text ≡ run_text (record { setting = wedge image events frames; sets = sets; reports = reports; last = last; end = end })

-- A run that has come to a file was printed, and the host has done its part; no memory was found for the file.
pub record PrintsOnly (gives : Option FileMap → Outcome → Type 0) (o : Outside) : Type 0 where
  pub work : Outcome
  pub given : gives o.before.files work
  pub file : List ℕ × List ℕ
  pub would : work.stored ≡ Some file
  pub printed : Appends o.before.taken o.after.taken work.first
  pub does : HostDoes work o

-- what `prove` asks for; it prints a run first
abbrev pub prove_task : List ℕ → List ℕ → ℕ → ℕ → List ℕ → Task
prove_task image script frames n certificate =
    record (plain (λ files w. Runs (ProvesRun frames n certificate) frames files image script w) (λ files. FindsRun files image script)) {
      saved = Some certificate;
      runs_first = true;
      begins = λ files text. (program : Image) × (events : Events) × HasImage files image program × HasScript files script events
          × (need program ≤ frames)
          × ProvesText frames n program events text;
      half_done = λ o. PrintsOnly (λ files w. Runs (ProvesRun frames n certificate) frames files image script w) o;
      on_host = true;
    }
