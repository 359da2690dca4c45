-- What a certificate shows: what `prove` stores and prints is judged yes, and what `replay` says is exactly judged.
use Rattle.std.specs.Prelude.{◌≡◌, ℕ, ◌<◌, ◌≤◌, true, List, ◌++◌, Ok}
use Rattle.ia32_types.specs.declared.stop.Stop.{Stop}
use Rattle.pv_io.specs.Files.{Holds}
use Rattle.pv_io.specs.Sink.{Appends}
use Rattle.board.specs.Scripts.{Events}
use Rattle.image_check.specs.Image.{Image}
use Rattle.image_load.specs.Boot.{need}
use Rattle.run_trace.specs.declared.items.End.{End}
use Rattle.run_trace.specs.Notes.{Note}
use Rattle.run_trace.specs.Text.{text_of}
use Rattle.machine_model.specs.State.{State, boot, wedge}
use Rattle.machine_model.specs.Step.{Report}
use Rattle.machine_model.specs.Run.{Set, Run, trace_of}
use Rattle.machine_model.specs.OnBare.{bound_on_bare, end_on_bare}
use Rattle.bare_machine.specs.Settings.{bare}
use Rattle.wedge_core.specs.Counts.{CountsOn}
use Rattle.wedge_core.specs.Promises.{HasMemory}
use Rattle.trace_check.specs.declared.list.Choice.{Choice}
use Rattle.trace_check.specs.declared.answer.Verdict.TheVariants.{Yes, YesBefore}
use Rattle.trace_check.specs.Form.{choices_bytes}
use Rattle.trace_check.specs.Reading.{choices_in}
use Rattle.trace_check.specs.ChoicesTold.{choices_of}
use Rattle.trace_check.specs.Judged.{judged}
use Rattle.trace_check.specs.Runs.{IsRunText, AreItemsBefore, verdict_of}
use Rattle.pv_prove.specs.CertificateLines.{verdict_line}
use Rattle.pv_prove.specs.Certificates.{HasChoices}
use Rattle.pv_build.specs.Statuses.{status_of}
use Rattle.pv_build.specs.declared.status.Status.{Status}
use Rattle.pv_tasks.specs.Outside.{Outside}
use Rattle.pv_prove.specs.Proving.{are_few, certificate_file, certificate_told}
use Rattle.pv_tasks.specs.Tasks.{IsStored}
use Rattle.pv_tool.specs.Headline.{HasRunnable}

-- of this image, under these events
pub record IsProof (program : Image) (events : Events) (frames n : ℕ) (certificate : List ℕ) (o : Outside) (status : Status) : Type 0 where
  -- one run from boot, step by step under the monitor's rules, and the notes of it
  pub sets : List Set
  pub reports : List Report
  pub last : State
  pub end : End
  pub notes : List Note
  pub run : Run (wedge program events frames) n (boot (wedge program events frames)) sets reports last end
  pub status_is : status ≡ status_of end
  -- Its text was printed. The file of its notes' choices was stored, and the line with their number printed; or there are more
  -- than a file has room for, as there never are in so few steps.
  pub printed : Appends o.before.taken o.after.taken (text_of (trace_of reports) last.step end ++ certificate_told notes)
  pub stored : IsStored (certificate_file certificate notes) o.before.files o.after.files
  pub few : n < 524288 → are_few notes ≡ true
  -- The choices are read back from the file, and by them the run's text is judged yes, or yes before a stop of the monitor's own.
  pub read_back : are_few notes ≡ true → choices_in (choices_bytes (choices_of notes)) ≡ Ok (choices_of notes)
  pub yes : judged program events frames n (choices_of notes) (text_of (trace_of reports) last.step end) ≡ verdict_of end
  -- the host's part, and the run of the bare machine with the same translations before each step
  pub counts : CountsOn (wedge program events frames) reports o.before.completed o.after.completed
  pub memory : HasMemory (wedge program events frames) last end o.after.memory
  pub bare_run : Run (bare program events frames) (bound_on_bare n last end) (boot (bare program events frames)) sets reports
      last (end_on_bare end)

-- of the image and the events that the files hold
pub record HasProof (image script : List ℕ) (frames n : ℕ) (certificate : List ℕ) (o : Outside) (status : Status) : Type 0 where
  pub program : Image
  pub events : Events
  pub runnable : HasRunnable o.before.files image script program events
  pub proof : IsProof program events frames n certificate o status

-- What `replay` has said: exactly the judgement of the text that a file holds, by the choices of another.
pub record HasVerdict (image script : List ℕ) (frames n : ℕ) (certificate text : List ℕ) (o : Outside) : Type 0 where
  pub program : Image
  pub events : Events
  pub list : List Choice
  pub bytes : List ℕ
  pub runnable : HasRunnable o.before.files image script program events
  pub chosen : HasChoices o.before.files certificate list
  pub held : Holds o.before.files text bytes
  pub fits : need program ≤ frames
  pub printed : Appends o.before.taken o.after.taken (verdict_line (judged program events frames n list bytes))
  pub same : o.after.files ≡ o.before.files
  -- A text that is judged yes is that of the run of the bare machine which follows the choices; before a stop its items are,
  -- and as many steps.
  pub yes : judged program events frames n list bytes ≡ Yes → IsRunText program events frames n list bytes
  pub before : (stop : Stop) → judged program events frames n list bytes ≡ YesBefore stop
      → AreItemsBefore program events frames n list stop bytes
