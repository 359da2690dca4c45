-- What `prove` and `replay` show, where they have ended.
use Rattle.std.proofs.Common.{◌≡◌, ℕ, ◌≤◌, List, ◌++◌, Option, Some, Result, Ok, Err, refl, sym, ap, subst, ◌∙◌, arith}
use Rattle.std.proofs.lemmas.Bool.{leb-true}
use Rattle.std.specs.Prelude.{length}
use Rattle.pv_io.specs.Files.{FileMap, Holds}
use Rattle.pv_io.specs.Sink.{Appends}
use Rattle.board.specs.Scripts.{Events}
use Rattle.image_check.specs.Image.{Image}
use Rattle.image_load.specs.Boot.{need}
use Rattle.machine_model.specs.State.{boot, wedge}
use Rattle.machine_model.specs.Agreement.{RunsAgree}
use Rattle.trace_check.specs.declared.list.Choice.{Choice}
use Rattle.trace_check.specs.Form.{most_choices}
use Rattle.trace_check.specs.Reading.{choices_in}
use Rattle.trace_check.specs.Judged.{judged}
use Rattle.trace_check.specs.RunLaws.{YesIsARun, YesBeforeIsSteps}
use Rattle.trace_check.proofs.Inverse.{laid_read}
use Rattle.pv_prove.specs.CertificateLines.{certificate_refusal, verdict_line}
use Rattle.pv_prove.specs.Certificates.{HasChoices}
use Rattle.pv_build.specs.declared.status.Status.{Status}
use Rattle.pv_build.specs.declared.status.Status.TheVariants as status
use Rattle.pv_words.specs.Words.{Prove, Replay}
use Rattle.pv_tasks.specs.Outside.{Outside}
use Rattle.pv_tasks.specs.Outcome.{Outcome, HasEnded, refused, printed}
use Rattle.pv_tasks.specs.Running.{Ran, Small}
use Rattle.pv_prove.specs.Proving.{ProvesRun}
use Rattle.pv_prove.specs.Replaying.{ByChoices, Replays, Judges}
use Rattle.pv_tool.specs.Certified.{IsProof, HasProof, HasVerdict}
use Rattle.pv_tool.specs.Top.{Completes}
use Rattle.pv_tool.specs.Outcomes.{ProvesAll, JudgesAll}
use Rattle.pv_tasks.specs.Tasks.{Means, ComesToOne, ComesTo, IsStored}
use Rattle.pv_tool.specs.Asked.{task_of}
use Rattle.pv_prove.proofs.ProveMeanings.{few}
use Rattle.pv_tasks.proofs.Works.{WithFrames, reads_both, reads_began, ran, ended_ran}
use Rattle.pv_prove.proofs.ReplayLaws.{by_choices}
use Rattle.pv_tasks.proofs.SameFiles.{same_file}
use Rattle.pv_tool.proofs.CommandLaws.{came_over}
use Rattle.pv_tool.proofs.Completes.{run_came}

-- ---- `prove`

is_proof : RunsAgree → (frames n : ℕ) (certificate : List ℕ) (program : Image) (events : Events) (o : Outside) (st : Status) (w : Outcome)
    → ProvesRun frames n certificate program events w → ComesTo w o st
    → IsProof program events frames n certificate o st
is_proof agree frames n certificate program events o st w run came =
    let here = subst (λ (v : Outcome). ComesTo v o st) run.comes came in
    record {
      sets = run.sets;
      reports = run.reports;
      last = run.last;
      end = run.end;
      notes = run.notes;
      run = run.run;
      status_is = here.0;
      printed = here.2;
      stored = here.1;
      few = λ lt. few run.notes (run.proved.few lt);
      read_back = λ are. laid_read _ (run.proved.form (leb-true (length run.notes) most_choices are));
      yes = run.proved.is_judged;
      counts = here.3.0;
      memory = here.3.1;
      bare_run = agree (wedge program events frames) n (boot (wedge program events frames)) run.sets run.reports run.last run.end run.run;
    }

printed_proof : RunsAgree → (image script : List ℕ) (frames n : ℕ) (certificate : List ℕ) (o : Outside) (st : Status) → HasEnded st
    → ComesToOne ((task_of (Prove image script frames n certificate)).gives o.before.files) o st
    → HasProof image script frames n certificate o st
printed_proof agree image script frames n certificate o st ended h =
    let w = h.0 in
    let done = subst HasEnded h.2.0 ended in
    let b = reads_began (WithFrames (ProvesRun frames n certificate) frames) o.before.files image script w h.1 done in
    let run = ended_ran (ProvesRun frames n certificate) frames b.program b.events w done b.goes_on in
    record {
      program = b.program;
      events = b.events;
      runnable = record { image_held = b.accepted; script_held = b.read };
      proof = is_proof agree frames n certificate b.program b.events o st w run.1 h.2;
    }

pub has_proof : RunsAgree → (image script : List ℕ) (frames n : ℕ) (certificate : List ℕ) (o : Outside) (st : Status) → HasEnded st
    → Means (task_of (Prove image script frames n certificate)) o st
    → HasProof image script frames n certificate o st
has_proof agree image script frames n certificate o status.Done ended h =
    printed_proof agree image script frames n certificate o status.Done ended h
has_proof agree image script frames n certificate o status.Stopped ended h =
    printed_proof agree image script frames n certificate o status.Stopped ended h
has_proof agree image script frames n certificate o status.Words ended h = absurd ended
has_proof agree image script frames n certificate o status.Refused ended h = absurd ended
has_proof agree image script frames n certificate o status.ReadFault ended h = absurd ended
has_proof agree image script frames n certificate o status.WriteFault ended h = absurd ended
has_proof agree image script frames n certificate o status.Memory ended h = absurd ended

-- where no fault came and memory was found, the run of an accepted image has ended, and its certificate was stored
pub prove_completes : RunsAgree → (words : List (List ℕ)) (o : Outside) (st : Status) → Completes words o st → ProvesAll words o st
prove_completes agree words o st complete image script frames n certificate told program events free has le =
    let command = Prove image script frames n certificate in
    let ran = run_came command (ProvesRun frames n certificate) frames image script o told program events st (λ w g. g) has.image_held
    has.script_held le (came_over words command told o st complete free) in
    is_proof agree frames n certificate program events o st ran.0 ran.1 ran.2

-- ---- `replay`

-- the verdict's line is all
record HasJudged (frames n : ℕ) (files : Option FileMap) (certificate text : List ℕ) (program : Image) (events : Events)
    (w : Outcome) : Type 0 where
  list : List Choice
  bytes : List ℕ
  chosen : HasChoices files certificate list
  held : Holds files text bytes
  fits : need program ≤ frames
  comes : w ≡ printed (verdict_line (judged program events frames n list bytes))

line_done : (w : Outcome) (line : List ℕ) → w ≡ refused line → w.status ≡ status.Done → ⊥
line_done w line is done = let no : status.Refused ≡ status.Done = sym (ap (λ (v : Outcome). v.status) is) ∙ done in cc

judged_done : (frames n : ℕ) (files : Option FileMap) (certificate text : List ℕ) (program : Image) (events : Events) (list : List Choice)
    (bytes : List ℕ) (w : Outcome) → HasChoices files certificate list → Holds files text bytes
    → Judges frames n program events list bytes w → w.status ≡ status.Done → HasJudged frames n files certificate text program events w
judged_done frames n files certificate text program events list bytes w chosen held (Ran fits is) done =
    record { list = list; bytes = bytes; chosen = chosen; held = held; fits = fits; comes = is }
judged_done frames n files certificate text program events list bytes w chosen held (Small lt is) done = absurd (line_done w _ is done)

choices_done : (frames n : ℕ) (files : Option FileMap) (certificate text : List ℕ) (program : Image) (events : Events) (file : List ℕ)
    (r : Result (List Choice) ℕ) (w : Outcome) → Holds files certificate file → choices_in file ≡ r
    → ByChoices frames n files text program events r w → w.status ≡ status.Done → HasJudged frames n files certificate text program events w
choices_done frames n files certificate text program events file (Ok list) w holds is h done =
    judged_done frames n files certificate text program events list h.0 w (file, holds, is) h.1 h.2 done
choices_done frames n files certificate text program events file (Err at) w holds is h done =
    absurd (line_done w (certificate_refusal at) h done)

replays_done : (frames n : ℕ) (files : Option FileMap) (certificate text : List ℕ) (program : Image) (events : Events) (w : Outcome)
    → Replays frames n files certificate text program events w → w.status ≡ status.Done
    → HasJudged frames n files certificate text program events w
replays_done frames n files certificate text program events w h done =
    choices_done frames n files certificate text program events h.0 (choices_in h.0) w h.1 refl h.2 done

pub has_verdict : YesIsARun → YesBeforeIsSteps → (image script : List ℕ) (frames n : ℕ) (certificate text : List ℕ) (o : Outside)
    (st : Status) → st ≡ status.Done → Means (task_of (Replay image script frames n certificate text)) o st
    → HasVerdict image script frames n certificate text o
has_verdict right before image script frames n certificate text o st done h =
    let p : ComesToOne ((task_of (Replay image script frames n certificate text)).gives o.before.files) o status.Done =
    subst (Means (task_of (Replay image script frames n certificate text)) o) done h in
    let w = p.0 in
    let b = reads_began (Replays frames n o.before.files certificate text) o.before.files image script w p.1 (subst HasEnded p.2.0 tt) in
    let j = replays_done frames n o.before.files certificate text b.program b.events w b.goes_on (sym p.2.0) in
    record {
      program = b.program;
      events = b.events;
      list = j.list;
      bytes = j.bytes;
      runnable = record { image_held = b.accepted; script_held = b.read };
      chosen = j.chosen;
      held = j.held;
      fits = j.fits;
      printed = subst (λ (v : Outcome). Appends o.before.taken o.after.taken (v.first ++ v.text)) j.comes p.2.2;
      same = subst (λ (v : Outcome). IsStored v.stored o.before.files o.after.files) j.comes p.2.1;
      yes = λ is. right b.program b.events frames n j.list j.bytes is;
      before = λ stop is. before b.program b.events frames n j.list j.bytes stop is;
    }

-- a text that is held is judged
judges_fits : (frames n : ℕ) (program : Image) (events : Events) (list : List Choice) (bytes : List ℕ) (w : Outcome) → need program ≤ frames
    → Judges frames n program events list bytes w
    → w ≡ printed (verdict_line (judged program events frames n list bytes))
judges_fits frames n program events list bytes w le (Ran fits is) = is
judges_fits frames n program events list bytes w le (Small lt is) = absurd (omega (arith, le, lt))

pub replay_completes : (words : List (List ℕ)) (o : Outside) (st : Status) → Completes words o st → JudgesAll words o st
replay_completes words o st complete image script frames n certificate text told program events list bytes free has choices holds le =
    let c = came_over words (Replay image script frames n certificate text) told o st complete free in
    let replays = reads_both (Replays frames n (Some told) certificate text) told image script program events c.0 has.image_held
    has.script_held c.1 in
    let b = by_choices frames n told certificate text program events list c.0 choices replays in
    let same = same_file told text b.0 bytes b.1 holds in
    let judges = subst (λ (f : List ℕ). Judges frames n program events list f c.0) same b.2 in
    subst (λ (v : Outcome). ComesTo v o st) (judges_fits frames n program events list bytes c.0 le judges) c.2
