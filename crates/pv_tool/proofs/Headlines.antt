-- The headline, of a run that has ended.
use Rattle.std.proofs.Common.{ℕ, List, refl, subst}
use Rattle.board.specs.Scripts.{Events}
use Rattle.image_check.specs.Image.{Image}
use Rattle.run_trace.specs.Text.{text_of}
use Rattle.machine_model.specs.State.{boot, wedge}
use Rattle.machine_model.specs.Run.{trace_of}
use Rattle.machine_model.specs.Agreement.{RunsAgree}
use Rattle.pv_build.specs.declared.status.Status.{Status}
use Rattle.pv_build.specs.declared.status.Status.TheVariants as status
use Rattle.pv_words.specs.Words.{RunWedge}
use Rattle.pv_tasks.specs.Outside.{Outside}
use Rattle.pv_tasks.specs.Outcome.{Outcome, HasEnded}
use Rattle.pv_tasks.specs.Running.{RunsPatched}
use Rattle.pv_tasks.specs.Tasks.{Means, ComesToOne, ComesTo}
use Rattle.pv_tool.specs.Asked.{task_of}
use Rattle.pv_tool.specs.Headline.{IsHeadline, HasHeadline}
use Rattle.pv_tool.specs.Top.{Completes}
use Rattle.pv_tool.specs.Outcomes.{RunsOnHost}
use Rattle.pv_tasks.proofs.Works.{WithFrames, reads_began, ran, ended_ran}
use Rattle.pv_tool.proofs.CommandLaws.{came_over}
use Rattle.pv_tool.proofs.Completes.{run_came}

-- a run of the patched image that was printed
is_headline : RunsAgree → (frames n : ℕ) (program : Image) (events : Events) (o : Outside) (st : Status) (w : Outcome)
    → RunsPatched frames n program events w → ComesTo w o st
    → IsHeadline program events frames n o st
is_headline agree frames n program events o st w run came =
    let here = subst (λ (v : Outcome). ComesTo v o st) run.comes came in
    record {
      text = text_of (trace_of run.reports) run.last.step run.end;
      count = run.last.step;
      end = run.end;
      printed = here.2;
      status_is = here.0;
      promise = record {
        sets = run.sets;
        reports = run.reports;
        last = run.last;
        run = run.run;
        count_is = refl;
        text_is = refl;
        counts = here.3.0;
        memory_is = here.3.1;
        kept = λ all. here.3.2;
      };
      kept = here.3.2;
      bare_run = agree (wedge program events frames) n (boot (wedge program events frames)) run.sets run.reports run.last run.end run.run;
    }

-- ---- of the words' files

printed_headline : RunsAgree → (image script : List ℕ) (frames n : ℕ) (o : Outside) (st : Status) → HasEnded st
    → ComesToOne ((task_of (RunWedge image script frames n)).gives o.before.files) o st
    → HasHeadline image script frames n o st
printed_headline agree image script frames n o st ended h =
    let w = h.0 in
    let done = subst HasEnded h.2.0 ended in
    let b = reads_began (WithFrames (RunsPatched frames n) frames) o.before.files image script w h.1 done in
    let run = ended_ran (RunsPatched frames n) frames b.program b.events w done b.goes_on in
    record {
      program = b.program;
      events = b.events;
      runnable = record { image_held = b.accepted; script_held = b.read };
      headline = is_headline agree frames n b.program b.events o st w run.1 h.2;
    }

pub has_headline : RunsAgree → (image script : List ℕ) (frames n : ℕ) (o : Outside) (st : Status) → HasEnded st
    → Means (task_of (RunWedge image script frames n)) o st
    → HasHeadline image script frames n o st
has_headline agree image script frames n o status.Done ended h = printed_headline agree image script frames n o status.Done ended h
has_headline agree image script frames n o status.Stopped ended h = printed_headline agree image script frames n o status.Stopped ended h
has_headline agree image script frames n o status.Words ended h = absurd ended
has_headline agree image script frames n o status.Refused ended h = absurd ended
has_headline agree image script frames n o status.ReadFault ended h = absurd ended
has_headline agree image script frames n o status.WriteFault ended h = absurd ended
has_headline agree image script frames n o status.Memory ended h = absurd ended

-- where no fault came and memory was found, the run of an accepted image has ended
pub wedge_completes : RunsAgree → (words : List (List ℕ)) (o : Outside) (st : Status) → Completes words o st → RunsOnHost words o st
wedge_completes agree words o st complete image script frames n told program events free has le =
    let command = RunWedge image script frames n in
    let ran = run_came command (RunsPatched frames n) frames image script o told program events st (λ w g. g) has.image_held has.script_held
    le (came_over words command told o st complete free) in
    is_headline agree frames n program events o st ran.0 ran.1 ran.2
