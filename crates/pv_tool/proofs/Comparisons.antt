-- What `work` promises, where it is done.
use Rattle.std.proofs.Common.{◌≡◌, ◌≢◌, inl, inr, ℕ, ◌≤◌, List, [], ◌∷◌, Result, Ok, Err, refl, sym, ap, subst, ◌∙◌, arith}
use Rattle.pv_io.specs.Causes.{Rose}
use Rattle.kernel_gen.specs.Kernels.{kernel_text}
use Rattle.image_check.specs.Image.{Image}
use Rattle.image_load.specs.Boot.{need}
use Rattle.machine_model.specs.State.{boot}
use Rattle.machine_model.specs.Agreement.{RunsAgree}
use Rattle.pv_build.proofs.LineTexts.{same_exactly}
use Rattle.pv_build.specs.Building.{Builds}
use Rattle.pv_build.specs.declared.status.Status.{Status}
use Rattle.pv_build.specs.declared.status.Status.TheVariants as status
use Rattle.pv_words.specs.Words.{Work, Asks}
use Rattle.pv_tasks.specs.Outside.{Outside}
use Rattle.pv_tasks.specs.Outcome.{Outcome}
use Rattle.pv_tasks.specs.Running.{Ran, Small}
use Rattle.pv_tasks.specs.Working.{RunsTwice, WorksOn, Works, first_text, second_setting}
use Rattle.pv_tool.specs.Comparison.{IsComparison, HasComparison}
use Rattle.pv_tool.specs.Top.{Meaning, LoadsNone}
use Rattle.pv_tool.specs.Outcomes.{WorkDone, WorkRefused}
use Rattle.pv_tasks.specs.Tasks.{Means, ComesTo, ComesToOne, NoStore, NoPut}
use Rattle.pv_tool.specs.Asked.{task_of, reads_files}
use Rattle.pv_tasks.proofs.WorkMeanings.{builds_once, works_none, works_once}

-- both lines of two runs were printed
is_comparison : RunsAgree → (number : ℕ) (program : Image) (o : Outside) (st : Status) (w : Outcome) → RunsTwice number program w
    → ComesTo w o st → IsComparison number program o
is_comparison agree number program o st w run came =
    let here = subst (λ (v : Outcome). ComesTo v o st) run.comes came in
    record {
      second = run.second;
      count = run.last.step;
      end = run.end;
      fills = run.fills;
      printed = here.2;
      same = same_exactly (first_text program) run.second;
      promise = record {
        sets = run.sets;
        reports = run.reports;
        last = run.last;
        run = run.run;
        count_is = refl;
        text_is = run.second_is;
        counts = here.3.0;
        memory_is = here.3.1;
        kept = λ all. here.3.2;
      };
      kept = here.3.2;
      filled = run.filled;
      bare_run = agree (second_setting program) 100000 (boot (second_setting program)) run.sets run.reports run.last run.end run.run;
    }

not_done : status.Refused ≡ status.Done → ⊥
not_done is = cc

-- what is done has run an image
done_on : (number : ℕ) (made : Result Image (List ℕ)) (w : Outcome) → WorksOn number made w → w.status ≡ status.Done → (program : Image)
    × (made ≡ Ok program) × RunsTwice number program w
done_on number (Ok image) w (Ran fits run) is = (image, refl, run)
done_on number (Ok image) w (Small lt one) is = absurd (not_done (sym (ap (λ (v : Outcome). v.status) one) ∙ is))
done_on number (Err line) w one is = absurd (not_done (sym (ap (λ (v : Outcome). v.status) one) ∙ is))

of_done : RunsAgree → (number : ℕ) (o : Outside) → Means (task_of (Work number)) o status.Done → HasComparison number o
of_done agree number o (w, works, came) =
    let d = done_on number works.made w works.comes (sym came.0) in
    record {
      program = d.0;
      builds = subst (λ (m : Result Image (List ℕ)). Builds (kernel_text number) m) d.1 works.builds;
      comparison = is_comparison agree number d.0 o status.Done w d.2 came;
    }

pub has_comparison : RunsAgree → (number : ℕ) (o : Outside) (st : Status) → st ≡ status.Done → Means (task_of (Work number)) o st
    → HasComparison number o
has_comparison agree number o st done h = of_done agree number o (subst (λ (s : Status). Means (task_of (Work number)) o s) done h)

-- where no put failed and memory was found, the work's outcome was reported
came_to_work : (number : ℕ) (o : Outside) (st : Status) → (Rose o.before.puts o.after.puts → ⊥) → st ≢ status.Memory → st ≢ status.ReadFault
    → Means (task_of (Work number)) o st → ComesToOne (Works number) o st
came_to_work number o status.Done none found read h = h
came_to_work number o status.Stopped none found read h = h
came_to_work number o status.Refused none found read h = h
came_to_work number o status.ReadFault none found read h = absurd (read refl)
came_to_work number o status.WriteFault none found read (inl (v, gives, NoStore name bytes is changes rose unsure same)) =
    let stored = works_none number v gives in
    cc (stored, is)
came_to_work number o status.WriteFault none found read (inl (v, gives, NoPut mid stored first front rose)) = absurd (none rose)
came_to_work number o status.WriteFault none found read (inr h) = absurd (none h.rose)
came_to_work number o status.Memory none found read h = absurd (found refl)
came_to_work number o status.Words none found read h = absurd h

-- `work` reads no file
no_load : (words : List (List ℕ)) (number : ℕ) (st : Status) → Asks words (Work number) → LoadsNone words st → st ≢ status.ReadFault
no_load words number st asks loads = loads (ap reads_files asks)

ran_twice : (number : ℕ) (program : Image) (w : Outcome) → need program ≤ 4096 → WorksOn number (Ok program) w → RunsTwice number program w
ran_twice number program w le (Ran fits run) = run
ran_twice number program w le (Small lt is) = absurd (omega (arith, le, lt))

-- a kernel that is built into an image, for which there are frames, is run twice
pub work_completes : RunsAgree → (words : List (List ℕ)) (o : Outside) (st : Status) → Meaning words o st → LoadsNone words st
    → WorkDone words o st
work_completes agree words o st means loads number program asks builds le none found =
    let c = came_to_work number o st none found (no_load words number st asks loads) (means (Work number) asks) in
    let made = builds_once (kernel_text number) (Ok program) c.1.made builds c.1.builds in
    let run = ran_twice number program c.0 le (subst (λ (m : Result Image (List ℕ)). WorksOn number m c.0) made c.1.comes) in
    (c.2.0 ∙ ap (λ (v : Outcome). v.status) run.comes, is_comparison agree number program o st c.0 run c.2)

-- a refusal of the kernel is reported
pub work_refuses : (words : List (List ℕ)) (o : Outside) (st : Status) → Meaning words o st → LoadsNone words st → WorkRefused words o st
work_refuses words o st means loads number w asks works is none found =
    let c = came_to_work number o st none found (no_load words number st asks loads) (means (Work number) asks) in
    subst (λ (v : Outcome). ComesTo v o st) (works_once number w c.0 is works c.1) c.2
