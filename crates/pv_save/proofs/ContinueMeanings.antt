-- The meaning of `continue`, and the outcomes of `save` and `continue` where there is nothing to go on from.
use Rattle.std.proofs.Common.{◌≡◌, inl, inr, Bool, ℕ, List, Option, Result, Ok, Err, refl, sym, ap, subst, ◌∙◌}
use Rattle.pv_io.specs.Files.{FileMap}
use Rattle.pv_io.specs.Sink.{Appends, AppendsFront}
use Rattle.board.specs.Scripts.{Events}
use Rattle.image_check.specs.Image.{Image}
use Rattle.image_load.specs.declared.fault.RunFault.{RunFault}
use Rattle.image_load.specs.declared.fault.RunFault.TheVariants as fault
use Rattle.run_trace.specs.declared.items.Ended.{Ended}
use Rattle.machine_model.specs.State.{wedge}
use Rattle.machine_model.specs.Run.{stopping}
use Rattle.bare_machine.specs.Answers.{WholeAs}
use Rattle.bare_machine.specs.Settings.{bare}
use Rattle.wedge_core.specs.Counts.{Counts}
use Rattle.checkpoint.specs.declared.state.State.{State}
use Rattle.checkpoint.specs.declared.state.CheckpointCause.{CheckpointCause}
use Rattle.checkpoint.specs.Moved.{rested_from}
use Rattle.checkpoint.specs.Fits.{fits_of}
use Rattle.checkpoint.specs.Continued.{WedgeGoesTo}
use Rattle.pv_tasks.proofs.Around.{around_of}
use Rattle.pv_build.specs.Telling.{Whole, Cut, ToldAs}
use Rattle.pv_build.specs.Statuses.{status_of}
use Rattle.pv_build.specs.Images.{HasImage}
use Rattle.pv_build.specs.Scripts.{HasScript}
use Rattle.pv_save.specs.Checkpoints.{HasState}
use Rattle.pv_save.specs.Unresumed.{NoResumption, NothingToRun, NoState, Unfit}
use Rattle.pv_build.specs.declared.status.Status.{Status}
use Rattle.pv_tasks.specs.Outside.{Outside}
use Rattle.pv_tasks.specs.Outcome.{Outcome, HostedRun, refused, told, run_text}
use Rattle.pv_tasks.specs.Running.{Reads}
use Rattle.pv_save.specs.Answering.{AnswersOnwards}
use Rattle.pv_save.specs.Saving.{WhereFits, OnState, FromFile, frames_of, is_wedge}
use Rattle.pv_save.specs.Continuing.{ContinuesOn, run_on}
use Rattle.pv_tasks.specs.Faulting.{PutsEnd}
use Rattle.pv_tasks.specs.Tasks.{Task, Means}
use Rattle.pv_words.specs.declared.mode.RunMode.{RunMode}
use Rattle.pv_words.specs.declared.mode.RunMode.TheVariants as mode
use Rattle.pv_tasks.proofs.Deliveries.{says_told}
use Rattle.pv_tasks.proofs.Works.{ended_is_end, with_both}
use Rattle.pv_tasks.proofs.RunMeanings.{RanAs, ran_puts, appends_on, front_on, rose_on, text_at, no_write, no_run}
use Rattle.pv_save.proofs.RestLaws.{continues_ended, continues_told, with_state}

-- ---- one run

continued_bare : (image : Image) (events : Events) (n : ℕ) (s : State) (old mid new : Option (List ℕ)) (before middle now : ℕ)
    (r : Result Ended RunFault) (c : Counts) (memory : List ℕ) (st : Status)
    → WholeAs (bare image events (frames_of s)) n (rested_from s) old mid before middle r → ToldAs r mid new middle now st
    → RanAs (ContinuesOn mode.Bare n image events s) (around_of old new before now c c) memory st
continued_bare image events n s old mid new before middle now (Ok e) c memory st h said =
    let p = h.1 in
    let run : HostedRun =
    record { setting = bare image events (frames_of s); sets = p.sets; reports = p.reports; last = p.last; end = e.end } in
    inl (
      told (status_of e.end) (run_text run) (run_on mode.Bare (rested_from s) run (stopping run.setting n p.last run.end p.run.ends)),
      record { sets = p.sets; reports = p.reports; last = p.last; end = e.end; run = p.run; comes = refl },
      Whole said.0 (appends_on old mid new (run_text run) said.1
          (subst (λ (t : List ℕ). Appends old mid t) (text_at p.reports h.0 e.steps p.last.step e.end p.text_is p.count_is) h.2)) (said.2
          ∙ h.3),
      λ end. refl,
    )
continued_bare image events n s old mid new before middle now (Err fault.Write) c memory st h said =
    let p = h.3 in
    let run : HostedRun =
    record { setting = bare image events (frames_of s); sets = p.sets; reports = p.reports; last = p.last; end = h.2 } in
    inl (
      told (status_of h.2) (run_text run) (run_on mode.Bare (rested_from s) run (stopping run.setting n p.last run.end p.run.ends)),
      record { sets = p.sets; reports = p.reports; last = p.last; end = h.2; run = p.run; comes = refl },
      Cut said.0 (front_on old mid new (run_text run) said.1
          (subst (λ (t : List ℕ). AppendsFront old mid t) (text_at p.reports h.0 h.1 p.last.step h.2 p.text_is p.count_is) h.4)) (rose_on
          before middle now said.2 h.5),
      λ end. refl,
    )
continued_bare image events n s old mid new before middle now (Err (fault.TooSmall small)) c memory st h said = absurd h
continued_bare image events n s old mid new before middle now (Err fault.Memory) c memory st h said = absurd h

continued_wedge : (image : Image) (events : Events) (n : ℕ) (s : State) (old mid new : Option (List ℕ)) (before middle now : ℕ)
    (r : Result Ended RunFault) (c c2 : Counts) (memory : List ℕ) (st : Status)
    → WedgeGoesTo (wedge image events (frames_of s)) n (rested_from s) (around_of old mid before middle c c2) memory r
    → ToldAs r mid new middle now st
    → RanAs (ContinuesOn mode.Wedge n image events s) (around_of old new before now c c2) memory st
continued_wedge image events n s old mid new before middle now (Ok e) c c2 memory st h said =
    let p = h.1 in
    let run : HostedRun =
    record { setting = wedge image events (frames_of s); sets = p.sets; reports = p.reports; last = p.last; end = e.end } in
    inl (
      told (status_of e.end) (run_text run) (run_on mode.Wedge (rested_from s) run (stopping run.setting n p.last run.end p.run.ends)),
      record { sets = p.sets; reports = p.reports; last = p.last; end = e.end; run = p.run; comes = refl },
      Whole said.0 (appends_on old mid new (run_text run) said.1
          (subst (λ (t : List ℕ). Appends old mid t) (text_at p.reports h.0 e.steps p.last.step e.end p.text_is p.count_is) h.2)) (said.2
          ∙ h.3),
      λ end. (p.counts, p.memory_is, p.kept),
    )
continued_wedge image events n s old mid new before middle now (Err fault.Write) c c2 memory st h said =
    let p = h.3 in
    let run : HostedRun =
    record { setting = wedge image events (frames_of s); sets = p.sets; reports = p.reports; last = p.last; end = h.2 } in
    inl (
      told (status_of h.2) (run_text run) (run_on mode.Wedge (rested_from s) run (stopping run.setting n p.last run.end p.run.ends)),
      record { sets = p.sets; reports = p.reports; last = p.last; end = h.2; run = p.run; comes = refl },
      Cut said.0 (front_on old mid new (run_text run) said.1
          (subst (λ (t : List ℕ). AppendsFront old mid t) (text_at p.reports h.0 h.1 p.last.step h.2 p.text_is p.count_is) h.4)) (rose_on
          before middle now said.2 h.5),
      λ end. absurd (no_write h.2 (sym said.0 ∙ end)),
    )
continued_wedge image events n s old mid new before middle now (Err (fault.TooSmall small)) c c2 memory st h said = absurd h
continued_wedge image events n s old mid new before middle now (Err fault.Memory) c c2 memory st h said =
    inr (said.0, said.1 ∙ h.0, h.2, said.2 ∙ h.1)

-- what was answered on a machine was reported
pub continued : (on : RunMode) (image : Image) (events : Events) (n : ℕ) (s : State) (old mid new : Option (List ℕ)) (before middle now : ℕ)
    (r : Result Ended RunFault) (c c2 : Counts) (memory : List ℕ) (st : Status)
    → AnswersOnwards on n image events s (around_of old mid before middle c c2) memory r → ToldAs r mid new middle now st
    → RanAs (ContinuesOn on n image events s) (around_of old new before now c c2) memory st
continued mode.Bare image events n s old mid new before middle now r c c2 memory st h said =
    subst (λ (x : Counts). RanAs (ContinuesOn mode.Bare n image events s) (around_of old new before now c x) memory st) (sym h.1)
    (continued_bare image events n s old mid new before middle now r c memory st h.0 said)
continued mode.Wedge image events n s old mid new before middle now r c c2 memory st h said =
    continued_wedge image events n s old mid new before middle now r c c2 memory st h said

-- a put that failed ended the work as a write fault
pub continue_puts : (on : RunMode) (image : Image) (events : Events) (n : ℕ) (s : State) (old mid new : Option (List ℕ))
    (before middle now : ℕ) (r : Result Ended RunFault) (c c2 : Counts) (memory : List ℕ) (st : Status)
    → AnswersOnwards on n image events s (around_of old mid before middle c c2) memory r → ToldAs r mid new middle now st
    → PutsEnd before now st
continue_puts on image events n s old mid new before middle now r c c2 memory st h said =
    ran_puts (ContinuesOn on n image events s) (around_of old new before now c c2) memory st
    (continued on image events n s old mid new before middle now r c c2 memory st h said)

-- ---- with the files

-- there is nothing to go on from
pub no_rest : (goes : Image → Events → State → Outcome → Type 0) (on : RunMode) (asked : Bool) (n : ℕ) (files : Option FileMap)
    (image script name : List ℕ) (line : List ℕ)
    → asked ≡ is_wedge on → NoResumption files image script name asked n line → Reads (FromFile goes on n files name) files image
    script (refused line)
no_rest goes on asked n files image script name line is (NothingToRun none) =
    no_run (FromFile goes on n files name) files image script line none
no_rest goes on asked n files image script name line is (NoState program events at has says none line_is) =
    with_both (FromFile goes on n files name) files image script program events (refused line) has says (
      none.0,
      none.1,
      subst (λ (r : Result State ℕ). OnState (goes program events) on n program r (refused line)) (sym none.2)
          (ap refused line_is),
    )
no_rest goes on asked n files image script name line is (Unfit program events s at why has says state fit line_is) =
    let unfit = subst (λ (b : Bool). fits_of s program b n ≡ Err (at, why)) is fit in
    with_both (FromFile goes on n files name) files image script program events (refused line) has says (
      state.0,
      state.1,
      subst (λ (r : Result State ℕ). OnState (goes program events) on n program r (refused line)) (sym state.2)
          (subst (λ (r : Result Unit (ℕ × CheckpointCause)). WhereFits (goes program events) s r (refused line)) (sym unfit)
          (ap refused line_is)),
    )

-- a run goes on from the files' image, script and checkpoint
pub continue_means : (task : Task) (on : RunMode) (asked : Bool) (n : ℕ) (image script name : List ℕ) (o : Outside) (st : Status)
    (i : Image) (e : Events) (s : State)
    → ((w : Outcome) → Reads (FromFile (ContinuesOn on n) on n o.before.files name) o.before.files image script w
    → task.gives o.before.files w)
    → HasImage o.before.files image i → HasScript o.before.files script e → HasState o.before.files name s → asked ≡ is_wedge on
    → fits_of s i asked n ≡ Ok tt → o.after.files ≡ o.before.files
    → RanAs (ContinuesOn on n i e s)
    (around_of o.before.taken o.after.taken o.before.puts o.after.puts o.before.completed o.after.completed) o.after.memory
    st → Means task o st
continue_means task on asked n image script name o st i e s gives has has_script state is fit same (inl (w, h, said, does)) =
    let fits = subst (λ (b : Bool). fits_of s i b n ≡ Ok tt) is fit in
    says_told task o w st (ended_is_end w.status (continues_ended on n i e s w h)) (continues_told on n i e s w h)
    (gives w (with_both (FromFile (ContinuesOn on n) on n o.before.files name) o.before.files image script i e w has has_script
    (with_state (ContinuesOn on n) on n o.before.files name i e s w state fits h))) same does said
continue_means task on asked n image script name o st i e s gives has has_script state is fit same (inr (no_memory, none, still, count)) =
    subst (λ (x : Status). Means task o x) (sym no_memory) (same, inl (none, still))
