-- The meaning of `steps`.
use Rattle.std.proofs.Common.{◌≡◌, inl, inr, ℕ, List, Option, Result, Ok, Err, refl, sym, ap, subst, ◌∙◌}
use Rattle.board.specs.Scripts.{Events}
use Rattle.image_check.specs.Image.{Image}
use Rattle.image_load.specs.declared.fault.RunFault.{RunFault}
use Rattle.image_load.specs.declared.fault.RunFault.TheVariants as fault
use Rattle.run_trace.specs.declared.items.End.{End}
use Rattle.run_trace.specs.declared.items.Ended.{Ended}
use Rattle.wedge_core.specs.Counts.{Counts}
use Rattle.pv_build.specs.Lines.{too_small_line}
use Rattle.pv_build.specs.Telling.{Whole, Cut, ToldAs}
use Rattle.pv_build.specs.declared.status.Status.{Status}
use Rattle.pv_tasks.specs.Outcome.{Outcome, HasEnded, refused, ended}
use Rattle.pv_tasks.specs.Running.{RunsOn, Ran, Small}
use Rattle.pv_tasks.proofs.Around.{around_of}
use Rattle.pv_tasks.proofs.RunMeanings.{RanAs, appends_on, front_on, rose_on, says_from, has_ended}
use Rattle.pv_tasks.proofs.Works.{IsTold, AreEnds, AreTold}
use Rattle.look_words.specs.Words.{Only}
use Rattle.step_trace.specs.Answers.{TraceAnswers}
use Rattle.step_trace.specs.Traces.{Trace, buffered_trace}
use Rattle.pv_look.specs.Stepping.{TracesBare}

-- what a trace answered was reported
pub ran_steps : (image : Image) (events : Events) (frames n from : ℕ) (only : Only) (old mid new : Option (List ℕ)) (before middle now : ℕ)
    (r : Result Ended RunFault) (c : Counts) (memory : List ℕ) (st : Status)
    → TraceAnswers image frames (buffered_trace image events frames n from only) old mid before middle r
    → ToldAs r mid new middle now st
    → RanAs (RunsOn (TracesBare frames n from only image events) image frames) (around_of old new before now c c) memory st
ran_steps image events frames n from only old mid new before middle now (Ok e) c memory st h told =
    let t : Trace = buffered_trace image events frames n from only in
    let end_is : e.end ≡ t.end = ap (λ (x : Ended). x.end) h.1.0 in
    inl (
      ended e.end t.text,
      Ran h.0 (ap (λ (x : End). ended x t.text) end_is),
      Whole told.0 (appends_on old mid new t.text told.1 h.1.1) (told.2 ∙ h.1.2),
      λ end. refl,
    )
ran_steps image events frames n from only old mid new before middle now (Err fault.Write) c memory st h told =
    let t : Trace = buffered_trace image events frames n from only in
    inl (
      ended t.end t.text,
      Ran h.0 refl,
      Cut told.0 (front_on old mid new t.text told.1 h.1.0) (rose_on before middle now told.2 h.1.1),
      λ end. refl,
    )
ran_steps image events frames n from only old mid new before middle now (Err (fault.TooSmall small)) c memory st h (inl said) =
    inl (
      refused (too_small_line small.need small.have),
      Small h.0 (ap (λ s. refused (too_small_line s.need s.have)) h.1),
      says_from (too_small_line small.need small.have) old mid new before middle now st h.2 h.3 said,
      λ end. refl,
    )
ran_steps image events frames n from only old mid new before middle now (Err (fault.TooSmall small)) c memory st h (inr none) =
    inr (none.0, none.1 ∙ h.2, refl, none.2 ∙ h.3)
ran_steps image events frames n from only old mid new before middle now (Err fault.Memory) c memory st h told =
    inr (told.0, told.1 ∙ h.0, refl, told.2 ∙ h.1)

pub steps_end : (frames n from : ℕ) (only : Only) → AreEnds (TracesBare frames n from only)
steps_end frames n from only image events w h =
    subst (λ (v : Outcome). HasEnded v.status) (sym h) (has_ended (buffered_trace image events frames n from only).end)

pub steps_told : (frames n from : ℕ) (only : Only) → AreTold (TracesBare frames n from only)
steps_told frames n from only image events w h = subst IsTold (sym h) refl
