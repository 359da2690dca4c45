-- The outcome of `save` over its files, what it counts, and what it leaves.
use Rattle.std.proofs.Common.{◌≡◌, ℕ, ◌<◌, ◌≤◌, List, [], Option, Result, Ok, Err, refl, sym, ap, subst, ◌∙◌, inl, inr}
use Rattle.pv_io.specs.Files.{FileMap}
use Rattle.pv_io.specs.declared.files.Files as disk
use Rattle.pv_io.specs.declared.sink.Sink as sink
use Rattle.host_cpl3.specs.declared.host.Host as hosts
use Rattle.board.specs.Scripts.{Events}
use Rattle.image_check.specs.Image.{Image}
use Rattle.image_load.specs.Boot.{need}
use Rattle.image_load.specs.declared.fault.RunFault.{RunFault}
use Rattle.image_load.specs.declared.fault.RunFault.TheVariants as fault
use Rattle.machine_model.specs.State as model
use Rattle.machine_model.specs.State.{Setting, boot}
use Rattle.machine_model.specs.Step.{Report}
use Rattle.checkpoint.specs.declared.state.State.{State}
use Rattle.checkpoint.specs.declared.rested.Rested.{Rested}
use Rattle.checkpoint.specs.declared.rested.Rested.TheVariants as rest
use Rattle.checkpoint.specs.States.{checkpoint_bytes}
use Rattle.checkpoint.specs.InForm.{IsInForm}
use Rattle.checkpoint.specs.Moved.{rested_from}
use Rattle.checkpoint.specs.Fits.{fits_of}
use Rattle.checkpoint.specs.RestAnswers.{NothingDone, RestsWith, RestsAs, RestsFromStart}
use Rattle.pv_save.specs.Checkpoints.{saved_line, HasState}
use Rattle.pv_build.specs.Lines.{too_small_line}
use Rattle.pv_build.specs.Images.{HasImage}
use Rattle.pv_build.specs.Scripts.{HasScript}
use Rattle.pv_build.specs.Statuses.{status_of}
use Rattle.pv_build.specs.declared.status.Status.{Status}
use Rattle.pv_build.specs.declared.status.Status.TheVariants as status
use Rattle.pv_tasks.specs.Outside.{Outside}
use Rattle.pv_tasks.specs.Outcome.{refused}
use Rattle.pv_tasks.specs.Running.{Ran, Small}
use Rattle.pv_save.specs.Answering.{HasForm}
use Rattle.pv_save.specs.Leaving.{LeavesAs}
use Rattle.pv_save.specs.Saving.{SavesBoot, SavesOn, FromFile, setting_on, frames_of, is_wedge}
use Rattle.pv_save.specs.Resting.{save_task, save_from_task, LeavesState}
use Rattle.pv_words.specs.declared.mode.RunMode.{RunMode}
use Rattle.pv_words.specs.declared.mode.RunMode.TheVariants as mode
use Rattle.pv_tasks.proofs.Works.{WithFrames, with_both}
use Rattle.pv_save.proofs.RestLaws.{with_state}
use Rattle.pv_tasks.proofs.Deliveries.{stored_done, not_said}
use Rattle.pv_save.proofs.RestMeanings.{Saves}

-- ---- over the files

pub fits_on : (on : RunMode) (image : Image) (events : Events) (frames : ℕ)
    → need (setting_on on image events frames).image ≤ (setting_on on image events frames).frames → need image ≤ frames
fits_on mode.Bare image events frames h = h
fits_on mode.Wedge image events frames h = h

-- from the start
pub saves_boot : (on : RunMode) (image script : List ℕ) (frames n : ℕ) (file : List ℕ) (o : Outside) (i : Image) (e : Events)
    → HasImage o.before.files image i → HasScript o.before.files script e → need i ≤ frames
    → Saves (save_task on image script frames n file) o on (setting_on on i e frames) n (boot (setting_on on i e frames)) file
saves_boot on image script frames n file o i e has says fits = record {
  gives = λ w h. with_both (WithFrames (SavesBoot on frames n file) frames) o.before.files image script i e w has says (Ran fits h);
  begins = λ text h. (i, e, has, says, fits, h);
  takes = λ first p. p;
  prints = λ h. (i, e, has, says, fits, h);
}

small_is : (on : RunMode) (image script : List ℕ) (frames n : ℕ) (file : List ℕ) (files : Option FileMap) (i : Image) (e : Events)
    → HasImage files image i → HasScript files script e → frames < need i
    → (save_task on image script frames n file).gives files (refused (too_small_line (need i) frames))
small_is on image script frames n file files i e has says lt =
    with_both (WithFrames (SavesBoot on frames n file) frames) files image script i e _ has says (Small lt refl)

pub small_boot : (on : RunMode) (image script : List ℕ) (frames n : ℕ) (file : List ℕ) (files : Option FileMap) (i : Image) (e : Events)
    → HasImage files image i → HasScript files script e
    → (setting_on on i e frames).frames < need (setting_on on i e frames).image
    → (save_task on image script frames n file).gives files
    (refused (too_small_line (need (setting_on on i e frames).image) (setting_on on i e frames).frames))
small_boot mode.Bare image script frames n file files i e has says lt = small_is mode.Bare image script frames n file files i e has says lt
small_boot mode.Wedge image script frames n file files i e has says lt =
    small_is mode.Wedge image script frames n file files i e has says lt

-- from a checkpoint's state
pub saves_state : (on : RunMode) (image script file : List ℕ) (n : ℕ) (new : List ℕ) (o : Outside) (i : Image) (e : Events) (s : State)
    → HasImage o.before.files image i → HasScript o.before.files script e → HasState o.before.files file s
    → fits_of s i (is_wedge on) n ≡ Ok tt → Saves (save_from_task on image script file n new) o on (setting_on on i e (frames_of s))
    n (rested_from s) new
saves_state on image script file n new o i e s has says state fit = record {
  gives = λ w h. with_both (FromFile (SavesOn on n new) on n o.before.files file) o.before.files image script i e w has says
      (with_state (SavesOn on n new) on n o.before.files file i e s w state fit h);
  begins = λ text h. (i, e, s, has, says, state, fit, h);
  takes = λ first p. p;
  prints = λ h. (i, e, s, has, says, state, fit, h);
}

-- ---- what is left

-- a run that doesn't rest was not done
abbrev pub IsStop : Result Rested RunFault → Type 0
IsStop (Ok (rest.At state)) = Unit {0}
IsStop (Ok (rest.Stopped ended)) = status_of ended.end ≡ status.Done → ⊥
IsStop (Err why) = Unit {0}

pub stopped_so : (st : Status) → st ≡ status.Stopped → st ≡ status.Done → ⊥
stopped_so st a b = cc

pub rests_stop : (m : Setting) (n : ℕ) (first : model.State) (counts : List Report → Type 0) (old new : Option (List ℕ)) (before now : ℕ)
    (r : Result Rested RunFault) → RestsAs m n first counts old new before now r → IsStop r
rests_stop m n first counts old new before now (Ok (rest.At state)) h = tt
rests_stop m n first counts old new before now (Ok (rest.Stopped ended)) h = stopped_so (status_of ended.end) (ap status_of h.5)
rests_stop m n first counts old new before now (Err why) h = tt

pub starts_stop : (m : Setting) (n : ℕ) (counts : List Report → Type 0) (old new : Option (List ℕ)) (before now : ℕ)
    (r : Result Rested RunFault) → RestsFromStart m n counts old new before now r → IsStop r
starts_stop m n counts old new before now (Ok rested) h = rests_stop m n (boot m) counts old new before now (Ok rested) h.1
starts_stop m n counts old new before now (Err why) h = tt

-- where all is done a state was stored that is read back
pub left_state : (r : Result Rested RunFault) (name : List ℕ) (o : Outside) (st : Status) → IsStop r → LeavesAs r name o st
    → st ≡ status.Done → LeavesState name o.before.files o.after.files
left_state (Ok (rest.At state)) name o st stop (inl (left, back)) done =
    (state, back, stored_done o name (checkpoint_bytes state) (saved_line state.step) st left done)
left_state (Ok (rest.At state)) name o st stop (inr none) done = let is = none.0 in cc
left_state (Ok (rest.Stopped ended)) name o st stop left done = absurd (stop (sym left.0.0 ∙ done))
left_state (Err fault.Write) name o st stop left done = let is = left.0.0 in cc
left_state (Err (fault.TooSmall small)) name o st stop (inl said, same) done =
    absurd (not_said (too_small_line small.need small.have) _ _ _ _ st said done)
left_state (Err (fault.TooSmall small)) name o st stop (inr none, same) done = let is = none.0 in cc
left_state (Err fault.Memory) name o st stop left done = let is = left.0.0 in cc

-- ---- what a run answers that rests

-- a checkpoint can be made of the state
pub has_form : (m : Setting) (n : ℕ) (first : model.State) (counts : List Report → Type 0) (old new : Option (List ℕ)) (before now : ℕ)
    (r : Result Rested RunFault) → RestsAs m n first counts old new before now r → HasForm r
has_form m n first counts old new before now (Ok (rest.At state)) h = subst IsInForm (sym h.2) h.1.form
has_form m n first counts old new before now (Ok (rest.Stopped ended)) h = tt
has_form m n first counts old new before now (Err why) h = tt

-- the same of reports of which something else is counted
rests_with : (m : Setting) (n : ℕ) (first : model.State) (counts counts2 : List Report → Type 0) (old new : Option (List ℕ))
    (before now : ℕ) (last : model.State) → ((reports : List Report) → counts2 reports)
    → RestsWith m n first counts old new before now last → RestsWith m n first counts2 old new before now last
rests_with m n first counts counts2 old new before now last all h = record {
  text = h.text;
  rests = record {
    sets = h.rests.sets;
    reports = h.rests.reports;
    run = h.rests.run;
    text_is = h.rests.text_is;
    counted = all h.rests.reports;
  };
  form = h.form;
  size = h.size;
  put = h.put;
  kept = h.kept;
}

nothing_done : (counts counts2 : List Report → Type 0) (old new : Option (List ℕ)) (before now : ℕ)
    → ((reports : List Report) → counts2 reports) → NothingDone counts old new before now → NothingDone counts2 old new before now
nothing_done counts counts2 old new before now all h = (h.0, h.1, all [])

pub rests_counted : (m : Setting) (n : ℕ) (first : model.State) (counts counts2 : List Report → Type 0) (old new : Option (List ℕ))
    (before now : ℕ) (r : Result Rested RunFault) → ((reports : List Report) → counts2 reports)
    → RestsAs m n first counts old new before now r → RestsAs m n first counts2 old new before now r
rests_counted m n first counts counts2 old new before now (Ok (rest.At state)) all h =
    (h.0, rests_with m n first counts counts2 old new before now h.0 all h.1, h.2)
rests_counted m n first counts counts2 old new before now (Ok (rest.Stopped ended)) all h = (
  h.0,
  h.1,
  h.2,
  record { sets = h.3.sets; reports = h.3.reports; run = h.3.run; text_is = h.3.text_is; counted = all h.3.reports },
  h.4,
  h.5,
  h.6,
  h.7,
  h.8,
)
rests_counted m n first counts counts2 old new before now (Err fault.Write) all h = h
rests_counted m n first counts counts2 old new before now (Err (fault.TooSmall small)) all h = h
rests_counted m n first counts counts2 old new before now (Err fault.Memory) all (inl none) =
    inl (nothing_done counts counts2 old new before now all none)
rests_counted m n first counts counts2 old new before now (Err fault.Memory) all (inr lines) =
    inr (lines.0, rests_with m n first counts counts2 old new before now lines.0 all lines.1)

pub starts_counted : (m : Setting) (n : ℕ) (counts counts2 : List Report → Type 0) (old new : Option (List ℕ)) (before now : ℕ)
    (r : Result Rested RunFault) → ((reports : List Report) → counts2 reports)
    → RestsFromStart m n counts old new before now r → RestsFromStart m n counts2 old new before now r
starts_counted m n counts counts2 old new before now (Ok rested) all h =
    (h.0, rests_counted m n (boot m) counts counts2 old new before now (Ok rested) all h.1)
starts_counted m n counts counts2 old new before now (Err fault.Write) all h = h
starts_counted m n counts counts2 old new before now (Err (fault.TooSmall small)) all h =
    (h.0, h.1, nothing_done counts counts2 old new before now all h.2)
starts_counted m n counts counts2 old new before now (Err fault.Memory) all (inl none) =
    inl (nothing_done counts counts2 old new before now all none)
starts_counted m n counts counts2 old new before now (Err fault.Memory) all (inr (fits, lines)) =
    inr (fits, (lines.0, rests_with m n (boot m) counts counts2 old new before now lines.0 all lines.1))
