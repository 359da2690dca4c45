-- The meaning of `replay`.
use Rattle.std.proofs.Common.{◌≡◌, inl, inr, ℕ, ◌<◌, ◌≤◌, List, Option, Result, sym, ap, subst, ◌∙◌}
use Rattle.pv_io.specs.Files.{FileMap, Holds}
use Rattle.pv_io.specs.Taking.{Taking}
use Rattle.board.specs.Scripts.{Events}
use Rattle.image_check.specs.Image.{Image}
use Rattle.image_load.specs.Boot.{need}
use Rattle.image_load.specs.declared.boot.TooSmall.{TooSmall}
use Rattle.trace_check.specs.declared.list.Choice.{Choice}
use Rattle.trace_check.specs.declared.answer.Verdict.{Verdict}
use Rattle.trace_check.specs.Judged.{judged}
use Rattle.pv_prove.specs.CertificateLines.{verdict_line}
use Rattle.pv_build.specs.Lines.{too_small_line}
use Rattle.pv_build.specs.Images.{HasImage}
use Rattle.pv_build.specs.Scripts.{HasScript}
use Rattle.pv_prove.specs.Certificates.{HasChoices}
use Rattle.pv_prove.specs.Unjudged.{NoReplay, NoRunnable, NoChoices}
use Rattle.pv_build.specs.Telling.{Says}
use Rattle.pv_build.specs.declared.status.Status.{Status}
use Rattle.pv_build.specs.declared.status.Status.TheVariants as status
use Rattle.pv_tasks.specs.Outside.{Outside}
use Rattle.pv_tasks.specs.Outcome.{Outcome, refused, printed}
use Rattle.pv_tasks.specs.Running.{Ran, Small, Reads}
use Rattle.pv_prove.specs.Replaying.{ByChoices, Replays, replay_task}
use Rattle.pv_prove.specs.Judging.{JudgesAs}
use Rattle.pv_tasks.specs.Faulting.{PutsEnd}
use Rattle.pv_tasks.specs.Tasks.{Means, HostDoes}
use Rattle.pv_tasks.proofs.Deliveries.{says_told}
use Rattle.pv_tasks.proofs.Faults.{puts_said}
use Rattle.pv_tasks.proofs.RunMeanings.{no_run}
use Rattle.pv_tasks.proofs.Works.{with_both}
use Rattle.pv_prove.proofs.ReplayLaws.{replays_all, replays_told, replays_end}

-- there is nothing to judge
pub no_replay : (frames n : ℕ) (files : Option FileMap) (image script certificate text line : List ℕ)
    → NoReplay files image script certificate line → Reads (Replays frames n files certificate text) files image script (refused line)
no_replay frames n files image script certificate text line (NoRunnable none) =
    no_run (Replays frames n files certificate text) files image script line none
no_replay frames n files image script certificate text line (NoChoices program events at has says none is) =
    with_both (Replays frames n files certificate text) files image script program events (refused line) has says (
      none.0,
      none.1,
      subst (λ (r : Result (List Choice) ℕ). ByChoices frames n files text program events r (refused line))
          (sym none.2) (ap refused is),
    )

-- what a sink has taken, by each of its parts
abbrev pub taking_of : Option (List ℕ) → Option (List ℕ) → ℕ → ℕ → Taking
taking_of old new before now = record { old = old; new = new; faults = before; faults_after = now }

-- the verdict's line, or that of memory that is too small
pub tells_verdict : (frames n : ℕ) (image : Image) (events : Events) (list : List Choice) (text : List ℕ) (old new : Option (List ℕ))
    (before now : ℕ) (verdict : Verdict) (line : List ℕ) (st : Status)
    → (need image ≤ frames) × (verdict ≡ judged image events frames n list text) → line ≡ verdict_line verdict
    → Says line status.Done old new before now st → JudgesAs frames n image events list text (taking_of old new before now) st
tells_verdict frames n image events list text old new before now verdict line st h is said =
    inl (printed line, Ran h.0 (ap printed (is ∙ ap verdict_line h.1)), said)

pub tells_small : (frames n : ℕ) (image : Image) (events : Events) (list : List Choice) (text : List ℕ) (old new : Option (List ℕ))
    (before now : ℕ) (small : TooSmall) (line : List ℕ) (st : Status)
    → (frames < need image) × (small ≡ record { need = need image; have = frames }) → line ≡ too_small_line small.need small.have
    → Says line status.Refused old new before now st
    → JudgesAs frames n image events list text (taking_of old new before now) st
tells_small frames n image events list text old new before now small line st h is said =
    inl (refused line, Small h.0 (ap refused (is ∙ ap (λ (s : TooSmall). too_small_line s.need s.have) h.1)), said)

-- a put that failed ended the work as a write fault
pub judges_puts : (frames n : ℕ) (image : Image) (events : Events) (list : List Choice) (text : List ℕ) (old new : Option (List ℕ))
    (before now : ℕ) (st : Status)
    → JudgesAs frames n image events list text (taking_of old new before now) st → PutsEnd before now st
judges_puts frames n image events list text old new before now st (inl (w, h, said)) = puts_said w.text w.status old new before now st said
judges_puts frames n image events list text old new before now st (inr (is, put, count)) = λ write. count

-- what was reported of what the files hold
pub replay_means : (image script certificate text : List ℕ) (frames n : ℕ) (o : Outside) (st : Status) (program : Image) (events : Events)
    (list : List Choice) (bytes : List ℕ)
    → HasImage o.before.files image program → HasScript o.before.files script events → HasChoices o.before.files certificate list
    → Holds o.before.files text bytes → o.after.files ≡ o.before.files → o.after.completed ≡ o.before.completed
    → JudgesAs frames n program events list bytes (taking_of o.before.taken o.after.taken o.before.puts o.after.puts) st
    → Means (replay_task image script frames n certificate text) o st
replay_means image script certificate text frames n o st program events list bytes has says choices holds same none (inl (w, h, said)) =
    let by : Replays frames n o.before.files certificate text program events w = (
      choices.0,
      choices.1,
      subst (λ (r : Result (List Choice) ℕ). ByChoices frames n o.before.files text program events r w) (sym choices.2)
          (bytes, holds, h),
    ) in
    says_told (replay_task image script frames n certificate text) o w st
    (replays_end frames n o.before.files certificate text program events w by)
    (replays_told frames n o.before.files certificate text program events w by)
    (with_both (Replays frames n o.before.files certificate text) o.before.files image script program events w has says by) same
    (λ end. replays_all (λ (v : Outcome). HostDoes v o) frames n o.before.files certificate text program events w (λ line. none)
    (λ line. none) by) said
replay_means image script certificate text frames n o st program events list bytes has says choices holds same none (inr (is, put, count)) =
    subst (λ (s : Status). Means (replay_task image script frames n certificate text) o s) (sym is) (same, inl (put, none))
