-- The outcomes of `prove` and `replay`.
use Rattle.std.proofs.Common.{◌≡◌, ℕ, Bool, true, false, List, Option, Some, None, Result, Ok, Err, refl, sym, subst, ◌∙◌, arith}
use Rattle.std.specs.Prelude.{if◌then◌else◌}
use Rattle.pv_io.specs.Files.{FileMap}
use Rattle.board.specs.Scripts.{Events}
use Rattle.image_check.specs.Image.{Image}
use Rattle.trace_check.specs.declared.list.Choice.{Choice}
use Rattle.trace_check.specs.Form.{choices_bytes}
use Rattle.trace_check.specs.ChoicesTold.{choices_of}
use Rattle.trace_check.specs.Reading.{choices_in}
use Rattle.trace_check.specs.Judged.{judged}
use Rattle.pv_prove.specs.CertificateLines.{certificate_refusal, verdict_line}
use Rattle.pv_prove.specs.Certificates.{HasChoices, FindsReplay}
use Rattle.pv_tasks.specs.Outcome.{Outcome, refused, printed, HasEnded}
use Rattle.pv_tasks.specs.Running.{Ran, Small, Reads}
use Rattle.pv_prove.specs.Proving.{are_few, ProvesRun}
use Rattle.pv_prove.specs.Replaying.{Judges, ByChoices, Replays}
use Rattle.pv_tasks.proofs.SameFiles.{same_file}
use Rattle.pv_tasks.proofs.Works.{IsEnd, IsSaved, IsTold, IsRefusal, IsOnce, AreEnds, ended_refusal, reads_both, reads_found}
use Rattle.pv_tasks.proofs.RunMeanings.{has_ended}

-- ---- `prove`

pub proves_ends : (frames n : ℕ) (name : List ℕ) → AreEnds (ProvesRun frames n name)
proves_ends frames n name image events w h = subst (λ (v : Outcome). HasEnded v.status) (sym h.comes) (has_ended h.end)

file_saved : (few : Bool) (name bytes : List ℕ) → IsSaved (Some name) (if few then Some (name, bytes) else None)
file_saved true name bytes = refl
file_saved false name bytes = tt

pub proves_saved : (frames n : ℕ) (name : List ℕ) (image : Image) (events : Events) (w : Outcome) → ProvesRun frames n name image events w
    → IsSaved (Some name) w.stored
proves_saved frames n name image events w h =
    subst (λ (v : Outcome). IsSaved (Some name) v.stored) (sym h.comes)
    (file_saved (are_few h.notes) name (choices_bytes (choices_of h.notes)))

-- ---- `replay`

-- what holds of each refusal and of each verdict holds of the outcome of a replay
judges_all : (P : Outcome → Type 0) (frames n : ℕ) (image : Image) (events : Events) (list : List Choice) (text : List ℕ) (w : Outcome)
    → ((line : List ℕ) → P (refused line)) → ((line : List ℕ) → P (printed line)) → Judges frames n image events list text w → P w
judges_all P frames n image events list text w of_line of_verdict (Ran fits is) =
    subst P (sym is) (of_verdict (verdict_line (judged image events frames n list text)))
judges_all P frames n image events list text w of_line of_verdict (Small lt is) = subst P (sym is) (of_line _)

choices_all : (P : Outcome → Type 0) (frames n : ℕ) (files : Option FileMap) (text : List ℕ) (image : Image) (events : Events)
    (r : Result (List Choice) ℕ) (w : Outcome)
    → ((line : List ℕ) → P (refused line)) → ((line : List ℕ) → P (printed line)) → ByChoices frames n files text image events r w → P w
choices_all P frames n files text image events (Ok list) w of_line of_verdict h =
    judges_all P frames n image events list h.0 w of_line of_verdict h.2
choices_all P frames n files text image events (Err at) w of_line of_verdict h = subst P (sym h) (of_line (certificate_refusal at))

pub replays_all : (P : Outcome → Type 0) (frames n : ℕ) (files : Option FileMap) (certificate text : List ℕ) (image : Image)
    (events : Events) (w : Outcome)
    → ((line : List ℕ) → P (refused line)) → ((line : List ℕ) → P (printed line))
    → Replays frames n files certificate text image events w → P w
replays_all P frames n files certificate text image events w of_line of_verdict h =
    choices_all P frames n files text image events (choices_in h.0) w of_line of_verdict h.2

pub replays_told : (frames n : ℕ) (files : Option FileMap) (certificate text : List ℕ) (image : Image) (events : Events) (w : Outcome)
    → Replays frames n files certificate text image events w → IsTold w
replays_told frames n files certificate text image events w h =
    replays_all IsTold frames n files certificate text image events w (λ line. refl) (λ line. refl) h

pub replays_end : (frames n : ℕ) (files : Option FileMap) (certificate text : List ℕ) (image : Image) (events : Events) (w : Outcome)
    → Replays frames n files certificate text image events w → IsEnd w.status
replays_end frames n files certificate text image events w h =
    replays_all (λ (v : Outcome). IsEnd v.status) frames n files certificate text image events w (λ line. tt) (λ line. tt) h

pub replays_refusal : (frames n : ℕ) (files : Option FileMap) (certificate text : List ℕ) (image : Image) (events : Events) (w : Outcome)
    → Replays frames n files certificate text image events w → IsRefusal w
replays_refusal frames n files certificate text image events w h =
    replays_all IsRefusal frames n files certificate text image events w (λ line is. refl) (λ line. ended_refusal (printed line) tt) h

-- they have one outcome only
judges_once : (frames n : ℕ) (image : Image) (events : Events) (list : List Choice) (text : List ℕ) (w v : Outcome)
    → Judges frames n image events list text w → Judges frames n image events list text v → v ≡ w
judges_once frames n image events list text w v (Ran fits one) (Ran fits2 two) = two ∙ sym one
judges_once frames n image events list text w v (Ran fits one) (Small lt two) = absurd (omega (arith, fits, lt))
judges_once frames n image events list text w v (Small lt one) (Ran fits two) = absurd (omega (arith, fits, lt))
judges_once frames n image events list text w v (Small lt one) (Small lt2 two) = two ∙ sym one

choices_once : (frames n : ℕ) (told : FileMap) (text : List ℕ) (image : Image) (events : Events)
    (r : Result (List Choice) ℕ) (w v : Outcome)
    → ByChoices frames n (Some told) text image events r w → ByChoices frames n (Some told) text image events r v → v ≡ w
choices_once frames n told text image events (Ok list) w v h k =
    let same = same_file told text k.0 h.0 k.1 h.1 in
    judges_once frames n image events list h.0 w v h.2 (subst (λ (f : List ℕ). Judges frames n image events list f v) same k.2)
choices_once frames n told text image events (Err at) w v h k = k ∙ sym h

pub replays_once : (frames n : ℕ) (told : FileMap) (certificate text : List ℕ) → IsOnce (Replays frames n (Some told) certificate text)
replays_once frames n told certificate text image events w v is h k =
    let same = same_file told certificate k.0 h.0 k.1 h.1 in
    choices_once frames n told text image events (choices_in h.0) w v h.2
    (subst (λ (f : List ℕ). ByChoices frames n (Some told) text image events (choices_in f) v) same k.2)

-- over a certificate that is held the text is judged
pub by_choices : (frames n : ℕ) (told : FileMap) (certificate text : List ℕ) (image : Image) (events : Events)
    (list : List Choice) (w : Outcome)
    → HasChoices (Some told) certificate list → Replays frames n (Some told) certificate text image events w
    → ByChoices frames n (Some told) text image events (Ok list) w
by_choices frames n told certificate text image events list w has h =
    let same = same_file told certificate h.0 has.0 h.1 has.1 in
    subst (λ (r : Result (List Choice) ℕ). ByChoices frames n (Some told) text image events r w) has.2
    (subst (λ (f : List ℕ). ByChoices frames n (Some told) text image events (choices_in f) w) same h.2)

pub replays_found : (frames n : ℕ) (told : FileMap) (image script certificate text : List ℕ) (w : Outcome)
    → Reads (Replays frames n (Some told) certificate text) (Some told) image script w
    → FindsReplay (Some told) image script certificate text
replays_found frames n told image script certificate text w h = (
  reads_found (Replays frames n (Some told) certificate text) told image script w h,
  λ program events has says.
      let r = reads_both (Replays frames n (Some told) certificate text) told image script program events w has says h in
      ((r.0, r.1), λ list choices. let b = by_choices frames n told certificate text program events list w choices r in (b.0, b.1)),
)
