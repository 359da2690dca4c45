-- Work that goes on from the image and the script that files hold.
use Rattle.std.proofs.Common.{◌≡◌, ℕ, ◌≤◌, List, Option, Some, None, Result, Ok, Err, sym, ap, subst, ◌∙◌, arith}
use Rattle.pv_io.specs.Files.{FileMap, Holds}
use Rattle.board.specs.Scripts.{Events}
use Rattle.board.specs.Texts.{script_of}
use Rattle.board.specs.declared.fault.ScriptCause.{ScriptCause}
use Rattle.image_check.specs.Image.{Image}
use Rattle.image_check.specs.Refusals.{Refusal}
use Rattle.image_check.specs.Checking.{image_of}
use Rattle.image_load.specs.Boot.{need}
use Rattle.pv_build.specs.Lines.{image_line, script_line}
use Rattle.pv_build.specs.Images.{HasImage, HasNoImage}
use Rattle.pv_build.specs.Scripts.{HasScript, HasNoScript, NoImage, NoScript, NoRun, FindsRun}
use Rattle.pv_build.specs.declared.status.Status.{Status}
use Rattle.pv_build.specs.declared.status.Status.TheVariants as status
use Rattle.pv_tasks.specs.Outcome.{Outcome, refused, told, HasEnded}
use Rattle.pv_tasks.specs.Running.{RunsOn, Ran, Small, Reads, Unread, BothRead}
use Rattle.pv_tasks.proofs.SameFiles.{same_file}

-- ---- outcomes

-- the statuses with which a text is printed
abbrev pub IsEnd : Status → Type 0
IsEnd status.Done = Unit {0}
IsEnd status.Stopped = Unit {0}
IsEnd status.Refused = Unit {0}
IsEnd status.Words = ⊥
IsEnd status.ReadFault = ⊥
IsEnd status.WriteFault = ⊥
IsEnd status.Memory = ⊥

pub ended_is_end : (st : Status) → HasEnded st → IsEnd st
ended_is_end status.Done h = tt
ended_is_end status.Stopped h = tt
ended_is_end status.Words h = absurd h
ended_is_end status.Refused h = absurd h
ended_is_end status.ReadFault h = absurd h
ended_is_end status.WriteFault h = absurd h
ended_is_end status.Memory h = absurd h

pub ended_not_refused : (st : Status) → HasEnded st → st ≡ status.Refused → ⊥
ended_not_refused st h is = subst HasEnded is h

-- one text is printed, and nothing is stored
abbrev pub IsTold : Outcome → Type 0
IsTold w = w ≡ told w.status w.text w.hosted

-- a refusal's line is all
abbrev pub IsRefusal : Outcome → Type 0
IsRefusal w = w.status ≡ status.Refused → w ≡ refused w.text

-- a file that is stored has the name at which the command stores
abbrev pub IsSaved : Option (List ℕ) → Option (List ℕ × List ℕ) → Type 0
IsSaved name None = Unit {0}
IsSaved None (Some file) = ⊥
IsSaved (Some name) (Some file) = file.0 ≡ name

pub none_saved : (name : Option (List ℕ)) (stored : Option (List ℕ × List ℕ)) → stored ≡ None → IsSaved name stored
none_saved name stored is = subst (λ (s : Option (List ℕ × List ℕ)). IsSaved name s) (sym is) tt

pub told_saved : (name : Option (List ℕ)) (w : Outcome) → IsTold w → IsSaved name w.stored
told_saved name w is = none_saved name w.stored (ap (λ (v : Outcome). v.stored) is)

pub ended_refusal : (w : Outcome) → HasEnded w.status → IsRefusal w
ended_refusal w h = λ is. absurd (ended_not_refused w.status h is)

-- ---- over the files

-- what a name's file is read as is one thing
read_again : {X E : Type 0} (read : List ℕ → Result X E) (told : FileMap) (name f g : List ℕ) (b : Result X E) → Holds (Some told) name f
    → Holds (Some told) name g → read g ≡ b → read f ≡ b
read_again read told name f g b h k is = ap read (same_file told name f g h k) ∙ is

ok_same : {X E : Type 0} (r : Result X E) (a b : X) → r ≡ Ok a → r ≡ Ok b → b ≡ a
ok_same r a b is be = cc

err_same : {X E : Type 0} (r : Result X E) (a b : E) → r ≡ Err a → r ≡ Err b → b ≡ a
err_same r a b is be = cc

ok_or_err : {X E : Type 0} (r : Result X E) (a : X) (b : E) → r ≡ Ok a → r ≡ Err b → ⊥
ok_or_err r a b is be = cc

image_same : (told : FileMap) (name : List ℕ) (a b : Image) → HasImage (Some told) name a → HasImage (Some told) name b → b ≡ a
image_same told name a b h k = ok_same (image_of h.0) a b h.2 (read_again image_of told name h.0 k.0 (Ok b) h.1 k.1 k.2)

script_same : (told : FileMap) (name : List ℕ) (a b : Events) → HasScript (Some told) name a → HasScript (Some told) name b → b ≡ a
script_same told name a b h k = ok_same (script_of h.0) a b h.2 (read_again script_of told name h.0 k.0 (Ok b) h.1 k.1 k.2)

image_or_none : (told : FileMap) (name : List ℕ) (a : Image) (b : Refusal) → HasImage (Some told) name a → HasNoImage (Some told) name b → ⊥
image_or_none told name a b h k = ok_or_err (image_of h.0) a b h.2 (read_again image_of told name h.0 k.0 (Err b) h.1 k.1 k.2)

script_or_none : (told : FileMap) (name : List ℕ) (a : Events) (b : ℕ × ScriptCause) → HasScript (Some told) name a
    → HasNoScript (Some told) name b → ⊥
script_or_none told name a b h k = ok_or_err (script_of h.0) a b h.2 (read_again script_of told name h.0 k.0 (Err b) h.1 k.1 k.2)

-- there is nothing to run for one reason
none_same : (told : FileMap) (image script a b : List ℕ) → NoRun (Some told) image script a → NoRun (Some told) image script b → b ≡ a
none_same told image script a b (NoImage r h is) (NoImage q k be) =
    be ∙ (ap image_line (err_same (image_of h.0) r q h.2 (read_again image_of told image h.0 k.0 (Err q) h.1 k.1 k.2)) ∙ sym is)
none_same told image script a b (NoImage r h is) (NoScript p at cause has k be) = absurd (image_or_none told image p r has h)
none_same told image script a b (NoScript p at cause has h is) (NoImage r k be) = absurd (image_or_none told image p r has k)
none_same told image script a b (NoScript p at cause has h is) (NoScript q at2 cause2 has2 k be) =
    let one =
    err_same (script_of h.0) (at, cause) (at2, cause2) h.2 (read_again script_of told script h.0 k.0 (Err (at2, cause2)) h.1 k.1 k.2) in
    be ∙ (ap (λ (f : ℕ × ScriptCause). script_line f.0 f.1) one ∙ sym is)

run_or_none : (told : FileMap) (image script line : List ℕ) (program : Image) (events : Events) → NoRun (Some told) image script line
    → HasImage (Some told) image program → HasScript (Some told) script events → ⊥
run_or_none told image script line program events (NoImage r h is) has says = image_or_none told image program r has h
run_or_none told image script line program events (NoScript p at cause also h is) has says =
    script_or_none told script events (at, cause) says h

-- what holds of each refusal and of all that the work goes on to holds of its outcome
pub reads_all : (P : Outcome → Type 0) (goes : Image → Events → Outcome → Type 0) (files : Option FileMap)
    (image script : List ℕ) (w : Outcome)
    → ((line : List ℕ) → P (refused line)) → ((image : Image) (events : Events) (w : Outcome) → goes image events w → P w)
    → Reads goes files image script w → P w
reads_all P goes files image script w of_line of_work (Unread line none is) = subst P (sym is) (of_line line)
reads_all P goes files image script w of_line of_work (BothRead program events has says h) = of_work program events w h

-- what is refused has no other outcome
abbrev pub IsOnce : (Image → Events → Outcome → Type 0) → Type 0
IsOnce goes =
    (image : Image) (events : Events) (w v : Outcome) → w.status ≡ status.Refused → goes image events w → goes image events v → v ≡ w

-- over an image and a script that are held the work goes on
pub reads_both : (goes : Image → Events → Outcome → Type 0) (told : FileMap) (image script : List ℕ) (program : Image)
    (events : Events) (w : Outcome)
    → HasImage (Some told) image program → HasScript (Some told) script events → Reads goes (Some told) image script w
    → goes program events w
reads_both goes told image script program events w has says (Unread line none is) =
    absurd (run_or_none told image script line program events none has says)
reads_both goes told image script program events w has says (BothRead p e held said h) =
    subst (λ (i : Image). goes i events w) (image_same told image program p has held)
    (subst (λ (s : Events). goes p s w) (script_same told script events e says said) h)

pub reads_once : (goes : Image → Events → Outcome → Type 0) (told : FileMap) (image script : List ℕ) (w v : Outcome) → IsOnce goes
    → w.status ≡ status.Refused
    → Reads goes (Some told) image script w → Reads goes (Some told) image script v → v ≡ w
reads_once goes told image script w v once is (Unread line none one) (Unread line2 none2 two) =
    two ∙ (ap refused (none_same told image script line line2 none none2) ∙ sym one)
reads_once goes told image script w v once is (Unread line none one) (BothRead p e has says k) =
    absurd (run_or_none told image script line p e none has says)
reads_once goes told image script w v once is (BothRead p e has says h) k =
    once p e w v is h (reads_both goes told image script p e v has says k)

-- and to where it goes on it comes
pub with_both : (goes : Image → Events → Outcome → Type 0) (files : Option FileMap) (image script : List ℕ) (program : Image)
    (events : Events) (w : Outcome) → HasImage files image program
    → HasScript files script events → goes program events w → Reads goes files image script w
with_both goes files image script program events w has says h = BothRead program events has says h

-- each file that it reaches is held
pub reads_found : (goes : Image → Events → Outcome → Type 0) (told : FileMap) (image script : List ℕ) (w : Outcome)
    → Reads goes (Some told) image script w → FindsRun (Some told) image script
reads_found goes told image script w (Unread line (NoImage r h why) is) =
    ((h.0, h.1), λ program has. absurd (image_or_none told image program r has h))
reads_found goes told image script w (Unread line (NoScript p at cause has none why) is) =
    ((has.0, has.1), λ program held. (none.0, none.1))
reads_found goes told image script w (BothRead p e has says h) = ((has.0, has.1), λ program held. (says.0, says.1))

-- what has ended has read an image and a script
pub record Began (goes : Image → Events → Outcome → Type 0) (files : Option FileMap) (image script : List ℕ) (w : Outcome) : Type 0 where
  pub program : Image
  pub events : Events
  pub accepted : HasImage files image program
  pub read : HasScript files script events
  pub goes_on : goes program events w

-- a line of a refusal isn't the end of a run
line_ends : (w : Outcome) (line : List ℕ) → w ≡ refused line → HasEnded w.status → ⊥
line_ends w line is h = subst (λ (v : Outcome). HasEnded v.status) is h

pub reads_began : (goes : Image → Events → Outcome → Type 0) (files : Option FileMap) (image script : List ℕ) (w : Outcome)
    → Reads goes files image script w → HasEnded w.status
    → Began goes files image script w
reads_began goes files image script w (Unread line none is) ended = absurd (line_ends w line is ended)
reads_began goes files image script w (BothRead p e has says h) ended =
    record { program = p; events = e; accepted = has; read = says; goes_on = h }

-- ---- with so many frames

abbrev pub WithFrames : (Image → Events → Outcome → Type 0) → ℕ → Image → Events → Outcome → Type 0
WithFrames runs frames image events w = RunsOn (runs image events) image frames w

-- such outcomes are ends of runs
abbrev pub AreEnds : (Image → Events → Outcome → Type 0) → Type 0
AreEnds runs = (image : Image) (events : Events) (w : Outcome) → runs image events w → HasEnded w.status

-- what holds of each refusal and of each run holds of their outcomes
pub frames_all : (P : Outcome → Type 0) (runs : Image → Events → Outcome → Type 0) (frames : ℕ) (image : Image)
    (events : Events) (w : Outcome)
    → ((line : List ℕ) → P (refused line)) → ((image : Image) (events : Events) (w : Outcome) → runs image events w → P w)
    → WithFrames runs frames image events w → P w
frames_all P runs frames image events w of_line of_run (Ran fits ran) = of_run image events w ran
frames_all P runs frames image events w of_line of_run (Small lt is) = subst P (sym is) (of_line _)

pub frames_once : (runs : Image → Events → Outcome → Type 0) (frames : ℕ) → AreEnds runs → IsOnce (WithFrames runs frames)
frames_once runs frames are image events w v is (Small lt one) (Small le two) = two ∙ sym one
frames_once runs frames are image events w v is (Small lt one) (Ran fits ran) = absurd (omega (arith, lt, fits))
frames_once runs frames are image events w v is (Ran fits ran) h = absurd (ended_not_refused w.status (are image events w ran) is)

-- an outcome of memory that is large enough is that of a run
pub ran : (runs : Image → Events → Outcome → Type 0) (frames : ℕ) (program : Image) (events : Events) (w : Outcome) → need program ≤ frames
    → WithFrames runs frames program events w → runs program events w
ran runs frames program events w le (Small lt one) = absurd (omega (arith, lt, le))
ran runs frames program events w le (Ran fits h) = h

-- and so is what has ended
pub ended_ran : (runs : Image → Events → Outcome → Type 0) (frames : ℕ) (program : Image) (events : Events) (w : Outcome)
    → HasEnded w.status → WithFrames runs frames program events w
    → (need program ≤ frames) × runs program events w
ended_ran runs frames program events w ended (Ran fits h) = (fits, h)
ended_ran runs frames program events w ended (Small lt is) = absurd (line_ends w _ is ended)

-- such runs print one text
abbrev pub AreTold : (Image → Events → Outcome → Type 0) → Type 0
AreTold runs = (image : Image) (events : Events) (w : Outcome) → runs image events w → IsTold w
