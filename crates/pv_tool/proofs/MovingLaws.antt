-- A kernel that moves has one run.
use Rattle.std.proofs.Common.{◌≡◌, ℕ, ◌*◌, List, [], ◌∷◌, ◌++◌, length, Option, Some, None, Result, Ok, Err, refl, sym, ap, subst, ◌∙◌, append_assoc, arith, inl, inr}
use Rattle.std.specs.List.{flat_map}
use Rattle.std.specs.FinMap.{empty}
use Rattle.std.proofs.lemmas.List.{append-nil}
use Rattle.board.specs.Scripts.{Events}
use Rattle.image_check.specs.Image.{Image}
use Rattle.run_trace.specs.declared.items.End.{End}
use Rattle.run_trace.specs.declared.items.End.TheVariants.{Bound, Stopped as StoppedAt}
use Rattle.run_trace.specs.Text.{lines_of, text_of}
use Rattle.machine_model.specs.State as model
use Rattle.machine_model.specs.State.{Setting, boot}
use Rattle.machine_model.specs.Step.{Report, Went, step_of}
use Rattle.machine_model.specs.Run.{Set, Steps, Run, trace_of, with_set}
use Rattle.machine_model.specs.OnBare.{bound_on_bare, end_on_bare}
use Rattle.machine_model.proofs.Texts.{reported, text_behind}
use Rattle.bare_machine.specs.Settings.{bare}
use Rattle.checkpoint.specs.declared.state.State.{State}
use Rattle.checkpoint.specs.declared.state.CheckpointCause.{CheckpointCause}
use Rattle.checkpoint.specs.States.{checkpoint_bytes, checkpoint_in}
use Rattle.checkpoint.specs.Moved.{kept_of, rested_from}
use Rattle.checkpoint.specs.Fits.{fits_of}
use Rattle.checkpoint.specs.Legs.{Leg, Legs, Parts, in_mode, rested, sets_of, reports_of, LegsAreARun, LegsAreParts}
use Rattle.pv_save.specs.Checkpoints.{HasState}
use Rattle.pv_build.specs.declared.status.Status.{Status}
use Rattle.pv_build.specs.declared.status.Status.TheVariants as status
use Rattle.pv_build.specs.Statuses.{status_of}
use Rattle.pv_tasks.specs.Outcome.{Outcome, refused, HasEnded}
use Rattle.pv_save.specs.Saving.{SavesRun, Rested, Stopped, SavesBoot, SavesOn, WhereFits, OnState, FromFile, setting_on, frames_of, is_wedge}
use Rattle.pv_save.specs.Continuing.{ContinuesOn}
use Rattle.pv_tool.specs.Moving.{Move, Leaves, IsFirst, IsNext, AreNext, IsLast, rules_of, IsPart, AreParts, AreOneRun, MovesAreOneRun}
use Rattle.pv_words.specs.declared.mode.RunMode.{RunMode}
use Rattle.pv_words.specs.declared.mode.RunMode.TheVariants as mode
use Rattle.pv_tasks.proofs.SameFiles.{same_file}
use Rattle.pv_tasks.proofs.Works.{WithFrames, reads_both, ended_ran}
use Rattle.pv_save.proofs.RestDone.{stopped_so}

-- the rules of a machine over the same image, events and frames
by_rules : (on : RunMode) (program : Image) (events : Events) (frames : ℕ)
    → in_mode (bare program events frames) (rules_of on program events frames) ≡ setting_on on program events frames
by_rules mode.Bare program events frames = refl
by_rules mode.Wedge program events frames = refl

-- The leg of a command that saves: its part, but from a state without translations, and to the one that its file has.
record LegOf (program : Image) (events : Events) (frames : ℕ) (move : Move) (old : model.State)
    (s : State) : Type 0 where
  leg : Leg
  new : model.State
  part : IsPart program events frames move old leg new
  state_is : s ≡ kept_of new
  size : length new.ram ≡ 4096 * frames

-- two states whose files are one, each of which is read back
same_state : (a b : State) → checkpoint_bytes a ≡ checkpoint_bytes b → checkpoint_in (checkpoint_bytes a) ≡ Ok a
    → checkpoint_in (checkpoint_bytes b) ≡ Ok b → b ≡ a
same_state a b same read_a read_b =
    let e : checkpoint_in (checkpoint_bytes a) ≡ checkpoint_in (checkpoint_bytes b) = ap checkpoint_in same in
    cc

abbrev bytes_in : Option (List ℕ × List ℕ) → List ℕ
bytes_in None = []
bytes_in (Some file) = file.1

frames_on : (on : RunMode) (program : Image) (events : Events) (frames : ℕ) → (setting_on on program events frames).frames ≡ frames
frames_on mode.Bare program events frames = refl
frames_on mode.Wedge program events frames = refl

-- a command that has saved a state is a leg
leg_of : (program : Image) (events : Events) (frames : ℕ) (old : model.State) (move : Move) (s : State)
    → SavesRun move.on (setting_on move.on program events frames) move.n old move.new move.work → Leaves move s
    → LegOf program events frames move old s
leg_of program events frames old move s (Rested h) leaves =
    let same : checkpoint_bytes (kept_of h.last) ≡ checkpoint_bytes s =
    ap bytes_in (sym (ap (λ (v : Outcome). v.stored) h.comes) ∙ leaves.stored) in
    let is_on = sym (by_rules move.on program events frames) in
    let steps = subst (λ (x : Setting). Steps x old h.sets h.reports h.last) is_on h.run.steps in
    let lines = ap (λ (v : Outcome). v.first) h.comes in
    record {
      leg = record { mode = rules_of move.on program events frames; sets = h.sets; reports = h.reports };
      new = h.last;
      part = record { rules = refl; steps = steps; lines = lines; ends_at = h.run.ends; file = ap (λ (v : Outcome). v.stored) h.comes };
      state_is = same_state (kept_of h.last) s same h.back leaves.read;
      size = h.size ∙ ap (λ (f : ℕ). 4096 * f) (frames_on move.on program events frames);
    }
leg_of program events frames old move s (Stopped h) leaves =
    absurd (stopped_so move.work.status (ap (λ (v : Outcome). v.status) h.comes) leaves.done)

done_ended : (st : Status) → st ≡ status.Done → HasEnded st
done_ended st is = subst HasEnded (sym is) tt

-- what has ended was not refused
refused_not : (line : List ℕ) (w : Outcome) → w ≡ refused line → HasEnded w.status → ⊥
refused_not line w is ended = subst (λ (v : Outcome). HasEnded v.status) is ended

where_ended : (goes : State → Outcome → Type 0) (s : State) (r : Result Unit (ℕ × CheckpointCause)) (w : Outcome) → WhereFits goes s r w
    → HasEnded w.status → goes s w
where_ended goes s (Ok fit) w h ended = h
where_ended goes s (Err (at, cause)) w h ended = absurd (refused_not _ w h ended)

-- work that has ended went on from the state that the name holds
from_ended : (goes : Image → Events → State → Outcome → Type 0) (program : Image) (events : Events) (s : State) (move : Move)
    → HasState (Some move.told) move.file s → FromFile goes move.on move.n (Some move.told) move.file program events move.work
    → HasEnded move.work.status → goes program events s move.work
from_ended goes program events s move has h ended =
    let same = same_file move.told move.file h.0 has.0 h.1 has.1 in
    let of_file = subst (λ (f : List ℕ). OnState (goes program events) move.on move.n program (checkpoint_in f) move.work) same h.2 in
    let of_state = subst (λ (r : Result State ℕ). OnState (goes program events) move.on move.n program r move.work) has.2 of_file in
    where_ended (goes program events) s (fits_of s program (is_wedge move.on) move.n) move.work of_state ended

boot_on : (on : RunMode) (program : Image) (events : Events) (frames : ℕ) → boot (setting_on on program events frames) ≡ boot
    (bare program events frames)
boot_on mode.Bare program events frames = refl
boot_on mode.Wedge program events frames = refl

first_leg : (program : Image) (events : Events) (frames : ℕ) (move : Move) (s : State) → IsFirst program events frames move s
    → LegOf program events frames move (boot (bare program events frames)) s
first_leg program events frames move s h =
    let ended = done_ended move.work.status h.leaves.done in
    let both = reads_both (WithFrames (SavesBoot move.on frames move.n move.new) frames) move.told move.image move.script program events
    move.work h.over.image_held h.over.script_held h.gives in
    let ran = ended_ran (SavesBoot move.on frames move.n move.new) frames program events move.work ended both in
    subst (λ (b : model.State). LegOf program events frames move b s) (boot_on move.on program events frames)
    (leg_of program events frames (boot (setting_on move.on program events frames)) move s ran.1 h.leaves)

-- what goes on from the checkpoint of a state goes on from it, with its frames
frames_are : (frames : ℕ) (mid : model.State) (s : State) → s ≡ kept_of mid → length mid.ram ≡ 4096 * frames → frames_of s ≡ frames
frames_are frames mid s is size =
    let long : length s.ram ≡ 4096 * frames = ap (λ (x : State). length x.ram) is ∙ size in
    omega (arith, long)

next_leg : (program : Image) (events : Events) (frames : ℕ) (mid : model.State) (s : State) (move : Move) (t : State) → s ≡ kept_of mid
    → length mid.ram ≡ 4096 * frames → IsNext program events s move t
    → LegOf program events frames move (rested mid) t
next_leg program events frames mid s move t is size h =
    let ended = done_ended move.work.status h.leaves.done in
    let from = reads_both (FromFile (SavesOn move.on move.n move.new) move.on move.n (Some move.told) move.file) move.told move.image
    move.script program events move.work h.over.image_held h.over.script_held h.gives in
    let goes = from_ended (SavesOn move.on move.n move.new) program events s move h.state_held from ended in
    let framed = subst (λ (f : ℕ). SavesRun move.on (setting_on move.on program events f) move.n (rested_from s) move.new move.work)
    (frames_are frames mid s is size) goes in
    leg_of program events frames (rested mid) move t
    (subst (λ (x : State). SavesRun move.on (setting_on move.on program events frames) move.n (rested_from x) move.new move.work) is framed)
    h.leaves

-- ---- the last command

-- A run goes on from the state to an end, its text is printed, and the status is that of its end.
record EndsRun (on : RunMode) (n : ℕ) (program : Image) (events : Events) (s : State) (w : Outcome) : Type 0 where
  sets : List Set
  reports : List Report
  last : model.State
  end : End
  run : Run (setting_on on program events (frames_of s)) n (rested_from s) sets reports last end
  text : w.text ≡ text_of (trace_of reports) last.step end
  status_is : w.status ≡ status_of end

continued_run : (on : RunMode) (n : ℕ) (program : Image) (events : Events) (s : State) (w : Outcome) → ContinuesOn on n program events s w
    → EndsRun on n program events s w
continued_run on n program events s w h = record {
  sets = h.sets;
  reports = h.reports;
  last = h.last;
  end = h.end;
  run = h.run;
  text = ap (λ (v : Outcome). v.text) h.comes;
  status_is = ap (λ (v : Outcome). v.status) h.comes;
}

-- a run that was to be saved, and wasn't
stopped_run : (on : RunMode) (n : ℕ) (name : List ℕ) (program : Image) (events : Events) (s : State) (w : Outcome)
    → w.status ≡ status.Stopped → SavesOn on n name program events s w → EndsRun on n program events s w
stopped_run on n name program events s w stopped (Rested h) = absurd (stopped_so w.status stopped (ap (λ (v : Outcome). v.status) h.comes))
stopped_run on n name program events s w stopped (Stopped h) = record {
  sets = h.sets;
  reports = h.reports;
  last = h.last;
  end = StoppedAt h.stop;
  run = h.run;
  text = ap (λ (v : Outcome). v.text) h.comes;
  status_is = ap (λ (v : Outcome). v.status) h.comes;
}

stop_ended : (st : Status) → st ≡ status.Stopped → HasEnded st
stop_ended st is = subst HasEnded (sym is) tt

last_run : (program : Image) (events : Events) (s : State) (move : Move) → IsLast program events s move
    → EndsRun move.on move.n program events s move.work
last_run program events s move last = elim last.ends [
  | inl h ↦
      let from = reads_both (FromFile (ContinuesOn move.on move.n) move.on move.n (Some move.told) move.file) move.told move.image
      move.script program events move.work last.over.image_held last.over.script_held h.gives in
      continued_run move.on move.n program events s move.work
      (from_ended (ContinuesOn move.on move.n) program events s move last.state_held from h.ended)
  | inr h ↦
      let from = reads_both (FromFile (SavesOn move.on move.n move.new) move.on move.n (Some move.told) move.file) move.told move.image
      move.script program events move.work last.over.image_held last.over.script_held h.gives in
      stopped_run move.on move.n move.new program events s move.work h.stopped
      (from_ended (SavesOn move.on move.n move.new) program events s move last.state_held from (stop_ended move.work.status h.stopped))
]

-- ---- legs, one after the other

-- a leg for each command, each from where the one before ended, but without its translations
abbrev LegsOf : Image → Events → ℕ → List Move → model.State → List Leg → model.State → Type 0
LegsOf program events frames [] old [] new = new ≡ old
LegsOf program events frames (move ∷ moves) old (leg ∷ legs) new =
    (mid : model.State) × IsPart program events frames move (rested old) leg mid
    × LegsOf program events frames moves mid legs new
LegsOf program events frames _ old _ new = ⊥

legs_more : (program : Image) (events : Events) (frames : ℕ) (moves : List Move) (move : Move)
    (old mid new : model.State) (legs : List Leg) (leg : Leg)
    → LegsOf program events frames moves old legs mid → IsPart program events frames move (rested mid) leg new
    → LegsOf program events frames (moves ++ move ∷ []) old (legs ++ leg ∷ []) new
legs_more program events frames [] move old mid new [] leg h part =
    (new, subst (λ (b : model.State). IsPart program events frames move (rested b) leg new) h part, refl)
legs_more program events frames (first ∷ moves) move old mid new (l ∷ legs) leg h part =
    (h.0, h.1, legs_more program events frames moves move h.0 mid new legs leg h.2 part)
legs_more program events frames [] move old mid new (l ∷ legs) leg h part = absurd h
legs_more program events frames (first ∷ moves) move old mid new [] leg h part = absurd h

-- they are legs
as_legs : (program : Image) (events : Events) (frames : ℕ) (moves : List Move) (old new : model.State) (legs : List Leg)
    → LegsOf program events frames moves old legs new → Legs (bare program events frames) old legs new
unfolding Legs
as_legs program events frames [] old new [] h = h
as_legs program events frames (move ∷ moves) old new (leg ∷ legs) h =
    (h.0, h.1.steps, as_legs program events frames moves h.0 new legs h.2)
as_legs program events frames [] old new (leg ∷ legs) h = absurd h
as_legs program events frames (move ∷ moves) old new [] h = absurd h

-- steps from one state, by the same sets, lead to one state
same_end : (m : Setting) (old mid now : model.State) (sets : List Set) (reports others : List Report)
    → Steps m old sets reports mid → Steps m old sets others now → now ≡ mid
unfolding Steps
same_end m old mid now [] reports others h k = k.1 ∙ sym h.1
same_end m old mid now (set ∷ sets) reports others h k =
    let both : Went h.1 h.0 ≡ Went k.1 k.0 = sym h.4 ∙ k.4 in
    let same : k.0 ≡ h.0 = cc in
    same_end m h.0 mid now sets h.2 k.2 h.5 (subst (λ (b : model.State). Steps m b sets k.2 now) same k.5)

same_step : (m : Setting) (b : model.State) (old new set : Set) → step_of m (with_set b new) set ≡ step_of m (with_set b old) set
unfolding step_of
same_step m b old new set = refl

-- and so they do, but for its translations, from the same state with others
same_kept : (m : Setting) (old : model.State) (whole : Set) (mid now : model.State) (sets : List Set) (reports others : List Report)
    → Steps m (rested old) sets reports mid → Steps m (with_set old whole) sets others now → kept_of now ≡ kept_of mid
unfolding Steps
same_kept m old whole mid now [] reports others h k = ap kept_of k.1 ∙ sym (ap kept_of h.1)
same_kept m old whole mid now (set ∷ sets) reports others h k =
    let both : Went h.1 h.0 ≡ Went k.1 k.0 = sym h.4 ∙ (same_step m old whole empty set ∙ k.4) in
    let same : k.0 ≡ h.0 = cc in
    ap kept_of (same_end m h.0 mid now sets h.2 k.2 h.5 (subst (λ (b : model.State). Steps m b sets k.2 now) same k.5))

-- a state is another with its own translations, where they are the same but for these
with_own : (a b : model.State) → kept_of a ≡ kept_of b → a ≡ with_set b a.set
with_own a b same = ap (λ (k : State). with_set (rested_from k) a.set) same

as_far : (m : Setting) (old before mid now : model.State) (sets : List Set) (reports : List Report)
    → kept_of before ≡ kept_of old → Steps m (rested old) sets reports mid → Steps m before sets reports now
    → kept_of now ≡ kept_of mid
as_far m old before mid now sets reports same one other =
    same_kept m old before.set mid now sets reports reports one
    (subst (λ (b : model.State). Steps m b sets reports now) (with_own before old same) other)

-- the parts of one run, after which one leg more is a part
record PartsAnd (program : Image) (events : Events) (frames : ℕ) (moves : List Move) (old : model.State)
    (legs : List Leg) (leg : Leg) (new : model.State) : Type 0 where
  mid : model.State
  saved : AreParts program events frames moves old legs mid
  steps : Steps (in_mode (bare program events frames) leg.mode) mid leg.sets leg.reports new

parts_of : (program : Image) (events : Events) (frames : ℕ) (moves : List Move) (old mid before new : model.State)
    (legs : List Leg) (leg : Leg) → LegsOf program events frames moves old legs mid → kept_of before ≡ kept_of old
    → Parts (bare program events frames) before (legs ++ leg ∷ []) new
    → PartsAnd program events frames moves before legs leg new
unfolding Parts
parts_of program events frames [] old mid before new [] leg h same parts = record {
  mid = before;
  saved = refl;
  steps =
      let m = in_mode (bare program events frames) leg.mode in
      subst (λ (b : model.State). Steps m before leg.sets leg.reports b) (sym parts.2) parts.1;
}
parts_of program events frames (move ∷ moves) old mid before new (l ∷ legs) leg h same parts =
    let m = in_mode (bare program events frames) l.mode in
    let far = as_far m old before h.0 parts.0 l.sets l.reports same h.1.steps parts.1 in
    let part : IsPart program events frames move before l parts.0 =
    record {
      rules = h.1.rules;
      steps = parts.1;
      lines = h.1.lines;
      ends_at = ap (λ (s : State). s.step) far ∙ h.1.ends_at;
      file = h.1.file ∙ ap (λ (s : State). Some (move.new, checkpoint_bytes s)) (sym far);
    } in
    let more = parts_of program events frames moves h.0 mid parts.0 new legs leg h.2 far parts.2 in
    record { mid = more.mid; saved = (parts.0, part, more.saved); steps = more.steps }
parts_of program events frames [] old mid before new (l ∷ legs) leg h same parts = absurd h
parts_of program events frames (move ∷ moves) old mid before new [] leg h same parts = absurd h

reports_more : (legs : List Leg) (leg : Leg) → reports_of (legs ++ leg ∷ []) ≡ reports_of legs ++ leg.reports
reports_more [] leg = append-nil leg.reports
reports_more (l ∷ legs) leg =
    ap (λ (r : List Report). l.reports ++ r) (reports_more legs leg) ∙ sym (append_assoc l.reports (reports_of legs) leg.reports)

-- the legs of some commands, what was printed by them, and the state that was saved last
record SoFar (program : Image) (events : Events) (frames : ℕ) (moves : List Move) (lines : List ℕ) (s : State) : Type 0 where
  legs : List Leg
  mid : model.State
  are : LegsOf program events frames moves (boot (bare program events frames)) legs mid
  lines_are : lines ≡ lines_of (trace_of (reports_of legs))
  state_is : s ≡ kept_of mid
  size : length mid.ram ≡ 4096 * frames

one_more : (program : Image) (events : Events) (frames : ℕ) (moves : List Move) (lines : List ℕ) (s : State)
    (move : Move) (t : State) → (h : SoFar program events frames moves lines s)
    → LegOf program events frames move (rested h.mid) t
    → SoFar program events frames (moves ++ move ∷ []) (lines ++ move.work.first) t
one_more program events frames moves lines s move t h leg =
    let b = boot (bare program events frames) in
    let more = ap (λ (r : List Report). lines_of (trace_of r)) (sym (reports_more h.legs leg.leg)) in
    record {
      legs = h.legs ++ leg.leg ∷ [];
      mid = leg.new;
      are = legs_more program events frames moves move b h.mid leg.new h.legs leg.leg h.are leg.part;
      lines_are =
          ap (λ (x : List ℕ). x ++ move.work.first) h.lines_are
          ∙ (ap (λ (x : List ℕ). lines_of (trace_of (reports_of h.legs)) ++ x) leg.part.lines
          ∙ (sym (reported (reports_of h.legs) leg.leg.reports) ∙ more));
      state_is = leg.state_is;
      size = leg.size;
    }

at_first : (program : Image) (events : Events) (frames : ℕ) (move : Move) (s : State)
    → IsFirst program events frames move s → SoFar program events frames (move ∷ []) move.work.first s
at_first program events frames move s h =
    let leg = first_leg program events frames move s h in
    record {
      legs = leg.leg ∷ [];
      mid = leg.new;
      are = (leg.new, leg.part, refl);
      lines_are =
          leg.part.lines ∙ ap (λ (r : List Report). lines_of (trace_of r)) (sym (append-nil leg.leg.reports));
      state_is = leg.state_is;
      size = leg.size;
    }

abbrev firsts : List Move → List ℕ
firsts moves = flat_map (λ (m : Move). m.work.first) moves

so_far : (program : Image) (events : Events) (frames : ℕ) (done moves : List Move) (lines : List ℕ) (s t : State)
    → SoFar program events frames done lines s → AreNext program events s moves t
    → SoFar program events frames (done ++ moves) (lines ++ firsts moves) t
so_far program events frames done [] lines s t h next =
    subst (λ (x : State). SoFar program events frames (done ++ []) (lines ++ []) x) (sym next)
    (subst (λ (l : List ℕ). SoFar program events frames (done ++ []) l s) (sym (append-nil lines))
    (subst (λ (d : List Move). SoFar program events frames d lines s) (sym (append-nil done)) h))
so_far program events frames done (move ∷ moves) lines s t h next =
    let leg = next_leg program events frames h.mid s move next.0 h.state_is h.size next.1 in
    let more = one_more program events frames done lines s move next.0 h leg in
    let all = so_far program events frames (done ++ move ∷ []) moves (lines ++ move.work.first) next.0 t more next.2 in
    subst (λ (l : List ℕ). SoFar program events frames (done ++ move ∷ moves) l t) (append_assoc lines move.work.first (firsts moves))
    (subst (λ (d : List Move). SoFar program events frames d (lines ++ move.work.first ++ firsts moves) t)
    (append_assoc done (move ∷ []) moves) all)

-- a bound of the bare machine doesn't depend on translations
same_bound : (n : ℕ) (last : model.State) (set : Set) (end : End)
    → bound_on_bare n last end ≡ bound_on_bare n (with_set last set) end
same_bound n last set Bound = refl
same_bound n last set (StoppedAt stop) = refl

at_last : LegsAreARun → LegsAreParts → (program : Image) (events : Events) (frames : ℕ) (moves : List Move) (lines : List ℕ) (t : State)
    (move : Move) → SoFar program events frames moves lines t
    → IsLast program events t move → AreOneRun program events frames moves move (lines ++ move.work.text)
at_last law parts program events frames moves lines t move h last =
    let m = bare program events frames in
    let goes = last_run program events t move last in
    let at_frames =
    subst (λ (f : ℕ). Run (setting_on move.on program events f) move.n (rested_from t) goes.sets goes.reports goes.last goes.end)
    (frames_are frames h.mid t h.state_is h.size) goes.run in
    let at_mid =
    subst (λ (x : State). Run (setting_on move.on program events frames) move.n (rested_from x) goes.sets goes.reports goes.last goes.end)
    h.state_is at_frames in
    let l : Leg = record { mode = rules_of move.on program events frames; sets = goes.sets; reports = goes.reports } in
    let run = subst (λ (x : Setting). Run x move.n (rested h.mid) goes.sets goes.reports goes.last goes.end)
    (sym (by_rules move.on program events frames)) at_mid in
    let before = as_legs program events frames moves (boot m) h.mid h.legs h.are in
    let whole = law m move.n h.legs l h.mid goes.last goes.end before run in
    let pieces = parts m move.n h.legs l h.mid goes.last goes.end before run in
    let last_one = with_set goes.last pieces.0 in
    let each = parts_of program events frames moves (boot m) h.mid (boot m) last_one h.legs l h.are refl pieces.1 in
    let sets = sets_of h.legs ++ goes.sets in
    let reports = reports_of h.legs ++ goes.reports in
    record {
      parts = h.legs;
      part = l;
      mid = each.mid;
      last = last_one;
      whole = whole.0;
      end = goes.end;
      saved = each.saved;
      ended = record {
        rules = refl;
        run = record { steps = each.steps; ends = pieces.2 };
        text = goes.text;
        status_is = goes.status_is;
      };
      bare_run =
          subst (λ (n : ℕ). Run m n (boot m) sets reports (with_set goes.last whole.0) (end_on_bare goes.end))
          (same_bound move.n goes.last pieces.0 goes.end) whole.1;
      text =
          ap (λ (x : List ℕ). x ++ move.work.text) h.lines_are
          ∙ (ap (λ (x : List ℕ). lines_of (trace_of (reports_of h.legs)) ++ x) goes.text
          ∙ sym (text_behind (reports_of h.legs) goes.reports goes.last.step goes.end));
    }

pub moves_are_one_run : LegsAreARun → LegsAreParts → MovesAreOneRun
moves_are_one_run law parts program events frames first moves last s t one next end =
    at_last law parts program events frames (first ∷ moves) (first.work.first ++ firsts moves) t last
    (so_far program events frames (first ∷ []) moves first.work.first s t (at_first program events frames first s one) next) end
