-- From a slice whose notes are kept, and the last line, to a run whose text is judged yes.
use Rattle.std.proofs.Common.{◌≡◌, ℕ, zero, suc, ◌+◌, ◌*◌, ◌≤◌, ◌^◌, Bool, true, false, cond, List, [], ◌∷◌, ◌++◌, length, take, Option, Ok, refl, ap, sym, subst, ◌∙◌, arith}
use Rattle.std.specs.Prelude.{◌==◌, nat_le}
use Rattle.std.proofs.lemmas.Bool.{leb-true, leb-false, eqb-true, eqb-false}
use Rattle.std.specs.List.{All, filter}
use Rattle.board.specs.Scripts.{Events}
use Rattle.image_check.specs.Image.{Image}
use Rattle.image_load.specs.Boot.{need}
use Rattle.pv_io.specs.Sink.{Appends}
use Rattle.pv_io.proofs.Pieces.{appends_both}
use Rattle.run_trace.specs.declared.pause.Pause.{Pause}
use Rattle.run_trace.specs.declared.pause.Pause.TheVariants.{Reached, Stopped}
use Rattle.run_trace.specs.Notes.{Note}
use Rattle.run_trace.specs.Pauses.{end_of, IfReached}
use Rattle.run_trace.specs.Text.{lines_of, end_line, text_of}
use Rattle.machine_model.specs.State.{Setting, State, boot, wedge}
use Rattle.machine_model.specs.Run.{Set, Steps, Run, trace_of, with_set}
use Rattle.machine_model.specs.Notes.{AreTold, AreNotes, set_told, step_in}
use Rattle.wedge_core.specs.Noted.{EndsTold, NotesOn}
use Rattle.wedge_core.specs.Surroundings.{Around}
use Rattle.wedge_core.specs.Counts.{Counts}
use Rattle.wedge_core.specs.Guests.{HasGuest}
use Rattle.wedge_core.specs.Promises.{with_patches}
use Rattle.wedge_core.specs.Slices.{Knowing, PausesAs}
use Rattle.wedge_core.proofs.SlicedBy.{SliceAs}
use Rattle.wedge_core.proofs.WholeRuns.{Standing, text_is, ends_by, count_by, memory_by, has_fills}
use Rattle.trace_check.specs.ChoicesTold.{choices_of}
use Rattle.trace_check.specs.NotesKept.{KeptChoices, AreKept}
use Rattle.trace_check.specs.Judged.{judged}
use Rattle.trace_check.specs.Runs.{StopsTold}
use Rattle.trace_check.specs.RunLaws.{NotesAreJudged, NotesAreChoices}
use Rattle.trace_check.proofs.NotesForm.{first_of, later_of}
use Rattle.trace_check.specs.Noted.{NotedAnswers}

-- ---- how many notes there are

-- those of steps up to k
up_to : ℕ → List Note → ℕ
up_to k [] = 0
up_to k (note ∷ notes) = cond (nat_le (step_in note) k) (suc (up_to k notes)) (up_to k notes)

abbrev of_step : ℕ → List Note → List Note
of_step k notes = filter (λ note. step_in note == k) notes

next : (k : ℕ) (notes : List Note) → up_to (suc k) notes ≡ up_to k notes + length (of_step (suc k) notes)
unfolding up_to
next k [] = refl
next k (note ∷ notes) = by (nat_le (step_in note) (suc k)) (nat_le (step_in note) k) (step_in note == suc k) refl refl refl (next k notes)
  where
    by : (p q r : Bool) → nat_le (step_in note) (suc k) ≡ p → nat_le (step_in note) k ≡ q → (step_in note == suc k) ≡ r
        → up_to (suc k) notes ≡ up_to k notes + length (of_step (suc k) notes)
        → cond p (suc (up_to (suc k) notes)) (up_to (suc k) notes) ≡ cond q (suc (up_to k notes)) (up_to k notes)
        + length (cond r (note ∷ of_step (suc k) notes) (of_step (suc k) notes))
    by true true true p q r h = absurd (omega (arith, leb-true (step_in note) k q, eqb-true (step_in note) (suc k) r))
    by true true false p q r h = omega (arith, h)
    by true false true p q r h = omega (arith, h)
    by true false false p q r h = absurd (let a = leb-true (step_in note) (suc k) p in let b = leb-false (step_in note) k q in
        let c = eqb-false (step_in note) (suc k) r in c (omega (arith, a, b)))
    by false true r p q e h =
        absurd (let a = leb-true (step_in note) k q in let b = leb-false (step_in note) (suc k) p in omega (arith, a, b))
    by false false true p q r h =
        absurd (let a = eqb-true (step_in note) (suc k) r in let b = leb-false (step_in note) (suc k) p in omega (arith, a, b))
    by false false false p q r h = h

none_before : (notes : List Note) → up_to 0 notes ≡ length (of_step 0 notes)
unfolding up_to
none_before [] = refl
none_before (note ∷ notes) = by (nat_le (step_in note) 0) (step_in note == 0) refl refl (none_before notes)
  where
    by : (p r : Bool) → nat_le (step_in note) 0 ≡ p → (step_in note == 0) ≡ r → up_to 0 notes ≡ length (of_step 0 notes)
        → cond p (suc (up_to 0 notes)) (up_to 0 notes) ≡ length (cond r (note ∷ of_step 0 notes) (of_step 0 notes))
    by true true p r h = omega (arith, h)
    by true false p r h = absurd (let a = leb-true (step_in note) 0 p in let b = eqb-false (step_in note) 0 r in b (omega (arith, a)))
    by false true p r h = absurd (let a = eqb-true (step_in note) 0 r in let b = leb-false (step_in note) 0 p in omega (arith, a, b))
    by false false p r h = h

few_up_to : (k : ℕ) (notes : List Note) → ((step : ℕ) → length (of_step step notes) ≤ 2) → up_to k notes ≤ 2 * (k + 1)
few_up_to zero notes few = omega (arith, none_before notes, few 0)
few_up_to (suc k) notes few = omega (arith, next k notes, few (suc k), few_up_to k notes few)

all_up_to : (k : ℕ) (notes : List Note) → All (λ note. step_in note ≤ k) notes → up_to k notes ≡ length notes
unfolding up_to
all_up_to k [] all = refl
all_up_to k (note ∷ notes) all = by (nat_le (step_in note) k) refl (all_up_to k notes (later_of (λ x. step_in x ≤ k) note notes all))
  where
    by : (p : Bool) → nat_le (step_in note) k ≡ p → up_to k notes ≡ length notes
        → cond p (suc (up_to k notes)) (up_to k notes) ≡ suc (length notes)
    by true p h = omega (arith, h)
    by false p h = absurd (let a : step_in note ≤ k = first_of (λ x. step_in x ≤ k) note notes all in
        let b = leb-false (step_in note) k p in omega (arith, a, b))

-- ---- the run

stops_told : (m : Setting) (last new : State) (notes : List Note) (pause : Pause) → EndsTold m last new notes (Ok pause)
    → StopsTold m last notes (end_of pause)
stops_told m last new notes Reached h = tt
stops_told m last new notes (Stopped stop) h = h

-- a guest stands there that keeps what the notes leave
left_by : (m : Setting) (n : ℕ) (last new : State) (end : Set) (notes : List Note) (pause : Pause) (filled : ℕ) (memory : List ℕ)
    → PausesAs m n last new end (Ok pause) → EndsTold m last new notes (Ok pause)
    → IfReached (Ok pause) (Standing m new filled memory) → HasGuest m last (end_of pause) (set_told notes last.step last.set) filled memory
left_by m n last new end notes Reached filled memory h e s =
    (s.0, s.1, s.2, s.3 ∙ h.1 ∙ ap (λ (set : Set). with_set last set) (sym (ap (λ (b : State). b.set) h.1) ∙ e), s.4)
left_by m n last new end notes (Stopped stop) filled memory h e s = tt

within : (m : Setting) (n : ℕ) (last new : State) (end : Set) (pause : Pause) → PausesAs m n last new end (Ok pause) → last.step ≤ n
within m n last new end Reached h = let at = h.0 in omega (arith, at)
within m n last new end (Stopped stop) h = let lt = h.0 in omega (arith, lt)

-- The slice from the start that keeps its notes.
abbrev Sliced : Image → Events → ℕ → ℕ → State → State → Counts → Counts → Option (List ℕ) → Option (List ℕ) → ℕ → ℕ → ℕ → KeptChoices
    → KeptChoices → Knowing → Pause → Type 0
Sliced image script frames n old new before after told tells pages fills filled kept kept_after knows pause =
    SliceAs (wedge image script frames) n old new before after told tells pages fills filled true
    (NotesOn true (AreKept kept) (AreKept kept_after)) knows (Ok pause)

-- what is around a run, by each of its parts
abbrev pub around_of : Option (List ℕ) → Option (List ℕ) → ℕ → ℕ → Counts → Counts → Around
around_of old new before now counts counts_after =
    record { taken = old; taken_after = new; faults = before; faults_after = now; counts = counts; counts_after = counts_after }

-- all lines and the last one were put
pub noted_put : (image : Image) (script : Events) (frames n : ℕ) (old new : State) (counts counts_after : Counts) (a b c : Option (List ℕ))
    (pages fills filled : ℕ) (kept kept_after : KeptChoices) (knows : Knowing) (pause : Pause) (before mid now : ℕ) (memory : List ℕ)
    → NotesAreJudged → NotesAreChoices → n ≤ 2 ^ 40 → AreKept kept []
    → need image ≤ frames → old ≡ boot (wedge image script frames) → pages ≡ 0 → fills ≡ 0 → filled ≤ 128 * new.step
    → IfReached (Ok pause) (take (4096 * frames) memory ≡ with_patches image new.ram)
    → IfReached (Ok pause) (Standing (wedge image script frames) new filled memory)
    → Sliced image script frames n old new counts counts_after a b pages fills filled kept kept_after knows pause
    → Appends b c (end_line new.step (end_of pause)) → mid ≡ before → now ≡ mid
    → NotedAnswers image script frames n kept_after (around_of a c before now counts counts_after) memory
    (Ok (record { steps = new.step; end = end_of pause; fills = filled }))
noted_put image script frames n old new counts counts_after a b c pages fills filled kept kept_after knows pause before mid now memory
    judges forms bound untold fits is first none few has stands h put kept_so more =
    let m = wedge image script frames in
    let end = end_of pause in
    let noted = h.told_notes refl in
    let run : Run m n (boot m) h.sets h.reports h.last end =
    record {
      steps = subst (λ (s : State). Steps m s h.sets h.reports h.last) is h.steps;
      ends = ends_by m n h.last new h.end pause h.ends;
    } in
    let told : AreTold m (boot m) h.sets h.notes = subst (λ (s : State). AreTold m s h.sets h.notes) is noted.told in
    let are : AreNotes m (boot m) h.sets h.last.step h.notes =
    subst (λ (s : State). AreNotes m s h.sets h.last.step h.notes) is noted.are in
    let stops = stops_told m h.last new h.notes pause noted.ends in
    let same : new.step ≡ h.last.step = count_by m n h.last new h.end pause h.ends in
    let text = lines_of (trace_of h.reports) ++ end_line new.step end in
    let short : h.last.step ≤ n = within m n h.last new h.end pause h.ends in
    let so_many : up_to h.last.step h.notes ≡ length h.notes = all_up_to h.last.step h.notes are.until in
    let at_most : up_to h.last.step h.notes ≤ 2 * (h.last.step + 1) = few_up_to h.last.step h.notes noted.two in (
      text,
      record {
        sets = h.sets;
        reports = h.reports;
        last = h.last;
        run = run;
        count_is = same;
        text_is = text_is h.reports new.step end;
        counts = h.counts;
        memory_is = memory_by m n h.last new h.end pause memory has h.ends;
        notes = h.notes;
        tells = record { are_kept = h.tells_notes refl [] untold; told = told; are = are; stops = stops; behind = noted.held };
        left = left_by m n h.last new h.end h.notes pause filled memory h.ends noted.ends stands;
        proved = record {
          is_judged = ap (judged image script frames n (choices_of h.notes))
              (text_is h.reports new.step end ∙ ap (λ (k : ℕ). text_of (trace_of h.reports) k end) same)
              ∙ judges image script frames n h.sets h.reports h.last end h.notes bound run told stops;
          form = λ few. forms m (boot m) h.sets h.last.step h.notes (omega (arith, short, bound)) few are;
          few = λ lt. omega (arith, so_many, at_most, short, lt);
        };
      },
      fits,
      has_fills m n old new counts counts_after a b pages fills filled true (NotesOn true (AreKept kept) (AreKept kept_after)) knows
          pause first none few h,
      appends_both a b c _ _ h.text put,
      more ∙ kept_so,
    )
