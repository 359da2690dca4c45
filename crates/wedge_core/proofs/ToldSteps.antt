-- Steps that use what the ones before left, but for what notes report.
use Rattle.std.proofs.Common.{◌≡◌, ℕ, ◌+◌, ◌≤◌, ◌<◌, List, [], ◌∷◌, ◌++◌, length, refl, sym, subst, ◌∙◌, arith}
use Rattle.std.specs.List.{All}
use Rattle.run_trace.specs.Notes.{Note}
use Rattle.machine_model.specs.State.{Setting, State}
use Rattle.machine_model.proofs.Splits.{heads, tails, none_some}
use Rattle.machine_model.specs.Step.{Report, Result, Went, Halts, step_of}
use Rattle.machine_model.specs.Run.{Set, Steps, with_set}
use Rattle.machine_model.specs.Taken.{Taken, behind, steps_by}
use Rattle.machine_model.specs.Notes.{AreTold, set_told}
use Rattle.machine_model.specs.Untold.{AreLeft}
use Rattle.wedge_core.specs.Noted.{emptied_if}
use Rattle.wedge_core.proofs.EmptiedNotes.{IsUpTo, told_none, told_before}
use Rattle.machine_model.proofs.Runs.{went_there}
use Rattle.machine_model.proofs.Counted.{counted_by, same_step}

-- before each step the translations are those that the one before left, but for what the notes report
pub ToldBy : Setting → State → List Set → List Note → Type 0
ToldBy m b [] notes = Unit {0}
ToldBy m b (set ∷ sets) notes =
    (set ≡ set_told notes b.step b.set) × ((now : Report) (mid : State) → step_of m b set ≡ Went now mid → ToldBy m mid sets notes)

pub told_nothing : (m : Setting) (b : State) (notes : List Note) → ToldBy m b [] notes
unfolding ToldBy
told_nothing m b notes = tt

-- one step
pub told_one : (m : Setting) (b : State) (set : Set) (notes : List Note) → set ≡ set_told notes b.step b.set → ToldBy m b (set ∷ []) notes
unfolding ToldBy
told_one m b set notes is = (is, λ now mid e. tt)

-- some steps and those after them
pub told_join : (m : Setting) (old mid : State) (sets more : List Set) (reports : List Report) (notes : List Note)
    → Steps m old sets reports mid
    → ToldBy m old sets notes → ToldBy m mid more notes → ToldBy m old (sets ++ more) notes
unfolding ToldBy Steps
told_join m old mid [] more reports notes s first rest = subst (λ (b : State). ToldBy m b more notes) s.1 rest
told_join m old mid (set ∷ sets) more reports notes s first rest = (
  first.0,
  λ now then is.
      let there : s.0 ≡ then = went_there s.1 now s.0 then (sym s.4 ∙ is) in
      told_join m then mid sets more s.2 notes (subst (λ (b : State). Steps m b sets s.2 mid) there s.5) (first.1 now then is) rest,
)

-- what is reported of the next step changes nothing for those before
pub told_on : (b : _) (m : Setting) (old : State) (sets : List Set) (notes : List Note) (n : ℕ) → old.step + length sets ≤ n
    → All (IsUpTo n) notes → ToldBy m old sets notes → ToldBy m old sets (notes ++ emptied_if b n)
unfolding ToldBy
told_on b m old [] notes n le up h = tt
told_on b m old (set ∷ sets) notes n le up h = (
  h.0 ∙ sym (told_before b n old.step old.set notes (omega (arith, le)) up),
  λ now mid is. let one = counted_by m old mid set now is in told_on b m mid sets notes n (omega (arith, le, one)) up (h.1 now mid is),
)

-- steps of which nothing is reported
left_told : (m : Setting) (b : State) (sets : List Set) (notes : List Note) (n : ℕ) → n < b.step → All (IsUpTo n) notes → AreLeft m b sets
    → ToldBy m b sets notes
unfolding ToldBy
left_told m b [] notes n lt up h = tt
left_told m b (set ∷ sets) notes n lt up h = (
  h.0 ∙ sym (told_none n b.step b.set notes lt up),
  λ now mid is. let one = counted_by m b mid set now is in left_told m mid sets notes n (omega (arith, lt, one)) up (h.1 now mid is),
)

-- and the first of them from what the last step left
pub left_behind : (m : Setting) (b : State) (whole : Set) (sets : List Set) (notes : List Note) → b.set ≡ set_told notes b.step whole
    → All (IsUpTo b.step) notes → AreLeft m b sets → ToldBy m (with_set b whole) sets notes
unfolding ToldBy
left_behind m b whole [] notes same up h = tt
left_behind m b whole (set ∷ sets) notes same up h = (
  h.0 ∙ same,
  λ now mid is.
      let there = sym (same_step m b whole set) ∙ is in
      let one = counted_by m b mid set now there in
      left_told m mid sets notes b.step (omega (arith, one)) up (h.1 now mid there),
)

-- ---- so each step that was taken

abbrev IsToldOf : List Note → Taken → Type 0
IsToldOf notes now = now.set ≡ set_told notes now.before.step now.before.set

by_result : (m : Setting) (b : State) (set : Set) (sets : List Set) (notes : List Note) (now : Taken) (later : List Taken)
    → set ≡ set_told notes b.step b.set
    → ((report : Report) (after : State) → step_of m b set ≡ Went report after → (front : List Taken) → steps_by m after sets ≡ front
    ++ now ∷ later → IsToldOf notes now)
    → (r : Result) → step_of m b set ≡ r → (front : List Taken) → behind b set r (λ after. steps_by m after sets) ≡ front ++ now ∷ later
    → IsToldOf notes now
by_result m b set sets notes now later h rest (Halts stop) is front e = absurd (none_some front now later e)
by_result m b set sets notes now later h rest (Went report after) is [] e =
    subst (IsToldOf notes) (heads (record { before = b; set = set; report = report; after = after }) now (steps_by m after sets) later e) h
by_result m b set sets notes now later h rest (Went report after) is (first ∷ front) e =
    rest report after is front (tails (record { before = b; set = set; report = report; after = after }) first (steps_by m after sets)
    (front ++ now ∷ later) e)

each_taken : (m : Setting) (b : State) (sets : List Set) (notes : List Note) → ToldBy m b sets notes
    → (earlier : List Taken) (now : Taken) (later : List Taken) → steps_by m b sets ≡ earlier ++ now ∷ later → IsToldOf notes now
unfolding ToldBy
each_taken m b [] notes h earlier now later e = absurd (none_some earlier now later e)
each_taken m b (set ∷ sets) notes h earlier now later e =
    by_result m b set sets notes now later h.0 (λ report after is front rest. each_taken m after sets notes (h.1 report after is) front now
    later rest) (step_of m b set) refl earlier e

pub are_told : (m : Setting) (b : State) (sets : List Set) (notes : List Note) → ToldBy m b sets notes → AreTold m b sets notes
are_told m b sets notes h = record { each = each_taken m b sets notes h }
