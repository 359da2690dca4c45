-- Events of a script, by their steps.
use Rattle.std.proofs.Common.{◌≡◌, ℕ, zero, suc, ◌+◌, ◌-◌, ◌<◌, ◌≤◌, Bool, true, false, Option, Some, None, [], ◌∷◌, length, get_or, drop, refl, ap, ◌∙◌, sym, arith, inl, inr, ◌≢◌, add-one, drop-cons, eq-eqb, min, take, length-drop, take_all}
use Rattle.std.proofs.lemmas.List.{drop_all}
use Rattle.std.specs.Prelude.{◌&&◌, ◌||◌, nat_lt, nat_le}
use Rattle.std.proofs.lemmas.Bool.{ne_eqb, leb-true, le-leb, and_parts}
use Rattle.std.proofs.lemmas.Bool.Decides.{leb_tells, nat_tests}
use Rattle.std.specs.List.Sorted.{IsNonDecreasingBy}
use Rattle.std.proofs.Math.Bool.{or-false}
use Rattle.ia32_types.specs.Firsts.{IsFirst}
use Rattle.board.specs.declared.script.Event.{Event}
use Rattle.board.specs.declared.script.Event.TheVariants.{Rx}
use Rattle.board.specs.declared.devices.Board.{Board}
use Rattle.board.specs.Scripts.{Events, max_step}
use Rattle.board.specs.ScriptForm.{event_fits, is_script_from}
use Rattle.board.specs.Earlier.{earlier}
use Rattle.board.specs.EventLists.{later, SameEvents}
use Rattle.board.specs.Boards.{given, happened}
use Rattle.board.specs.Quiet.{event_within}

-- what the order says of the first event, and of the others
pub first_facts : (low : ℕ) (event : ℕ × Event) (rest : Events) → is_script_from low (event ∷ rest) ≡ true →
    (low ≤ event.0) × (event.0 ≤ max_step) × (event_fits event.1 ≡ true) × (is_script_from event.0 rest ≡ true)
first_facts low event rest h =
    let rest_in = and_parts (nat_le low event.0 && nat_le event.0 max_step && event_fits event.1) (is_script_from event.0 rest) h in
    let fits = and_parts (nat_le low event.0 && nat_le event.0 max_step) (event_fits event.1) rest_in.0 in
    let steps = and_parts (nat_le low event.0) (nat_le event.0 max_step) fits.0 in
    (leb-true low event.0 steps.0, leb-true event.0 max_step steps.1, fits.1, rest_in.1)

-- a lower bound may be any lower one
pub from_lower : (low step : ℕ) (xs : Events) → is_script_from low xs ≡ true → (0 < length xs → step ≤ (get_or xs 0 (0, Rx 0)).0) →
    is_script_from step xs ≡ true
from_lower low step [] h first = refl
from_lower low step (x ∷ xs) h first =
    let facts = first_facts low x xs h in
    rw (le-leb step x.0 (first (omega arith)), le-leb x.0 max_step facts.1, facts.2, facts.3) refl

-- where the first events are up to a step and the others after it, the others are the later ones
pub later_is : (step : ℕ) (xs : Events) (i : ℕ) → ((k : ℕ) (d : ℕ × Event) → k < i → (get_or xs k d).0 ≤ step) →
    ((k : ℕ) (d : ℕ × Event) → i ≤ k → k < length xs → step < (get_or xs k d).0) → drop i xs ≡ later step xs
unfolding later
later_is step [] zero before after = refl
later_is step [] (suc i) before after = refl
later_is step (x ∷ xs) zero before after =
    let past : step < x.0 = after 0 x (omega arith) (omega arith) in
    elim (leb_tells x.0 step) [
      | inl (is, low) ↦ absurd (omega arith)
      | inr (isnt, high) ↦ rw isnt refl
    ]
later_is step (x ∷ xs) (suc i) before after =
    let early : x.0 ≤ step = before 0 x (omega arith) in
    rw (le-leb x.0 step early)
    (later_is step xs i (λ k d h. before (suc k) d (omega arith)) (λ k d h j. after (suc k) d (omega arith) (omega arith)))

-- the later events in order
pub later_from : (step low : ℕ) (xs : Events) → is_script_from low xs ≡ true → is_script_from (suc step) (later step xs) ≡ true
unfolding later
later_from step low [] h = refl
later_from step low (x ∷ xs) h = elim (leb_tells x.0 step) [
  | inl (is, early) ↦ rw is (later_from step x.0 xs (first_facts low x xs h).3)
  | inr (isnt, past) ↦ rw isnt (from_lower low (suc step) (x ∷ xs) h (λ some. omega arith))
]

-- an event after the n steps
event_out : (step n at : ℕ) → step + n < at → (nat_lt step at && nat_le at (step + n)) ≡ false
event_out step n at far = grind (arith, nat_tests)

-- an event up to the step
event_past : (step n at : ℕ) → at ≤ step → (nat_lt step at && nat_le at (step + n)) ≡ false
event_past step n at far = grind (arith, nat_tests)

-- an event after the step
event_ahead : (step n at : ℕ) → step < at → (nat_lt step at && nat_le at (step + n)) ≡ nat_le (at - step) n
event_ahead step n at far = grind (arith, nat_tests)

within_none : (step n low : ℕ) (xs : Events) → is_script_from low xs ≡ true → step + n < low → event_within step n xs ≡ false
within_none step n low [] h far = refl
within_none step n low (x ∷ xs) h far =
    let facts = first_facts low x xs h in
    rw (event_out step n x.0 (omega (arith, facts.0))) (within_none step n x.0 xs facts.3 (omega (arith, facts.0)))

within_later : (step n : ℕ) (xs : Events) → event_within step n xs ≡ event_within step n (later step xs)
unfolding later
within_later step n [] = refl
within_later step n (x ∷ xs) = elim (leb_tells x.0 step) [
  | inl (is, early) ↦ rw (is, event_past step n x.0 early) (within_later step n xs)
  | inr (isnt, past) ↦ rw isnt refl
]

-- no event is left
pub none_after : (step : ℕ) (xs ys : Events) → ys ≡ later step xs → length ys < 1 → (n : ℕ) → event_within step n xs ≡ false
none_after step xs [] is h n = within_later step n xs ∙ ap (event_within step n) (sym is)
none_after step xs (y ∷ ys) is h n = absurd (omega arith)

first_in : (step n : ℕ) (x : ℕ × Event) (xs : Events) → is_script_from (suc step) (x ∷ xs) ≡ true →
    event_within step n (x ∷ xs) ≡ nat_le (x.0 - step) n
first_in step n x xs h =
    let facts = first_facts (suc step) x xs h in
    let ahead : step < x.0 = omega (arith, facts.0) in
    rw (event_ahead step n x.0 ahead) (elim (leb_tells (x.0 - step) n) [
      | inl (is, within) ↦ rw is refl
      | inr (isnt, beyond) ↦ rw isnt (within_none step n x.0 xs facts.3 (omega arith))
    ])

-- the first event that is left
pub first_after : (step : ℕ) (xs ys : Events) (d : ℕ × Event) → is_script_from 0 xs ≡ true → ys ≡ later step xs → 1 ≤ length ys →
    (step < (get_or ys 0 d).0) × ((n : ℕ) → event_within step n xs ≡ nat_le ((get_or ys 0 d).0 - step) n)
first_after step xs [] d h is some = absurd (omega arith)
first_after step xs (y ∷ ys) d h is some =
    let from : is_script_from (suc step) (y ∷ ys) ≡ true = ap (is_script_from (suc step)) is ∙ later_from step 0 xs h in
    let facts = first_facts (suc step) y ys from in
    (omega (arith, facts.0), λ n. within_later step n xs ∙ ap (event_within step n) (sym is) ∙ first_in step n y ys from)

either_min : (a b n : ℕ) → (nat_le a n || nat_le b n) ≡ nat_le (min a b) n
either_min a b n = grind (arith, nat_tests)

pub first_of_both : (p q : ℕ → Bool) (a b : Option ℕ) → IsFirst p a → IsFirst q b → IsFirst (λ n. p n || q n) (earlier a b)
first_of_both p q None None f g = λ n. rw (f n, g n) refl
first_of_both p q None (Some b) f g = λ n. rw (f n) (g n)
first_of_both p q (Some a) None f g = λ n. rw (f n, g n) (or-false (nat_le a n))
first_of_both p q (Some a) (Some b) f g = λ n. rw (f n, g n) (either_min a b n)

-- a step's events are among those after an earlier step
pub given_later : (board : Board) (xs : Events) (step s : ℕ) → s < step → given board xs step ≡ given board (later s xs) step
unfolding later given
given_later board [] step s h = refl
given_later board (x ∷ xs) step s h = elim (leb_tells x.0 s) [
  | inl (is, early) ↦
      let other : x.0 ≢ step = omega arith in
      rw (is, ne_eqb x.0 step other) (given_later board xs step s h)
  | inr (isnt, past) ↦ rw isnt refl
]

-- and there are none where all come after it
pub given_none : (board : Board) (xs : Events) (step low : ℕ) → is_script_from low xs ≡ true → step < low → given board xs step ≡ board
unfolding given
given_none board [] step low h far = refl
given_none board (x ∷ xs) step low h far =
    let facts = first_facts low x xs h in
    let other : x.0 ≢ step = omega (arith, facts.0) in
    rw (ne_eqb x.0 step other) (given_none board xs step x.0 facts.3 (omega (arith, facts.0)))

-- one event of the step
given_here : (board : Board) (x : ℕ × Event) (xs : Events) (step : ℕ) → x.0 ≡ step →
    given board (x ∷ xs) step ≡ given (happened board x.1) xs step
unfolding given
given_here board x xs step is = rw (eq-eqb x.0 step is) refl

given_stop : (board : Board) (x : ℕ × Event) (xs : Events) (step : ℕ) → is_script_from step (x ∷ xs) ≡ true → x.0 ≢ step →
    given board (x ∷ xs) step ≡ board
unfolding given
given_stop board x xs step h other =
    let facts = first_facts step x xs h in
    rw (ne_eqb x.0 step other) (given_none board xs step x.0 facts.3 (omega (arith, facts.0)))

split : (ys : Events) (i : ℕ) (d : ℕ × Event) → i < length ys → drop i ys ≡ get_or ys i d ∷ drop (i + 1) ys
split ys i d h = rw (add-one, drop-cons ys i d) refl

-- a loop's step at an event of the step
pub given_one : (board : Board) (ys : Events) (i step : ℕ) (d : ℕ × Event) → i < length ys → (get_or ys i d).0 ≡ step →
    given board (drop i ys) step ≡ given (happened board (get_or ys i d).1) (drop (i + 1) ys) step
given_one board ys i step d h is =
    ap (λ (zs : Events). given board zs step) (split ys i d h)
    ∙ given_here board (get_or ys i d) (drop (i + 1) ys) step is

pub from_one : (ys : Events) (i step : ℕ) (d : ℕ × Event) → i < length ys → is_script_from step (drop i ys) ≡ true →
    (event_fits (get_or ys i d).1 ≡ true) × (is_script_from (get_or ys i d).0 (drop (i + 1) ys) ≡ true)
from_one ys i step d h from =
    let facts = first_facts step (get_or ys i d) (drop (i + 1) ys) (ap (is_script_from step) (sym (split ys i d h)) ∙ from) in
    (facts.2, facts.3)

-- and at another
pub given_no_more : (board : Board) (ys : Events) (i step : ℕ) (d : ℕ × Event) → i < length ys →
    is_script_from step (drop i ys) ≡ true → (get_or ys i d).0 ≢ step → given board (drop i ys) step ≡ board
given_no_more board ys i step d h from other =
    ap (λ (zs : Events). given board zs step) (split ys i d h)
    ∙ given_stop board (get_or ys i d) (drop (i + 1) ys) step (ap (is_script_from step) (sym (split ys i d h)) ∙ from) other

above : (low : ℕ) (xs : Events) (j : ℕ) (d : ℕ × Event) → is_script_from low xs ≡ true → j < length xs → low ≤ (get_or xs j d).0
above low [] j d h in_list = absurd (omega arith)
above low (x ∷ xs) zero d h in_list = (first_facts low x xs h).0
above low (x ∷ xs) (suc j) d h in_list =
    let facts = first_facts low x xs h in
    omega (arith, facts.0, above x.0 xs j d facts.3 (omega arith))

-- the steps don't fall
pub steps_rise : (low : ℕ) (xs : Events) → is_script_from low xs ≡ true → IsNonDecreasingBy (λ (e : ℕ × Event). e.0) xs
steps_rise low [] h i j d le in_list = absurd (omega arith)
steps_rise low (x ∷ xs) h zero zero d le in_list = omega arith
steps_rise low (x ∷ xs) h zero (suc j) d le in_list = above x.0 xs j d (first_facts low x xs h).3 (omega arith)
steps_rise low (x ∷ xs) h (suc i) zero d le in_list = absurd (omega arith)
steps_rise low (x ∷ xs) h (suc i) (suc j) d le in_list =
    steps_rise x.0 xs (first_facts low x xs h).3 i j d (omega arith) (omega arith)

pub whole_rest : (xs : Events) (i : ℕ) → take (length xs - i) (drop i xs) ≡ drop i xs
whole_rest xs i = take_all (length xs - i) (drop i xs) (omega (arith, length-drop i xs))

-- the events from a step on
pub from_later : (step : ℕ) (xs ys : Events) → 0 < step → is_script_from 0 xs ≡ true → ys ≡ later (step - 1) xs →
    SameEvents step xs ys × (is_script_from step ys ≡ true)
from_later step xs ys some h is =
    let e : suc (step - 1) ≡ step = omega arith in (
      λ board. ap (λ (zs : Events). given board zs step) is ∙ sym (given_later board xs step (step - 1) (omega arith)),
      ap (is_script_from step) is ∙ ap (λ (low : ℕ). is_script_from low (later (step - 1) xs)) (sym e) ∙ later_from (step - 1) 0 xs h,
    )

pub given_empty : (board : Board) (ys : Events) (i step : ℕ) → length ys ≤ i → given board (drop i ys) step ≡ board
unfolding given
given_empty board ys i step h = ap (λ (zs : Events). given board zs step) (drop_all i ys h)
