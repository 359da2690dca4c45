-- The loop over a schedule: the slice whose turn comes, and what an answer says.
use Rattle.std.proofs.Common.{◌≡◌, ℕ, suc, ◌+◌, ◌<◌, true, false, List, ◌∷◌, ◌++◌, length, take, drop, get_or, ap, sym, ◌∙◌, arith, drop-cons, Result, Ok, Err}
use Rattle.std.specs.Prelude.{OnErr, OnOk, is_err}
use Rattle.std.proofs.lemmas.List.{take-append-drop}
use Rattle.pv_io.specs.declared.answer.Failed.{Failed}
use Rattle.guest_sched.specs.Between.{IsNext}
use Rattle.guest_sched.specs.Schedules.{IsSchedule}
use Rattle.guest_sched.specs.declared.schedule.Slice.{Slice}

pub on_err : {P : Type 0} (r : Result (Unit {0}) Failed) → is_err r ≡ true → OnErr r P → P
on_err (Ok done) e h = absurd (cc)
on_err (Err failed) e h = h

pub on_ok : {P : Type 0} (r : Result (Unit {0}) Failed) → is_err r ≡ false → OnOk r P → P
on_ok (Ok done) e h = h
on_ok (Err failed) e h = absurd (cc)

pub is_next : (count : ℕ) (whole list : List Slice) (i : ℕ) (d : Slice) → list ≡ whole → i < length list → IsSchedule count whole
    → IsNext count whole (take i whole) (get_or list i d)
is_next count whole list i d same lt h =
    let within : i < length whole = (let n = ap length same in omega (arith, n, lt)) in
    record {
      rest = drop (i + 1) whole;
      whole_is =
          sym (take-append-drop i whole)
          ∙ ap (λ (l : List Slice). take i whole ++ l) (drop_at whole i d within)
          ∙ ap (λ (l : List Slice). take i whole ++ get_or l i d ∷ drop (i + 1) whole) (sym same);
      schedule = h;
    } where
      drop_at : (xs : List Slice) (i : ℕ) (d : Slice) → i < length xs → drop i xs ≡ get_or xs i d ∷ drop (i + 1) xs
      drop_at xs i d lt = drop-cons xs i d lt ∙ ap (λ (n : ℕ). get_or xs i d ∷ drop n xs) (let e : suc i ≡ i + 1 = omega arith in e)
