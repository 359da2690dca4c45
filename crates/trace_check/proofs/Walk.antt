-- Reading choices one after the other, as a loop does.
use Rattle.std.proofs.Common.{◌≡◌, ℕ, suc, ◌+◌, ◌*◌, ◌-◌, ◌<◌, ◌≤◌, List, [], ◌∷◌, ◌++◌, length, Some, None, Ok, Err, refl, sym, ap, ◌∙◌, arith, lt-ltb, le-ltb, append_assoc}
use Rattle.std.proofs.lemmas.List.{append-nil}
use Rattle.guest_ram.specs.Bytes.{word32}
use Rattle.trace_check.specs.declared.list.Choice.{Choice}
use Rattle.trace_check.specs.Reading.{word64, head_fault, choice_fault, choices_fault, choice_at, choices_at, choices_in}

pub head_is_bad : (bytes : List ℕ) (at : ℕ) → head_fault bytes ≡ Some at → choices_in bytes ≡ Err at
unfolding choices_in
head_is_bad bytes at e = rw e refl

pub choice_is_bad : (bytes : List ℕ) (n at : ℕ) → head_fault bytes ≡ None → n ≡ word32 bytes 4 → choices_fault bytes 0 n 8 ≡ Some at
    → choices_in bytes ≡ Err at
unfolding choices_in
choice_is_bad bytes n at e count h =
    let there : choices_fault bytes 0 (word32 bytes 4) 8 ≡ Some at = ap (λ (k : ℕ). choices_fault bytes 0 k 8) (sym count) ∙ h in
    rw (e, there) refl

pub none_is_bad : (bytes : List ℕ) (n : ℕ) (list : List Choice) → head_fault bytes ≡ None → n ≡ word32 bytes 4
    → choices_fault bytes 0 n 8 ≡ None → list ≡ choices_at bytes n 8 → choices_in bytes ≡ Ok list
unfolding choices_in
none_is_bad bytes n list e count h are =
    let there : choices_fault bytes 0 (word32 bytes 4) 8 ≡ None = ap (λ (k : ℕ). choices_fault bytes 0 k 8) (sym count) ∙ h in
    let all : list ≡ choices_at bytes (word32 bytes 4) 8 = are ∙ ap (λ (k : ℕ). choices_at bytes k 8) count in
    rw (e, there) (ap (λ (v : List Choice). Ok v) (sym all))

pub here_bad : (bytes : List ℕ) (least n i at : ℕ) → i < n → choice_fault bytes least (8 + 16 * i) ≡ Some at
    → choices_fault bytes least (n - i) (8 + 16 * i) ≡ Some at
unfolding choices_fault
here_bad bytes least n i at lt e =
    let left : n - i ≡ suc (n - (i + 1)) = omega arith in
    rw (left, e) refl

pub here_good : (bytes : List ℕ) (least n i : ℕ) → i < n → choice_fault bytes least (8 + 16 * i) ≡ None
    → choices_fault bytes least (n - i) (8 + 16 * i) ≡ choices_fault bytes (word64 bytes (8 + 16 * i)) (n - (i + 1)) (8 + 16 * (i + 1))
unfolding choices_fault
here_good bytes least n i lt e =
    let left : n - i ≡ suc (n - (i + 1)) = omega arith in
    let next : 8 + 16 * i + 16 ≡ 8 + 16 * (i + 1) = omega arith in
    rw (left, e, next) refl

pub one_more : (bytes : List ℕ) (list : List Choice) (n i : ℕ) → i < n → list
    ++ choices_at bytes (n - i) (8 + 16 * i) ≡ (list ++ choice_at bytes (8 + 16 * i) ∷ [])
    ++ choices_at bytes (n - (i + 1)) (8 + 16 * (i + 1))
unfolding choices_at
one_more bytes list n i lt =
    let left : n - i ≡ suc (n - (i + 1)) = omega arith in
    let next : 8 + 16 * i + 16 ≡ 8 + 16 * (i + 1) = omega arith in
    rw (left, next) (sym (append_assoc list (choice_at bytes (8 + 16 * i) ∷ []) (choices_at bytes (n - (i + 1)) (8 + 16 * (i + 1)))))

pub end_good : (bytes : List ℕ) (least n i : ℕ) → n ≤ i → i ≤ n → length bytes ≤ 8 + 16 * n
    → choices_fault bytes least (n - i) (8 + 16 * i) ≡ None
unfolding choices_fault
end_good bytes least n i le ge short =
    let left : n - i ≡ 0 = omega arith in
    rw (left, le-ltb (8 + 16 * i) (length bytes) (omega arith)) refl

pub end_bad : (bytes : List ℕ) (least n i : ℕ) → n ≤ i → i ≤ n → 8 + 16 * n < length bytes
    → choices_fault bytes least (n - i) (8 + 16 * i) ≡ Some (8 + 16 * n)
unfolding choices_fault
end_bad bytes least n i le ge long =
    let left : n - i ≡ 0 = omega arith in
    let same : i ≡ n = omega arith in
    rw (left, lt-ltb (8 + 16 * i) (length bytes) (omega arith)) (ap (λ (k : ℕ). Some (8 + 16 * k)) same)

pub at_end : (bytes : List ℕ) (list : List Choice) (n i : ℕ) → n ≤ i → list ++ choices_at bytes (n - i) (8 + 16 * i) ≡ list
unfolding choices_at
at_end bytes list n i le =
    let left : n - i ≡ 0 = omega arith in
    rw left (append-nil list)

pub choice_at-step : (bytes : List ℕ) (a : ℕ) → (choice_at bytes a).step ≡ word64 bytes a
unfolding choice_at
choice_at-step bytes a = refl
