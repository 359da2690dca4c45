-- The bytes of a board's form are those that the board saves.
use Rattle.std.proofs.Common.{◌≡◌, ℕ, zero, suc, ◌+◌, ◌-◌, ◌*◌, ◌≤◌, Bool, true, List, [], ◌∷◌, ◌++◌, length, take, drop, refl, ap, sym, ◌∙◌, arith, inl, inr}
use Rattle.std.specs.Prelude.{◌&&◌, ◌||◌, ◌==◌, nat_le, nat_lt, replicate, unwrap_or, slice_index, slice_range, if◌then◌else◌}
use Rattle.std.specs.List.{list_all}
use Rattle.std.specs.Int.{w32, w64, to_le_bytes, from_le_bytes}
use Rattle.std.proofs.lemmas.Bool.{leb-true, eqb-true, and_parts}
use Rattle.std.proofs.lemmas.Bool.Decides.{eqb_tells}
use Rattle.std.proofs.lemmas.List.{drop_more, take_all, length-take, length-drop, replicate-append-replicate}
use Rattle.std.proofs.lemmas.List.Folds.{list_all-append}
use Rattle.std.proofs.lemmas.Nat.{le_bytes_4, le_bytes_8}
use Rattle.guest_ram.specs.Bytes.{part, AreBytes}
use Rattle.guest_ram.proofs.Bytes.{length-part, bytes-part, part-append}
use Rattle.ia32_types.specs.Bits.{worth}
use Rattle.board.specs.Saved.{phase_number, selected_number, phase_numbers, count_numbers, chip_bytes, timer_bytes, set_bytes, waiting_bytes, saved}
use Rattle.board.specs.Restored.{four_at, eight_at, phase_of, selected_of, timer_phase_of, period_of, count_of, chip_at, timer_at, waiting_at, board_at, are_zero, is_period_or_none, chip_demands, pair_demands, timer_demands, port_demands, demands}
use Rattle.board.specs.Form.{all_met, board_form}

-- ---- the tests one by one

record AreMet (b : List ℕ) : Type 0 where
  master : all_met (chip_demands b 0) ≡ true
  slave : all_met (chip_demands b 7) ≡ true
  timer : all_met (timer_demands b) ≡ true
  port : all_met (port_demands b) ≡ true

are_met : (b : List ℕ) → board_form b ≡ true → AreMet b
unfolding board_form demands
are_met b form =
    let met : ℕ × Bool → Bool = λ d. d.1 in
    let cut : (xs ys : List (ℕ × Bool)) → list_all met (xs ++ ys) ≡ true → (list_all met xs ≡ true) × (list_all met ys ≡ true) =
    λ xs ys all. and_parts (list_all met xs) (list_all met ys) (sym (list_all-append met xs ys) ∙ all) in
    let e = cut (chip_demands b 0 ++ chip_demands b 7 ++ pair_demands b ++ timer_demands b) (port_demands b) form in
    let d = cut (chip_demands b 0 ++ chip_demands b 7 ++ pair_demands b) (timer_demands b) e.0 in
    let c = cut (chip_demands b 0 ++ chip_demands b 7) (pair_demands b) d.0 in
    let a = cut (chip_demands b 0) (chip_demands b 7) c.0 in
    record { master = a.0; slave = a.1; timer = d.1; port = e.1 }

-- ---- numbers of names

phase_again : (n : ℕ) → n ≤ 4 → phase_number (phase_of n) ≡ n
phase_again zero low = refl
phase_again (suc zero) low = refl
phase_again (suc (suc zero)) low = refl
phase_again (suc (suc (suc zero))) low = refl
phase_again (suc (suc (suc (suc zero)))) low = refl
phase_again (suc (suc (suc (suc (suc n))))) low = absurd (omega arith)

pub worth_again : (n : ℕ) → n ≤ 1 → worth (n == 1) ≡ n
worth_again zero low = refl
worth_again (suc zero) low = refl
worth_again (suc (suc n)) low = absurd (omega arith)

selected_again : (n : ℕ) → n ≤ 1 → selected_number (selected_of n) ≡ n
selected_again zero low = refl
selected_again (suc zero) low = refl
selected_again (suc (suc n)) low = absurd (omega arith)

timer_again : (n low : ℕ) → n ≤ 2 → (phase_numbers (timer_phase_of n low)).0 ≡ n
timer_again zero low h = refl
timer_again (suc zero) low h = refl
timer_again (suc (suc zero)) low h = refl
timer_again (suc (suc (suc n))) low h = absurd (omega arith)

low_again : (n low : ℕ) → n ≤ 2 → (n == 2 || low == 0) ≡ true → (phase_numbers (timer_phase_of n low)).1 ≡ low
low_again zero low h or = sym (eqb-true low 0 or)
low_again (suc zero) low h or = sym (eqb-true low 0 or)
low_again (suc (suc zero)) low h or = refl
low_again (suc (suc (suc n))) low h or = absurd (omega arith)

-- ---- counts

period_again : (p n l : ℕ) → (count_numbers (count_of p n l)).0 ≡ p
period_again p n l = elim (eqb_tells p 0) [ inl (is, e) ↦ rw is (sym e) | inr (isnt, _) ↦ rw isnt refl ]

next_or_none : (n : ℕ) → unwrap_or (period_of n) 0 ≡ n
next_or_none n = elim (eqb_tells n 0) [ inl (is, e) ↦ rw is (sym e) | inr (isnt, _) ↦ rw isnt refl ]

next_again : (p n l : ℕ) → (if p == 0 then n == 0 else true) ≡ true → (count_numbers (count_of p n l)).1 ≡ n
next_again p n l h = elim (eqb_tells p 0) [
  | inl (is, e) ↦
      let none : (n == 0) ≡ true = rw is at h in
      rw is (sym (eqb-true n 0 none))
  | inr (isnt, _) ↦ rw isnt (next_or_none n)
]

left_again : (p n l : ℕ) → (if p == 0 then l == 0 else nat_lt 0 l && nat_le l (8 * p)) ≡ true → (count_numbers (count_of p n l)).2 ≡ l
left_again p n l h = elim (eqb_tells p 0) [
  | inl (is, e) ↦
      let none : (l == 0) ≡ true = rw is at h in
      rw is (sym (eqb-true l 0 none))
  | inr (isnt, _) ↦ rw isnt refl
]

-- ---- parts byte by byte

abbrev pub listed : List ℕ → ℕ → ℕ → List ℕ
listed b a zero = []
listed b a (suc n) = slice_index b a ∷ listed b (a + 1) n

pub part-listed : (b : List ℕ) (a n : ℕ) → a + n ≤ length b → listed b a n ≡ part b a n
unfolding part
part-listed b a zero room = refl
part-listed b a (suc n) room =
    ap (λ (xs : List ℕ). slice_index b a ∷ xs) (part-listed b (a + 1) n (omega arith))
    ∙ ap (take (suc n)) (sym (drop_more b a 0 (omega arith)))

cons : {x y : ℕ} {xs ys : List ℕ} → x ≡ y → xs ≡ ys → x ∷ xs ≡ y ∷ ys
cons {x} {y} {xs} {ys} p q = ap (λ (z : ℕ). z ∷ xs) p ∙ ap (λ (zs : List ℕ). y ∷ zs) q

join : {ks bs cs ds : List ℕ} → ks ≡ bs → cs ≡ ds → ks ++ cs ≡ bs ++ ds
join {ks} {bs} {cs} {ds} p q = ap (λ (xs : List ℕ). xs ++ cs) p ∙ ap (λ (xs : List ℕ). bs ++ xs) q

chip_again : (b : List ℕ) (o : ℕ) → all_met (chip_demands b o) ≡ true → chip_bytes (chip_at b o) ≡
    slice_index b o ∷ slice_index b (o + 1) ∷ slice_index b (o + 2) ∷ slice_index b (o + 3) ∷ slice_index b (o + 4) ∷ slice_index b
    (o + 5) ∷ slice_index b (o + 6) ∷ []
chip_again b o met =
    let f = and_parts (nat_le (slice_index b o) 4) _ met in
    let g = and_parts (nat_le (slice_index b (o + 1)) 1) _ f.1 in
    let h = and_parts _ _ g.1 in
    let i = and_parts _ _ h.1 in
    let j = and_parts (nat_le (slice_index b (o + 6)) 1) true i.1 in
    let phase = phase_again (slice_index b o) (leb-true (slice_index b o) 4 f.0) in
    let once = worth_again (slice_index b (o + 1)) (leb-true (slice_index b (o + 1)) 1 g.0) in
    let selected = selected_again (slice_index b (o + 6)) (leb-true (slice_index b (o + 6)) 1 j.0) in
    cons phase (cons once (cons refl (cons refl (cons refl (cons refl (cons selected refl))))))

four_again : (b : List ℕ) (a : ℕ) → AreBytes b → a + 4 ≤ length b → to_le_bytes w32 (four_at b a) ≡ part b a 4
unfolding part
four_again b a are room =
    let four : a + 4 - a ≡ 4 = omega arith in
    le_bytes_4 (part b a 4) (four_at b a) (length-part b a 4 room) (bytes-part b a 4 are)
    (ap (λ (n : ℕ). from_le_bytes w32 (take n (drop a b))) four)

eight_again : (b : List ℕ) (a : ℕ) → AreBytes b → a + 8 ≤ length b → to_le_bytes w64 (eight_at b a) ≡ part b a 8
unfolding part
eight_again b a are room =
    let eight : a + 8 - a ≡ 8 = omega arith in
    le_bytes_8 (part b a 8) (eight_at b a) (length-part b a 8 room) (bytes-part b a 8 are)
    (ap (λ (n : ℕ). from_le_bytes w64 (take n (drop a b))) eight)

timer_bytes_again : (b : List ℕ) → AreBytes b → length b ≡ 64 → all_met (timer_demands b) ≡ true → timer_bytes (timer_at b) ≡ part b 14 18
timer_bytes_again b are long met =
    let p = four_at b 16 in
    let n = four_at b 20 in
    let l = eight_at b 24 in
    let f = and_parts (nat_le (slice_index b 14) 2) _ met in
    let g = and_parts (slice_index b 14 == 2 || slice_index b 15 == 0) _ f.1 in
    let h = and_parts (is_period_or_none p) _ g.1 in
    let i = and_parts (is_period_or_none n) _ h.1 in
    let j = and_parts (if p == 0 then n == 0 else true) _ i.1 in
    let k = and_parts (if p == 0 then l == 0 else nat_lt 0 l && nat_le l (8 * p)) true j.1 in
    let low = leb-true (slice_index b 14) 2 f.0 in
    let period = ap (to_le_bytes w32) (period_again p n l) ∙ four_again b 16 are (omega arith) in
    let next = ap (to_le_bytes w32) (next_again p n l j.0) ∙ four_again b 20 are (omega arith) in
    let left = ap (to_le_bytes w64) (left_again p n l k.0) ∙ eight_again b 24 are (omega arith) in
    let front : (phase_numbers (timer_phase_of (slice_index b 14) (slice_index b 15))).0 ∷ (phase_numbers
    (timer_phase_of (slice_index b 14) (slice_index b 15))).1 ∷ [] ≡ part b 14 2 =
    cons (timer_again (slice_index b 14) (slice_index b 15) low) (cons (low_again (slice_index b 14) (slice_index b 15) low g.0) refl)
    ∙ part-listed b 14 2 (omega arith) in
    join (join (join front period ∙ part-append b 14 2 4) next ∙ part-append b 14 6 4) left ∙ part-append b 14 10 8

-- ---- the serial port

are_zeros : (xs : List ℕ) → are_zero xs ≡ true → xs ≡ replicate (length xs) 0
are_zeros [] met = refl
are_zeros (x ∷ xs) met =
    let both = and_parts (x == 0) (are_zero xs) met in
    cons (eqb-true x 0 both.0) (are_zeros xs both.1)

abbrev pub zeros : ℕ → List ℕ
zeros n = replicate n 0

replicated : (m n k : ℕ) → m + n ≡ k → zeros m ++ zeros n ≡ zeros k
replicated m n k e = replicate-append-replicate m n 0 ∙ ap zeros e

waiting_again : (b : List ℕ) (n : ℕ) → length b ≡ 64 → n ≤ 16 → are_zero (slice_range b (39 + n) 55) ≡ true
    → are_zero (slice_range b 55 64) ≡ true →
    waiting_bytes (slice_range b 39 (39 + n)) ≡ part b 39 25
unfolding part
waiting_again b n long few unused last =
    let k : 39 + n - 39 ≡ n = omega arith in
    let kept : slice_range b 39 (39 + n) ≡ part b 39 n = ap (λ (j : ℕ). take j (drop 39 b)) k in
    let count : length (part b 39 n) ≡ n = length-part b 39 n (omega arith) in
    let between : slice_range b (39 + n) 55 ≡ part b (39 + n) (16 - n) = ap (λ (j : ℕ). take j (drop (39 + n) b)) (omega arith) in
    let between_long : length (slice_range b (39 + n) 55) ≡ 16 - n = ap length between ∙ length-part b (39 + n) (16 - n) (omega arith) in
    let last_long : length (slice_range b 55 64) ≡ 9 = length-part b 55 9 (omega arith) in
    let last_zeros : zeros (25 - length (part b 39 n)) ≡ part b (39 + n) (16 - n) ++ part b 55 9 =
    sym (join (sym between ∙ are_zeros (slice_range b (39 + n) 55) unused) (are_zeros (slice_range b 55 64) last)
    ∙ replicated (length (slice_range b (39 + n) 55)) (length (slice_range b 55 64)) (25 - length (part b 39 n)) (omega arith)) in
    let place : 39 + n + (16 - n) ≡ 55 = omega arith in
    let many : n + (16 - n + 9) ≡ 25 = omega arith in
    ap waiting_bytes kept
    ∙ ap (λ (xs : List ℕ). part b 39 n ++ xs)
    (last_zeros ∙ ap (λ (j : ℕ). part b (39 + n) (16 - n) ++ part b j 9) (sym place) ∙ part-append b (39 + n) (16 - n) 9)
    ∙ part-append b 39 n (16 - n + 9) ∙ ap (part b 39) many

set_again : (b : List ℕ) → length b ≡ 64 → slice_index b 38 ≤ 16 → slice_index b 32 ≤ 1 → set_bytes (board_at b).uart ≡ part b 32 7
unfolding board_at
set_again b long few on =
    let kept : length (waiting_at b) ≡ slice_index b 38 =
    length-take (39 + slice_index b 38 - 39) (drop 39 b) ∙ omega (arith, length-drop 39 b) in
    cons (worth_again (slice_index b 32) on) (cons refl (cons refl (cons refl (cons refl (cons refl (cons kept refl))))))
    ∙ part-listed b 32 7 (omega arith)

-- ---- the whole board

pub board_again : (b : List ℕ) → AreBytes b → length b ≡ 64 → board_form b ≡ true → saved (board_at b) ≡ b
unfolding saved board_at part
board_again b are long form =
    let met = are_met b form in
    let f = and_parts (nat_le (slice_index b 32) 1) _ met.port in
    let g = and_parts (nat_lt (slice_index b 34) 16) _ f.1 in
    let h = and_parts (nat_le (slice_index b 38) 16) _ g.1 in
    let i = and_parts (are_zero (slice_range b (39 + slice_index b 38) 55)) _ h.1 in
    let j = and_parts (are_zero (slice_range b 55 64)) true i.1 in
    let few = leb-true (slice_index b 38) 16 h.0 in
    let master = chip_again b 0 met.master ∙ part-listed b 0 7 (omega arith) in
    let slave = chip_again b 7 met.slave ∙ part-listed b 7 7 (omega arith) in
    let timer = timer_bytes_again b are long met.timer in
    let port = set_again b long few (leb-true (slice_index b 32) 1 f.0) in
    let waiting = waiting_again b (slice_index b 38) long few i.0 j.0 in
    join (join (join (join master slave ∙ part-append b 0 7 7) timer ∙ part-append b 0 14 18) port ∙ part-append b 0 32 7) waiting
    ∙ part-append b 0 39 25 ∙ take_all 64 b (omega arith)
