-- The answer is a function of the bytes.
use Rattle.std.proofs.Common.{◌≡◌, ℕ, zero, suc, ◌-◌, ◌<◌, List, [], ◌∷◌, ◌++◌, length, get_or, Ok, Err, refl, sym, ap, subst, ◌∙◌, inl, inr, ◌⊎◌, arith}
use Rattle.std.specs.List.{Contains}
use Rattle.std.proofs.lemmas.List.{get_or_default, length-append}
use Rattle.ia32_types.specs.declared.insn.Insn.{Insn}
use Rattle.ia32_rows.specs.declared.row.Miss.TheVariants.{Short, Outside}
use Rattle.ia32_rows.specs.declared.row.Row.{Row}
use Rattle.ia32_rows.specs.declared.row.Parts.{Parts}
use Rattle.ia32_rows.specs.Reader.{Reading}
use Rattle.ia32_rows.specs.Spelling.{parts_at, insn_of}
use Rattle.ia32_rows.specs.Spells.{AreBytes, Spells}
use Rattle.ia32_rows.specs.Rows.{rows}
use Rattle.ia32_rows.proofs.TableLaws.{rows_table, row_follows, one_or_outside, ok_not_outside}
use Rattle.ia32_decode.specs.declared.answer.Decoded.{Decoded}
use Rattle.ia32_decode.specs.declared.answer.Decoded.TheVariants as answer
use Rattle.ia32_decode.specs.Answer.{Answers}
use Rattle.ia32_decode.specs.Decoding.{by_row, answer_from, decoded}
use Rattle.ia32_decode.proofs.Whole.{begins, is_cut, is_outside, exactly_insn, exactly_short, exactly_outside}

-- the rows that are left are of the table, and each row of the table is left or meets a wrong byte
record IsLeft (bytes : List ℕ) (left : List Row) : Type 0 where
  within : (r : Row) → Contains left r → Contains rows r
  others : (r : Row) → Contains rows r → Contains left r ⊎ (parts_at r.form bytes ≡ Err Outside)

abbrev no_rows : List Row
no_rows = []

no_more : (r : Row) → Contains no_rows r → ⊥
no_more r c = omega arith

missed : (bytes : List ℕ) (r : Row) → Contains no_rows r ⊎ (parts_at r.form bytes ≡ Err Outside) → parts_at r.form bytes ≡ Err Outside
missed bytes r (inl c) = absurd (no_more r c)
missed bytes r (inr e) = e

first_of : (r : Row) (left : List Row) → Contains (r ∷ left) r
first_of r left = (0, omega arith, refl)

behind_first : (r s : Row) (left : List Row) → Contains left s → Contains (r ∷ left) s
behind_first r s left c = (suc c.0, omega arith, c.2)

split : (bytes : List ℕ) (r s : Row) (left : List Row) → parts_at r.form bytes ≡ Err Outside → (k : ℕ) → k < length (r ∷ left)
    → get_or (r ∷ left) k s ≡ s → Contains left s ⊎ (parts_at s.form bytes ≡ Err Outside)
split bytes r s left e zero lt is = inr (subst (λ (t : Row). parts_at t.form bytes ≡ Err Outside) is e)
split bytes r s left e (suc k) lt is = inl (k, omega arith, is)

next_others : (bytes : List ℕ) (r s : Row) (left : List Row) → parts_at r.form bytes ≡ Err Outside → Contains (r ∷ left) s
    ⊎ (parts_at s.form bytes ≡ Err Outside) → Contains left s ⊎ (parts_at s.form bytes ≡ Err Outside)
next_others bytes r s left e (inl c) = split bytes r s left e c.0 c.1 c.2
next_others bytes r s left e (inr m) = inr m

next_left : (bytes : List ℕ) (r : Row) (left : List Row) → parts_at r.form bytes ≡ Err Outside → IsLeft bytes (r ∷ left) → IsLeft bytes left
next_left bytes r left e h = record {
  within = λ s c. h.within s (behind_first r s left c);
  others = λ s c. next_others bytes r s left e (h.others s c);
}

by_answer : (bytes : List ℕ) (r : Row) (left : List Row) → AreBytes bytes → Contains rows r
    → (IsLeft bytes left → Answers (answer_from left bytes) bytes) → IsLeft bytes (r ∷ left) → (reading : Reading Parts)
    → parts_at r.form bytes ≡ reading → Answers (by_row r bytes (answer_from left bytes) reading) bytes
by_answer bytes r left fit listed later h (Ok x) e = begins r listed bytes fit x.0 x.1 e
by_answer bytes r left fit listed later h (Err Short) e = is_cut r listed bytes fit e
by_answer bytes r left fit listed later h (Err Outside) e = later (next_left bytes r left e h)

answered_from : (bytes : List ℕ) → AreBytes bytes → (left : List Row) → IsLeft bytes left → Answers (answer_from left bytes) bytes
unfolding answer_from
answered_from bytes fit [] h =
    is_outside bytes (λ k lt d. missed bytes (get_or rows k d)
    (h.others (get_or rows k d) (k, lt, get_or_default rows k (get_or rows k d) d lt)))
answered_from bytes fit (r ∷ left) h =
    by_answer bytes r left fit (h.within r (first_of r left)) (answered_from bytes fit left) h (parts_at r.form bytes) refl

pub answered : (bytes : List ℕ) → AreBytes bytes → Answers (decoded bytes) bytes
unfolding decoded
answered bytes fit = answered_from bytes fit rows (record { within = λ r c. c; others = λ r c. inl c })

one_answer : (a b : Decoded) (bytes : List ℕ) → Answers a bytes → Answers b bytes → a ≡ b
one_answer (answer.Insn insn n) b bytes h k = sym ((exactly_insn b bytes k insn n).1 h)
one_answer answer.Short b bytes h k = sym ((exactly_short b bytes k).1 h)
one_answer answer.Outside b bytes h k = sym ((exactly_outside b bytes k).1 h)

pub exact : (a : Decoded) (bytes : List ℕ) → AreBytes bytes → Answers a bytes → a ≡ decoded bytes
exact a bytes fit h = one_answer a (decoded bytes) bytes h (answered bytes fit)

-- a row that reads is after one that meets a wrong byte
later : (bytes : List ℕ) (r s : Row) (left : List Row) (p : Parts) (rest : List ℕ) → parts_at r.form bytes ≡ Ok (p, rest)
    → parts_at s.form bytes ≡ Err Outside → Contains (s ∷ left) r → Contains left r
later bytes r s left p rest e out c =
    elim (split bytes s r left out c.0 c.1 c.2) [
      | inl behind ↦ behind
      | inr wrong ↦ absurd (ok_not_outside (parts_at r.form bytes) p rest e wrong)
    ]

-- the row that reads the bytes gives the answer
found : (bytes : List ℕ) (r : Row) (listed : Contains rows r) (p : Parts) (rest : List ℕ) → parts_at r.form bytes ≡ Ok (p, rest)
    → (left : List Row) → ((s : Row) → Contains left s → Contains rows s) → Contains left r
    → answer_from left bytes ≡ answer.Insn (insn_of r p) (length bytes - length rest)
unfolding answer_from
found bytes r listed p rest e [] within c = absurd (no_more r c)
found bytes r listed p rest e (s ∷ left) within c =
    elim (one_or_outside (λ (t : Row). t.form) rows rows_table r s listed (within s (first_of s left)) bytes p rest e) [
      | inl same ↦ ap (by_row s bytes (answer_from left bytes)) (ap (λ (t : Row). parts_at t.form bytes) (sym same) ∙ e)
          ∙ ap (λ (t : Row). answer.Insn (insn_of t p) (length bytes - length rest)) (sym same)
      | inr out ↦ ap (by_row s bytes (answer_from left bytes)) out
          ∙ found bytes r listed p rest e left (λ t d. within t (behind_first s t left d)) (later bytes r s left p rest e out c)
    ]

pub decoded_back : (bytes more : List ℕ) (insn : Insn) → Spells bytes insn → decoded (bytes ++ more) ≡ answer.Insn insn (length bytes)
unfolding decoded
decoded_back bytes more insn s =
    let e = row_follows s.row s.listed bytes s.parts [] s.by_row.read more in
    let n : length (bytes ++ more) - length more ≡ length bytes = omega (arith, length-append bytes more) in
    found (bytes ++ more) s.row s.listed s.parts more e rows (λ t c. c) s.listed
    ∙ ap (answer.Insn (insn_of s.row s.parts)) n
    ∙ ap (λ (i : Insn). answer.Insn i (length bytes)) (sym s.by_row.means)
