-- One byte more of a source.
use Rattle.std.proofs.Common.{◌≡◌, ℕ, ◌+◌, ◌<◌, ◌≤◌, List, [], ◌∷◌, ◌++◌, length, get_or, take, drop, Option, Some, None, Result, Ok, Err, refl, sym, subst, arith}
use Rattle.std.proofs.lemmas.List.{length-drop, length-take-le, nil_from_length, take_more, drop_more}
use Rattle.asm_lex.specs.declared.fault.SourceFault.{SourceFault}
use Rattle.asm_lex.specs.declared.token.Token.{Token}
use Rattle.asm_lex.specs.declared.machine.Mode.{Mode}
use Rattle.asm_lex.specs.Machine.{stepped, start_of}
use Rattle.asm_lex.specs.Words.{line_after}
use Rattle.asm_lex.specs.Readers.{Fits, Takes, ReadsTo}
use Rattle.asm_lex.proofs.Stepping.{FitsIn, sound}

fits_is : (seen : List ℕ) (n : ℕ) (t : Option Token) → length seen ≡ n → FitsIn n t → Fits seen t
fits_is seen n None e h = tt
fits_is seen n (Some t) e h = rw e h

seen_len : (source : List ℕ) (i : ℕ) → i < length source → length (take (i + 1) source) ≡ i + 1
seen_len source i lt = length-take-le (i + 1) source (omega (arith, lt))

pub fits_first : (source : List ℕ) (m : Mode) (i line b : ℕ) → i < length source → start_of m i ≤ i
    → Fits (take (i + 1) source) (stepped m i line b).first
fits_first source m i line b lt h = fits_is (take (i + 1) source) (i + 1) _ (seen_len source i lt) (sound m i line b h).first

pub fits_second : (source : List ℕ) (m : Mode) (i line b : ℕ) → i < length source → start_of m i ≤ i
    → Fits (take (i + 1) source) (stepped m i line b).second
fits_second source m i line b lt h = fits_is (take (i + 1) source) (i + 1) _ (seen_len source i lt) (sound m i line b h).second

module _ {R : Type 0} (takes : Takes R) where
  goes_one : (r s : R) (m n : Mode) (seen seen2 : List ℕ) (at line b : ℕ) (bs text : List ℕ) (result : Result (R × Mode) SourceFault)
      → seen2 ≡ seen ++ b ∷ [] → text ≡ b ∷ bs
      → takes r seen2 line (stepped m at line b) (Ok (s, n)) → ReadsTo takes s n seen2 (at + 1) (line_after line b) bs result
      → ReadsTo takes r m seen at line text result
  goes_one r s m n seen seen2 at line b bs text result e f h k =
      subst (λ (t : List ℕ). ReadsTo takes r m seen at line t result) (sym f) (
        Ok (s, n),
        subst (λ (x : List ℕ). takes r x line (stepped m at line b) (Ok (s, n))) e h,
        subst (λ (x : List ℕ). ReadsTo takes s n x (at + 1) (line_after line b) bs result) e k,
      )

  stops_one : (r : R) (m : Mode) (seen seen2 : List ℕ) (at line b : ℕ) (bs text : List ℕ) (fault : SourceFault) → seen2 ≡ seen
      ++ b ∷ [] → text ≡ b ∷ bs
      → takes r seen2 line (stepped m at line b) (Err fault) → ReadsTo takes r m seen at line text (Err fault)
  stops_one r m seen seen2 at line b bs text fault e f h =
      subst (λ (t : List ℕ). ReadsTo takes r m seen at line t (Err fault)) (sym f)
      (Err fault, subst (λ (x : List ℕ). takes r x line (stepped m at line b) (Err fault)) e h, refl)

  pub goes_at : (source : List ℕ) (r s : R) (m n : Mode) (i line : ℕ) (result : Result (R × Mode) SourceFault) → i < length source
      → takes r (take (i + 1) source) line (stepped m i line (get_or source i 0)) (Ok (s, n))
      → ReadsTo takes s n (take (i + 1) source) (i + 1) (line_after line (get_or source i 0)) (drop (i + 1) source) result
      → ReadsTo takes r m (take i source) i line (drop i source) result
  goes_at source r s m n i line result lt h k =
      goes_one r s m n (take i source) (take (i + 1) source) i line (get_or source i 0) (drop (i + 1) source) (drop i source) result
      (take_more source i 0 lt) (drop_more source i 0 lt) h k

  pub stops_at : (source : List ℕ) (r : R) (m : Mode) (i line : ℕ) (fault : SourceFault) → i < length source
      → takes r (take (i + 1) source) line (stepped m i line (get_or source i 0)) (Err fault)
      → ReadsTo takes r m (take i source) i line (drop i source) (Err fault)
  stops_at source r m i line fault lt h =
      stops_one r m (take i source) (take (i + 1) source) i line (get_or source i 0) (drop (i + 1) source) (drop i source) fault
      (take_more source i 0 lt) (drop_more source i 0 lt) h

  pub at_end : (source : List ℕ) (r : R) (m : Mode) (i line : ℕ) → length source ≤ i
      → ReadsTo takes r m (take i source) i line (drop i source) (Ok (r, m))
  at_end source r m i line le =
      let none : drop i source ≡ [] = nil_from_length (drop i source) (omega (arith, length-drop i source)) in
      subst (λ (t : List ℕ). ReadsTo takes r m (take i source) i line t (Ok (r, m))) (sym none) refl
