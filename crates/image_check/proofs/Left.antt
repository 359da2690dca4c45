-- Going through the instructions that are left of a text.
use Rattle.std.proofs.Common.{◌≡◌, ℕ, ◌+◌, ◌≤◌, List, [], ◌∷◌, ◌++◌, length, Some, None, refl, ap, subst, ◌∙◌, arith}
use Rattle.std.proofs.lemmas.List.{drop_all}
use Rattle.ia32_decode.specs.Decoding.{decoded}
use Rattle.ia32_decode.specs.declared.answer.Decoded.{Decoded}
use Rattle.ia32_decode.specs.declared.answer.Decoded.TheVariants as answer
use Rattle.image_check.specs.declared.piece.Piece.{Piece}
use Rattle.image_check.specs.Sweep.{swept_at}
use Rattle.image_check.specs.Stops.{there_as, piece_there, AreBetween, AreLeft}
use Rattle.image_check.proofs.Begun.{begun_has_byte}
use Rattle.image_check.proofs.SweepLaws.{begun}

nothing : (at : ℕ) (d : Decoded) → decoded [] ≡ d → there_as (swept_at at d) ≡ None
nothing at (answer.Insn insn n) e =
    let first = begun [] insn n tt e in
    let some = begun_has_byte [] insn n first in
    let within = first.within in
    absurd (omega (arith, some, within))
nothing at answer.Short e = refl
nothing at answer.Outside e = refl

-- past the end no instruction stands
pub no_more : (text : List ℕ) (at : ℕ) → length text ≤ at → piece_there text at ≡ None
no_more text at le = ap (λ bytes. there_as (swept_at at (decoded bytes))) (drop_all at text le) ∙ nothing at (decoded []) refl

-- one more instruction at the end
pub between_more : (text : List ℕ) (from : ℕ) (ps : List Piece) (at : ℕ) (p : Piece) → AreBetween text from ps at
    → piece_there text at ≡ Some p → AreBetween text from (ps ++ p ∷ []) (at + p.len)
between_more text from [] at p e there = (ap (piece_there text) e ∙ there, ap (λ k. k + p.len) e)
between_more text from (q ∷ ps) at p b there = (b.0, between_more text (from + q.len) ps at p b.1 there)

-- The instruction that stands at an offset is the first of those that are left there.
pub record Next (text : List ℕ) (at : ℕ) (rest : List Piece) (p : Piece) : Type 0 where
  pub more : List Piece
  pub is : rest ≡ p ∷ more
  pub left : AreLeft text (at + p.len) more

pub next_is : (text : List ℕ) (at : ℕ) (rest : List Piece) (p : Piece) → AreLeft text at rest → piece_there text at ≡ Some p
    → Next text at rest p
next_is text at [] p e there =
    let none = no_more text at (omega (arith, e)) in
    absurd cc
next_is text at (q ∷ more) p b there =
    let same : q ≡ p = cc b.0 in
    record { more = more; is = ap (λ (r : Piece). r ∷ more) same; left = subst (λ (r : Piece). AreLeft text (at + r.len) more) same b.1 }

pub none_left : (text : List ℕ) (at : ℕ) (rest : List Piece) → AreLeft text at rest → piece_there text at ≡ None → rest ≡ []
none_left text at [] e there = refl
none_left text at (q ∷ more) b there =
    let first = b.0 in
    absurd cc
