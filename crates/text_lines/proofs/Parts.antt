-- Texts that are cut at a byte.
use Rattle.std.proofs.Common.{◌≡◌, ℕ, suc, ◌<◌, false, List, length, arith, inl, inr}
use Rattle.std.specs.Prelude.{◌==◌, position}
use Rattle.std.specs.List.{position_or_len}
use Rattle.std.proofs.lemmas.Bool.Decides.{leb_tells}
use Rattle.std.proofs.lemmas.List.Splits.{slice_split_first, slice_split_none, length-slice_split}
use Rattle.std.proofs.lemmas.List.Sums.{fails_before_first}
use Rattle.std.proofs.lemmas.List.Elements.{All-from_all_within}
use Rattle.text_lines.specs.Cuts.{cut_at, IsCut}

pub cut_is : (c : ℕ) (text : List ℕ) → IsCut c text (position (λ b. b == c) text)
cut_is c text = elim (leb_tells (suc (position_or_len (λ b. b == c) text)) (length text)) [
  | inl (is, within) ↦ rw is (within, slice_split_first (λ b. b == c) text 0 within)
  | inr (isnt, past) ↦ rw isnt (slice_split_none (λ b. b == c) text
      (All-from_all_within (λ (x : ℕ). (x == c) ≡ false) text (λ k d low high. fails_before_first (λ b. b == c) text k d (omega arith))))
]

-- there is always a first part
pub some_part : (c : ℕ) (text : List ℕ) → 0 < length (cut_at c text)
some_part c text = omega (arith, length-slice_split (λ b. b == c) text)
