-- A line of more words than a slice has.
use Rattle.std.proofs.Common.{◌≡◌, ℕ, ◌+◌, ◌<◌, List, [], ◌∷◌, length, take, drop, refl, ap, ◌∙◌, arith, Err}
use Rattle.text_lines.specs.Cuts.{cut_at}
use Rattle.text_lines.proofs.Parts.{some_part}
use Rattle.guest_sched.specs.Texts.{slice_in}
use Rattle.guest_sched.specs.declared.fault.ScheduleCause.TheVariants.{NoForm}

slice_of_three : (kernels : ℕ) (a b : List ℕ) (rest : List (List ℕ)) → 0 < length rest → slice_in kernels (a ∷ b ∷ rest) ≡ Err NoForm
unfolding slice_in
slice_of_three kernels a b [] h = absurd (omega arith)
slice_of_three kernels a b (c ∷ rest) h = refl

-- a line of three words or more
pub three_words : (kernels : ℕ) (line steps : List ℕ) (i j : ℕ) → cut_at 32 line ≡ take i line ∷ cut_at 32 steps →
    cut_at 32 steps ≡ take j steps ∷ cut_at 32 (drop (j + 1) steps) → slice_in kernels (cut_at 32 line) ≡ Err NoForm
three_words kernels line steps i j first second =
    ap (slice_in kernels) (first ∙ ap (λ (p : List (List ℕ)). take i line ∷ p) second)
    ∙ slice_of_three kernels (take i line) (take j steps) (cut_at 32 (drop (j + 1) steps)) (some_part 32 (drop (j + 1) steps))
