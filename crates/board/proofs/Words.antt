-- A line of more words than an event has.
use Rattle.std.proofs.Common.{◌≡◌, ℕ, ◌+◌, ◌<◌, List, [], ◌∷◌, length, drop, take, refl, ap, ◌∙◌, arith, Err}
use Rattle.text_lines.specs.Cuts.{cut_at}
use Rattle.text_lines.proofs.Parts.{some_part}
use Rattle.board.specs.Texts.{event_in}
use Rattle.board.specs.declared.fault.ScriptCause.TheVariants.{NoForm}

event_of_four : (a b c : List ℕ) (rest : List (List ℕ)) → 0 < length rest → event_in (a ∷ b ∷ c ∷ rest) ≡ Err NoForm
unfolding event_in
event_of_four a b c [] h = absurd (omega arith)
event_of_four a b c (d ∷ rest) h = refl

-- a line of four words or more
pub four_words : (line after_step value : List ℕ) (i j k : ℕ) → cut_at 32 line ≡ take i line ∷ cut_at 32 after_step →
    cut_at 32 after_step ≡ take j after_step ∷ cut_at 32 value →
    cut_at 32 value ≡ take k value ∷ cut_at 32 (drop (k + 1) value) → event_in (cut_at 32 line) ≡ Err NoForm
four_words line after_step value i j k first second third =
    ap event_in (first ∙ ap (λ (p : List (List ℕ)). take i line ∷ p) (second ∙ ap (λ (p : List (List ℕ)). take j after_step ∷ p) third))
    ∙ event_of_four (take i line) (take j after_step) (take k value) (cut_at 32 (drop (k + 1) value)) (some_part 32 (drop (k + 1) value))
