-- A text grows number by number.
use Rattle.std.proofs.Common.{◌≡◌, ℕ, ◌+◌, List, [], ◌∷◌, ◌++◌, refl, ap, sym, ◌∙◌, add-one, arith, append_assoc, map, append-nil, codes}
use Rattle.std.specs.List.{flat_map, range_with_len}
use Rattle.std.proofs.lemmas.Grind.{flat_map-append}
use Rattle.std.proofs.lemmas.List.FromFn.{map-range_with_len_more}
use Rattle.kernel_gen.specs.Kernels.{next, x_of, lines_of, body, text_of, head, kernel_text}

pub x_more : (number i : ℕ) → x_of number (i + 1) ≡ next (x_of number i)
unfolding x_of
x_more number i = rw add-one refl

pub body_more : (number n : ℕ) → body number (n + 1) ≡ body number n ++ lines_of (x_of number (n + 1))
unfolding body
body_more number n =
    ap (flat_map lines_of) (map-range_with_len_more (x_of number) 1 n (n + 1) (omega arith))
    ∙ flat_map-append lines_of (map (x_of number) (range_with_len 1 n)) (x_of number (n + 1) ∷ [])
    ∙ ap (λ ys. body number n ++ ys) (append-nil (lines_of (x_of number (n + 1))))

pub texts_join : (xs ys : List (List ℕ)) → text_of (xs ++ ys) ≡ text_of xs ++ text_of ys
unfolding text_of
texts_join xs ys = flat_map-append _ xs ys

-- the head and no number
pub text_none : (number : ℕ) → text_of (head ++ body number 0) ≡ text_of head
unfolding body
text_none number = refl

-- the lines of one more number after those of the others
pub text_more : (number n : ℕ) (old new : List ℕ) →
    old ≡ text_of (head ++ body number n) → new ≡ old ++ text_of (lines_of (next (x_of number n))) →
    new ≡ text_of (head ++ body number (n + 1))
text_more number n old new is_old is_new =
    is_new
    ∙ ap (λ t. t ++ text_of (lines_of (next (x_of number n)))) is_old
    ∙ sym (texts_join (head ++ body number n) (lines_of (next (x_of number n))))
    ∙ ap text_of (append_assoc head (body number n) (lines_of (next (x_of number n))))
    ∙ ap (λ x. text_of (head ++ (body number n ++ lines_of x))) (sym (x_more number n))
    ∙ ap (λ b. text_of (head ++ b)) (sym (body_more number n))

-- and the last line
pub text_ends : (number : ℕ) (old new : List ℕ) →
    old ≡ text_of (head ++ body number 1000) → new ≡ old ++ codes "jmp top\n" → new ≡ kernel_text number
unfolding kernel_text text_of
text_ends number old new is_old is_new =
    is_new
    ∙ ap (λ t. t ++ codes "jmp top\n") is_old
    ∙ sym (texts_join (head ++ body number 1000) (codes "jmp top" ∷ []))
    ∙ ap text_of (append_assoc head (body number 1000) (codes "jmp top" ∷ []))
