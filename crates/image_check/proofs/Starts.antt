-- Flags of the offsets at which instructions stand.
use Rattle.std.proofs.Common.{◌≡◌, ℕ, ◌<◌, ◌≤◌, Bool, true, false, ◌||◌, List, [], ◌∷◌, ◌++◌, length, nat_lt, refl, sym, ap, subst, ◌∙◌, arith}
use Rattle.std.specs.Prelude.{IsTrue, ◌↔◌, ◌==◌, slice_set, slice_index_or, replicate}
use Rattle.std.specs.List.{Contains}
use Rattle.std.proofs.lemmas.Bool.Decides.{nat_tests}
use Rattle.std.proofs.lemmas.Grind.{common_steps}
use Rattle.std.proofs.lemmas.List.{get_or_read}
use Rattle.std.proofs.lemmas.List.Folds.{list_any-append, Any-from_list_any, list_any-from_Any}
use Rattle.std.proofs.lemmas.Bool.{eq-eqb}
use Rattle.guest_ram.specs.Among.{is_among}
use Rattle.image_check.specs.declared.piece.Piece.{Piece}
use Rattle.image_check.specs.Pieces.{is_piece_start}

pub no_marks : (n i : ℕ) → slice_index_or (replicate n false) i false ≡ false
no_marks n i = grind (arith, common_steps)

one_start : (p : Piece) (i : ℕ) → is_piece_start (p ∷ []) i ≡ (i == p.at)
one_start p i = grind (arith, common_steps)

marked_now : (starts : List Bool) (at i : ℕ) → at < length starts → slice_index_or (slice_set starts at true) i false
    ≡ (slice_index_or starts i false || (i == at))
marked_now starts at i lt = grind (arith, common_steps, nat_tests)

pub mark_more : (starts : List Bool) (ps : List Piece) (p : Piece) (at i : ℕ) → p.at ≡ at → at < length starts
    → slice_index_or starts i false ≡ is_piece_start ps i → slice_index_or (slice_set starts at true) i false
    ≡ is_piece_start (ps ++ p ∷ []) i
mark_more starts ps p at i e lt so_far =
    marked_now starts at i lt
    ∙ ap (λ b. b || (i == at)) so_far
    ∙ ap (λ k. is_piece_start ps i || (i == k)) (sym e)
    ∙ ap (λ b. is_piece_start ps i || b) (sym (one_start p i))
    ∙ sym (list_any-append (λ (q : Piece). i == q.at) ps (p ∷ []))

equal_numbers : (k at : ℕ) → (at == k) ≡ true → k ≡ at
equal_numbers k at e = grind (arith, nat_tests)

pub contains_any : (starts : List ℕ) (at : ℕ) → Contains starts at → is_among at starts ≡ true
contains_any starts at h = list_any-from_Any (λ (k : ℕ). at == k) starts (h.0, at, h.1, h.2, eq-eqb at at refl)

pub any_contains : (starts : List ℕ) (at : ℕ) → is_among at starts ≡ true → Contains starts at
any_contains starts at h =
    let any = Any-from_list_any (λ (k : ℕ). at == k) starts h in
    let e = equal_numbers any.1 at any.4 in
    subst (Contains starts) e (any.0, any.2, any.3)

pub start_flag : (starts : List ℕ) (at : ℕ) (b : Bool) → b ≡ is_among at starts → IsTrue b ↔ Contains starts at
start_flag starts at b e = ((λ t. any_contains starts at (sym e ∙ t)), (λ h. e ∙ contains_any starts at h))

pub read_flag : (flags : List Bool) (at : ℕ) (b : Bool) → at < length flags → b ≡ slice_index_or flags at b
    → b ≡ slice_index_or flags at false
read_flag flags at b lt e = get_or_read flags at b lt e false

pub past_flag : (flags : List Bool) (at : ℕ) → length flags ≤ at → nat_lt at (length flags) ≡ slice_index_or flags at false
past_flag flags at le = grind (arith, common_steps, nat_tests)
