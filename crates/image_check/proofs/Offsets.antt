-- The offsets of a text's instructions, by the instructions and by what the check keeps of them.
use Rattle.std.proofs.Common.{◌≡◌, ℕ, ◌||◌, List, [], ◌∷◌, map, Result, Ok, Err, refl, sym, ap, ◌∙◌}
use Rattle.std.specs.Prelude.{◌==◌}
use Rattle.guest_ram.specs.Among.{is_among}
use Rattle.image_check.specs.declared.piece.Piece.{Piece}
use Rattle.image_check.specs.Sweep.{Swept, sweep, swept_or_none, starts_of}
use Rattle.image_check.specs.Pieces.{piece_of, pieces_of, pieces_in, is_piece_start}

pub swept_pieces : (text : List ℕ) (r : Result (List Swept) ℕ) (ps : List Piece) → pieces_of text r ≡ Ok ps → (swept : List Swept)
    × (r ≡ Ok swept) × (map piece_of swept ≡ ps)
swept_pieces text (Ok swept) ps e = (swept, refl, cc)
swept_pieces text (Err at) ps e = absurd cc

pub any_at : (swept : List Swept) (i : ℕ) → is_piece_start (map piece_of swept) i ≡ is_among i (map (λ (s : Swept). s.at) swept)
any_at [] i = refl
any_at (s ∷ swept) i = ap (λ b. (i == s.at) || b) (any_at swept i)

pub starts_are : (text : List ℕ) (swept : List Swept) → sweep text ≡ Ok swept → starts_of text ≡ map (λ (s : Swept). s.at) swept
unfolding starts_of
starts_are text swept e = ap (λ (r : Result (List Swept) ℕ). map (λ (s : Swept). s.at) (swept_or_none r)) e

-- the instructions of a text whose pieces are there
pub swept_in : (text : List ℕ) (ps : List Piece) → pieces_in text ≡ Ok ps → (swept : List Swept) × (sweep text ≡ Ok swept)
    × (map piece_of swept ≡ ps)
unfolding pieces_in
swept_in text ps e = swept_pieces text (sweep text) ps e

pub start_is : (text : List ℕ) (ps : List Piece) (i : ℕ) → pieces_in text ≡ Ok ps → is_piece_start ps i ≡ is_among i (starts_of text)
start_is text ps i e =
    let s = swept_in text ps e in
    ap (λ (qs : List Piece). is_piece_start qs i) (sym s.2) ∙ any_at s.0 i ∙ ap (is_among i) (sym (starts_are text s.0 s.1))
