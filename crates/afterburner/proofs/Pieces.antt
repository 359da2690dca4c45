-- What is made of a list piece by piece, one piece more.
use Rattle.std.proofs.Common.{◌≡◌, ◌<◌, ◌+◌, ℕ, List, [], ◌∷◌, ◌++◌, length, take, get_or, sym, ap, ◌∙◌}
use Rattle.std.specs.List.{flat_map}
use Rattle.std.proofs.lemmas.List.{take_more, flat_map_more}

pub one_more : {X : Type 0} (f : X → List ℕ) (out before after piece : List ℕ) (xs : List X) (i : ℕ) (x : X)
    → i < length xs → x ≡ get_or xs i x → piece ≡ f x → before ≡ out ++ flat_map f (take i xs) → after ≡ before ++ piece
    → after ≡ out ++ flat_map f (take (i + 1) xs)
one_more f out before after piece xs i x lt is p b h =
    let t : take (i + 1) xs ≡ take i xs ++ x ∷ [] = take_more xs i x lt ∙ ap (λ y. take i xs ++ y ∷ []) (sym is) in
    rw (h, p, b, t) (flat_map_more f out (take i xs) x)
