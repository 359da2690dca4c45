-- What was read up to one byte more than a limit, and isn't more than the limit, is all.
use Rattle.std.proofs.Common.{◌≡◌, ℕ, ◌+◌, ◌≤◌, List, [], ◌++◌, Option, Some, None, IfSome, length, take, min, ap, subst, ◌∙◌, arith}
use Rattle.std.proofs.lemmas.List.{take_all, length-take}
use Rattle.std.specs.Option.{option_map}

pub whole : (known : Option (List ℕ)) (limit : ℕ) (bytes : List ℕ) →
    IfSome (option_map (λ rest. take (limit + 1) rest) known) (λ rest. bytes ≡ [] ++ rest) → length bytes ≤ limit →
    IfSome known (λ rest. bytes ≡ rest)
whole None limit bytes is short = tt
whole (Some rest) limit bytes is short =
    let least : length bytes ≡ min (limit + 1) (length rest) = ap length is ∙ length-take (limit + 1) rest in
    let fits : length rest ≤ limit + 1 = grind (arith, least, short) in
    is ∙ take_all (limit + 1) rest fits

pub whole_of : (known known' : Option (List ℕ)) (limit n : ℕ) (bytes old : List ℕ) → known' ≡ known → n ≡ limit + 1 →
    old ≡ [] → IfSome (option_map (take n) known') (λ rest. bytes ≡ old ++ rest) → length bytes ≤ limit →
    IfSome known (λ rest. bytes ≡ rest)
whole_of known known' limit n bytes old is_known is_n is_old is short =
    let at : Option (List ℕ) → ℕ → List ℕ → Type 0 = λ k n old. IfSome (option_map (take n) k) (λ rest. bytes ≡ old ++ rest) in
    whole known limit bytes
    (subst (λ (o : List ℕ). at known (limit + 1) o) is_old
    (subst (λ (n : ℕ). at known n old) is_n (subst (λ (k : Option (List ℕ)). at k n old) is_known is))) short
