-- What a set of keys says of their bytes.
use Rattle.std.proofs.Common.{◌≡◌, ◌≤◌, ◌+◌, ℕ, Bool, true, false, List, [], ◌∷◌, ◌++◌, length, Some, None, refl, ap, ◌∙◌, cond, arith}
use Rattle.std.specs.Prelude.{◌||◌, not}
use Rattle.std.specs.List.{list_any, position, position_or_len}
use Rattle.std.specs.Str.{bytes_eq}
use Rattle.std.specs.Global.{Vec}
use Rattle.indexmap.specs.IndexSet.{insert_key}
use Rattle.asm_source.specs.Keys.{key_bytes}
use Rattle.asm_source.specs.Names.{holds, added, name_number}

pub any_key : (name : List ℕ) (ks : List (Vec ℕ)) → list_any (λ k. bytes_eq name k.items) ks ≡ holds (key_bytes ks) name
any_key name [] = refl
any_key name (k ∷ ks) = ap (λ (b : Bool). bytes_eq name k.items || b) (any_key name ks)

keys_end : (ks : List (Vec ℕ)) (k : Vec ℕ) → key_bytes (ks ++ k ∷ []) ≡ key_bytes ks ++ k.items ∷ []
keys_end [] k = refl
keys_end (x ∷ ks) k = ap (λ (ns : List (List ℕ)). x.items ∷ ns) (keys_end ks k)

pub key_added : (name : List ℕ) (ks new : List (Vec ℕ)) (k : Vec ℕ) → k.items ≡ name → holds (key_bytes ks) name ≡ false
    → new ≡ insert_key (λ a b. bytes_eq a.items b.items) ks k → key_bytes new ≡ added (key_bytes ks) name
key_added name ks new k e h n =
    let found : list_any (λ x. bytes_eq k.items x.items) ks ≡ false = any_key k.items ks ∙ (ap (holds (key_bytes ks)) e ∙ h) in
    ap key_bytes n ∙ rw (found, h) (keys_end ks k ∙ ap (λ (m : List ℕ). key_bytes ks ++ m ∷ []) e)

pub key_number : (name : List ℕ) (ks : List (Vec ℕ)) → position_or_len (λ k. bytes_eq name k.items) ks ≡ name_number (key_bytes ks) name
key_number name [] = refl
key_number name (k ∷ ks) = ap (λ n. cond (not (bytes_eq name k.items)) (1 + n) 0) (key_number name ks)

pub position_within : {X : Type 0} (p : X → Bool) (xs : List X) → position_or_len p xs ≤ length xs
position_within p [] = omega arith
position_within p (x ∷ xs) = elim (p x) as (λ b. cond (not b) (1 + position_or_len p xs) 0 ≤ length (x ∷ xs))
    [ true ↦ omega arith | false ↦ let h = position_within p xs in omega arith ]

pub found_number : (name : List ℕ) (ks : List (Vec ℕ)) (n : ℕ) → Some n ≡ position (λ k. bytes_eq name k.items) ks
    → n ≡ name_number (key_bytes ks) name
found_number name ks n e = grind (arith, key_number name ks)

pub missing_number : (name : List ℕ) (ks : List (Vec ℕ)) → position (λ k. bytes_eq name k.items) ks ≡ None
    → length ks ≡ name_number (key_bytes ks) name
missing_number name ks e = grind (arith, key_number name ks, position_within (λ (k : Vec ℕ). bytes_eq name k.items) ks)
