-- The bytes of keys.
use Rattle.std.specs.Prelude.{ℕ, List, map}
use Rattle.std.specs.Global.{Vec}

abbrev pub key_bytes : List (Vec ℕ) → List (List ℕ)
key_bytes ks = map (λ k. k.items) ks
