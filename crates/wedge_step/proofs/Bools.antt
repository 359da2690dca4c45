-- Tests of both, of either and of none.
use Rattle.std.proofs.Common.{◌≡◌, Bool, true, false, ◌||◌, not, ◌⊎◌, inl, inr, refl, sym, ◌∙◌}
pub use Rattle.std.proofs.lemmas.Bool.{and_parts as both}
pub use Rattle.std.proofs.lemmas.Option.{none-some as none_some}
pub use Rattle.plain_laws.proofs.Options.{none_is as none_of}
pub use Rattle.std.proofs.Math.Bool.{or-true as or_true, and-false as and_false}

pub either : (a b : Bool) → (a || b) ≡ true → (a ≡ true) ⊎ (b ≡ true)
either true b h = inl refl
either false b h = inr h

pub is_not : (a : Bool) → not a ≡ true → a ≡ false
is_not false h = refl
is_not true h = absurd cc

pub clash : (b : Bool) → b ≡ true → b ≡ false → ⊥
clash b t f = let g : true ≡ false = sym t ∙ f in cc

pub not_true : (b : Bool) → (b ≡ true → ⊥) → b ≡ false
not_true true h = absurd (h refl)
not_true false h = refl

pub not_false : (b : Bool) → (b ≡ false → ⊥) → b ≡ true
not_false true h = refl
not_false false h = absurd (h refl)

pub or_false : (a b : Bool) → a ≡ false → (a || b) ≡ b
or_false true b e = absurd (let f : true ≡ false = e in cc)
or_false false b e = refl
