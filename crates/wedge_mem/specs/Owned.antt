-- Parts of what is stated of a keeper.
use Rattle.std.specs.Prelude.{ℕ, List}
use Rattle.std.proofs.Math.Logic.{∥∥₁_elim, ∥∥₁_prop}
use Rattle.std.proofs.lemmas.Grind.{merely}
use Rattle.frame_pool.specs.Held.{Owns}
use Rattle.frame_pool.specs.declared.Pool.{Pool}
use Rattle.frame_pool.proofs.Props.{Owns-prop}

module _ {A : Type 0} {p : Pool} {m fs : List ℕ} where
  pub first : ∥ (∥ A ∥₁) × Owns p m fs ∥₁ → ∥ A ∥₁
  first s = ∥∥₁_elim s ∥∥₁_prop (λ x. x.0)

  pub owns : ∥ (∥ A ∥₁) × Owns p m fs ∥₁ → Owns p m fs
  owns s = ∥∥₁_elim s (Owns-prop p m fs) (λ x. x.1)

  pub both : ∥ A ∥₁ → Owns p m fs → ∥ (∥ A ∥₁) × Owns p m fs ∥₁
  both a o = merely (a, o)
