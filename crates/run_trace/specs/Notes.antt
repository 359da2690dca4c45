-- Notes of the translations that are lost before a step.
use Rattle.std.specs.Prelude.{ℕ}

pub data Note : Type 0 where
  emptied_at : (step : ℕ) → Note
  dropped_at : (step : ℕ) (page : ℕ) → Note
