-- Tables of names, and what may be missing.
use Rattle.std.specs.Prelude.{Option, option_and_then}
pub use Rattle.asm_source.specs.Tables.{Table, found}

infixl 10 ◌>>=◌
abbrev pub ◌>>=◌ : {A B : Type 0} → Option A → (A → Option B) → Option B
o >>= f = option_and_then f o
