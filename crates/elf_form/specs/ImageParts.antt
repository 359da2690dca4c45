-- An image as contracts see it: the record of its fields, with a list in place of each vector.
use Rattle.std.specs.Prelude.{ℕ, List}

pub record ImageParts : Type 0 where
  pub text : List ℕ
  pub init : List ℕ
  pub bss : ℕ
  pub entry : ℕ
  pub text_at : ℕ
  pub init_at : ℕ
  pub sites : List ℕ
