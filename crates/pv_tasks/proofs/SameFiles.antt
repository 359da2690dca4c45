-- A name holds one file.
use Rattle.std.proofs.Common.{◌≡◌, ℕ, List, Some}
use Rattle.pv_io.specs.Files.{FileMap, Holds}

pub same_file : (told : FileMap) (name a b : List ℕ) → Holds (Some told) name a → Holds (Some told) name b → a ≡ b
same_file told name a b h k = cc
