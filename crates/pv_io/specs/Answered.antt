-- What an answer of files says: what a load has read, that a name is missing, and that a failure was counted.
use Rattle.std.specs.Prelude.{◌≡◌, ℕ, ◌≤◌, List, ◌++◌, Option, Some, None, Result, IsErrOf}
use Rattle.pv_io.specs.declared.answer.IoAnswer.{IoAnswer}
use Rattle.pv_io.specs.declared.answer.IoAnswer.TheVariants.{Failed, Memory}
use Rattle.pv_io.specs.Causes.{Rose}
use Rattle.pv_io.specs.Files.{FileMap, Holds}

-- what a load has read: the bytes that the name holds, after what was there
abbrev pub Loads : Option FileMap → List ℕ → List ℕ → List ℕ → Type 0
Loads files name old new = (bytes : List ℕ) × (new ≡ old ++ bytes) × Holds files name bytes

-- the files are told, and the name is none of them
abbrev pub IsMissing : Option FileMap → List ℕ → Type 0
IsMissing None name = ⊥
IsMissing (Some files) name = files name ≡ None

-- The count never falls, a failure is answered only where it rose, and where memory isn't found it is as it was.
pub record HasCause {T : Type 0} (before now : ℕ) (result : Result T IoAnswer) : Type 0 where
  pub later : before ≤ now
  pub failed : IsErrOf result Failed → Rose before now
  pub memory : IsErrOf result Memory → now ≡ before
