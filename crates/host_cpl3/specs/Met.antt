-- The work of one instruction, each part of which gives a value, or ends the work at an exit.
use Rattle.std.specs.Prelude.{Bool, Result, Ok, Err, if◌then◌else◌}
use Rattle.host_cpl3.specs.declared.exit.Exit.{Exit}

abbrev pub Met : Type 0 → Type 0
Met A = Result A Exit

infixl 10 ◌>>=◌
abbrev pub ◌>>=◌ : {A B : Type 0} → Met A → (A → Met B) → Met B
Ok x >>= f = f x
Err exit >>= f = Err exit

abbrev pub gives : {A : Type 0} → A → Met A
gives x = Ok x

-- an exit unless the test holds
abbrev pub unless : Exit → Bool → Met (Unit {0})
unless exit test = if test then Ok tt else Err exit
