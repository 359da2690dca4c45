-- What `exec` leaves of an outcome, and which bytes it writes.
use Rattle.std.specs.Prelude.{◌≡◌, ℕ, ◌/◌}
use Rattle.ia32_types.specs.declared.flags.Regs.{Regs}
use Rattle.ia32_types.specs.Size.{width}
use Rattle.ia32_exec.specs.declared.outcome.Stores.{Stores}
use Rattle.ia32_exec.specs.declared.outcome.Stores.TheVariants.{Nothing, One, Eight}
use Rattle.ia32_exec.specs.declared.outcome.Outcome.{Outcome}
use Rattle.ia32_exec.specs.declared.outcome.Outcome.TheVariants as O
use Rattle.ia32_exec.specs.declared.outcome.Effect.{Effect}
use Rattle.ia32_exec.specs.declared.outcome.Effect.TheVariants as E
use Rattle.ia32_exec.specs.declared.access.Ranges.{Ranges}
use Rattle.ia32_exec.specs.Readable.{AreAll, Covers}

abbrev pub answer_of : Outcome → Effect
answer_of (O.Done r ws) = E.Next
answer_of (O.Raise v c) = E.Raise v c
answer_of (O.Stop s) = E.Stop s

-- where nothing was done the registers stay, and nothing is written
abbrev pub registers_of : Outcome → Regs → Regs
registers_of (O.Done r ws) old = r
registers_of _ old = old

abbrev pub stores_of : Outcome → Stores
stores_of (O.Done r ws) = ws
stores_of _ = Nothing

-- the memory is the same where nothing is written
abbrev pub IsKeptUnlessWritten : {M : Type 0} → Stores → M → M → Type 0
IsKeptUnlessWritten Nothing old new = new ≡ old
IsKeptUnlessWritten _ old new = Unit {0}

-- P holds at each byte that is written
abbrev pub AreStored : (ℕ → Type 0) → Stores → Type 0
AreStored P Nothing = Unit {0}
AreStored P (One w) = AreAll P w.at (width w.size / 8)
AreStored P (Eight at vs) = AreAll P at 32

-- the bytes that are read may be read, and those that are written may be written
pub record IsReady (readable writable : ℕ → Type 0) (x : Ranges) : Type 0 where
  pub read : Covers readable x.read
  pub modified : Covers readable x.write
  pub written : Covers writable x.write
