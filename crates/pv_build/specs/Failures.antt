-- How a load that failed ends the work.
use Rattle.std.specs.Prelude.{◌≡◌, ℕ, Result, Ok, Err}
use Rattle.pv_io.specs.declared.files.Files as disk
use Rattle.pv_build.specs.declared.halt.Halt.{Halt}
use Rattle.pv_build.specs.declared.halt.Halt.TheVariants as halt

-- A load that failed ends the work as a read fault: where the work is refused, or memory isn't found, the count of load faults
-- is as before.
abbrev pub NoneFailed : ℕ → ℕ → Halt → Type 0
NoneFailed before now (halt.Refused line) = now ≡ before
NoneFailed before now halt.ReadFault = Unit {0}
NoneFailed before now halt.Memory = now ≡ before

-- and so it is where the work goes on
abbrev pub NoneFailedIn : {F T : Type 0} → disk.Ghosts F → F → F → Result T Halt → Type 0
NoneFailedIn f old new (Ok found) = f.load_faults new ≡ f.load_faults old
NoneFailedIn f old new (Err h) = NoneFailed (f.load_faults old) (f.load_faults new) h
