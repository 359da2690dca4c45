-- What functions return, by the definitions.
use Rattle.std.specs.Prelude.{◌≡◌, ℕ, Result, Ok, Err}
use Rattle.afterburner.specs.declared.fault.BurnCause.{BurnCause}
use Rattle.afterburner.specs.declared.fault.BurnFault.{BurnFault}
use Rattle.afterburner.specs.declared.fault.BurnFault.TheVariants as faults
use Rattle.afterburner.specs.declared.fault.ItemFault.{ItemFault}
use Rattle.afterburner.specs.declared.fault.ItemFault.TheVariants as stop
use Rattle.afterburner.specs.ObjectSoFar.{ObjectSoFar}
use Rattle.afterburner.specs.Burnt.{Fault}

-- What was returned is what is meant, unless memory ran out.
abbrev pub Fails : {A : Type 0} → BurnFault → Result A Fault → Type 0
Fails faults.Memory r = Unit {0}
Fails (faults.At line c) r = r ≡ Err (record { line = line; cause = c })

abbrev pub Gives : {A : Type 0} → Result A BurnFault → Result A Fault → Type 0
Gives (Ok x) r = r ≡ Ok x
Gives (Err f) r = Fails f r

-- the fault of a stop at an item
abbrev pub FaultOf : ℕ → ItemFault → BurnFault → Type 0
FaultOf line (stop.Cause c) f = f ≡ faults.At line c
FaultOf line stop.Memory f = f ≡ faults.Memory

-- What a step of the work returned is what it makes, unless memory ran out.
abbrev pub Makes : ObjectSoFar → Result (Unit {0}) ItemFault → Result ObjectSoFar BurnCause → Type 0
Makes new (Ok u) r = r ≡ Ok new
Makes new (Err (stop.Cause c)) r = r ≡ Err c
Makes new (Err stop.Memory) r = Unit {0}
