-- That a function does what work on the processor and memory is.
use Rattle.std.specs.Prelude.{◌≡◌, Result, Ok, Err}
use Rattle.paging.specs.Space.{Space}
use Rattle.paging.specs.Work.{Outcome}
use Rattle.descriptors.specs.declared.cpu.Cpu.{Cpu}

-- a function returned as the work does, and left the processor and memory that the work gives
abbrev pub Leaves : {E : Type 0} → Result (Unit {0}) E → Cpu → Space → Outcome E Cpu → Type 0
Leaves (Ok done) cpu s outcome = outcome ≡ Ok (cpu, s)
Leaves (Err refusal) cpu s outcome = outcome ≡ Err (refusal, s)
