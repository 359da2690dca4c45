-- Accesses to descriptors, gates and the TSS, for any way to refuse: a denied one ends the work.
use Rattle.std.specs.Prelude.{ℕ, ◌+◌, ◌%◌, ◌^◌, Bool, true, false, Option, Some, None, Ok, Err, ◌==◌}
use Rattle.ia32_types.specs.declared.size.Size.TheVariants.{Byte, Long}
use Rattle.ia32_types.specs.declared.stop.Stop as reason
use Rattle.paging.specs.declared.entry.Access.{Access}
use Rattle.paging.specs.declared.entry.Touch.{Touch}
use Rattle.paging.specs.declared.entry.Touch.TheVariants.{Ready, Fault, Stop}
use Rattle.paging.specs.Space.{Space}
use Rattle.paging.specs.Uses.{uses}
use Rattle.paging.specs.Work.{Outcome, Work, ◌>>=◌, gives, reads, writes}
use Rattle.descriptors.specs.declared.cpu.Cpu.{Cpu}
use Rattle.descriptors.specs.Segments.{slot}

-- what a denied access is refused with: a page fault, by its code and its address, and a stop
pub record Denials (E : Type 0) : Type 0 where
  pub fault : ℕ → ℕ → E
  pub stop : reason.Stop → E

abbrev pub met : {E : Type 0} → Denials E → Touch → Space → Outcome E (Unit {0})
met denials Ready s = Ok (tt, s)
met denials (Fault code at) s = Err (denials.fault code at, s)
met denials (Stop stop) s = Err (denials.stop stop, s)

-- a range is translated
unfoldable pub reaching : {E : Type 0} → Denials E → ℕ → ℕ → Access → Work E (Unit {0})
reaching denials at len access s = met denials (uses s at len access).0 (uses s at len access).1

-- an access of the processor's own, which has the supervisor's rights
abbrev pub by_processor : Bool → Access
by_processor write = record { write = write; user = false }

-- an access of the code that runs, with the rights of its level
abbrev pub by_level : Cpu → Bool → Access
by_level cpu write = record { write = write; user = cpu.cpl == 3 }

-- the two words of a descriptor or a gate
unfoldable pub pair_at : {E : Type 0} → Denials E → ℕ → Work E (ℕ × ℕ)
pair_at denials at = do
  _ ← reaching denials at 8 (by_processor false)
  low ← reads at Long
  high ← reads (at + 4) Long
  gives (low, high)

-- a byte of a descriptor made new
unfoldable pub byte_set : {E : Type 0} → Denials E → ℕ → ℕ → Work E (Unit {0})
byte_set denials at v = do
  _ ← reaching denials at 1 (by_processor true)
  writes at Byte v

-- a clear accessed flag is set by a write of byte 5
abbrev pub mark : {E : Type 0} → Denials E → Cpu → ℕ → Option ℕ → Work E (Unit {0})
mark denials cpu sel None = gives tt
mark denials cpu sel (Some v) = byte_set denials ((slot cpu sel + 5) % 2 ^ 32) v
