-- How a fault of the files or of the sink ends the work.
use Rattle.std.proofs.Common.{◌≡◌, ◌≢◌, ◌⊎◌, inl, inr, ℕ, List, Option, Result, Ok, Err, refl, ◌∙◌}
use Rattle.pv_io.specs.declared.files.Files as disk
use Rattle.pv_io.specs.declared.sink.Sink as sink
use Rattle.image_load.specs.declared.fault.RunFault.{RunFault}
use Rattle.image_load.specs.declared.fault.RunFault.TheVariants as fault
use Rattle.run_trace.specs.declared.items.Ended.{Ended}
use Rattle.pv_build.specs.Lines.{too_small_line}
use Rattle.pv_build.specs.Failures.{NoneFailed}
use Rattle.pv_build.specs.Telling.{Says, Whole, Cut, Ends, ToldAs}
use Rattle.pv_build.specs.declared.halt.Halt.{Halt}
use Rattle.pv_build.specs.declared.halt.Halt.TheVariants as halt
use Rattle.pv_build.specs.declared.status.Status.{Status}
use Rattle.pv_build.specs.declared.status.Status.TheVariants as status
use Rattle.pv_tasks.specs.Faulting.{PutsEnd, FaultsEnd}

-- ---- of the sink alone

-- no put failed, or none but that which ended the work
pub puts_since : (before mid now : ℕ) (st : Status) → (mid ≡ before) ⊎ (st ≡ status.WriteFault) → PutsEnd mid now st → PutsEnd before now st
puts_since before mid now st (inl same) h = λ write. h write ∙ same
puts_since before mid now st (inr is) h = λ write. absurd (write is)

-- a text was printed
pub puts_said : (text : List ℕ) (meant : Status) (old new : Option (List ℕ)) (before now : ℕ) (st : Status)
    → Says text meant old new before now st → PutsEnd before now st
puts_said text meant old new before now st (Whole is appends same) = λ write. same
puts_said text meant old new before now st (Cut is front rose) = λ write. absurd (write is)

-- a run's answer was reported
pub puts_told : (r : Result Ended RunFault) (old new : Option (List ℕ)) (before now : ℕ) (st : Status) → ToldAs r old new before now st
    → PutsEnd before now st
puts_told (Ok ended) old new before now st told = λ write. told.2
puts_told (Err fault.Write) old new before now st told = λ write. told.2
puts_told (Err (fault.TooSmall small)) old new before now st (inl said) =
    puts_said (too_small_line small.need small.have) status.Refused old new before now st said
puts_told (Err (fault.TooSmall small)) old new before now st (inr none) = λ write. none.2
puts_told (Err fault.Memory) old new before now st told = λ write. told.2

-- work that has ended with nothing stored or printed
pub puts_ended : (h : Halt) (old new : Option (List ℕ)) (before now : ℕ) (st : Status) → Ends h old new before now st
    → PutsEnd before now st
puts_ended (halt.Refused line) old new before now st ends = puts_said line status.Refused old new before now st ends
puts_ended halt.ReadFault old new before now st ends = λ write. ends.2
puts_ended halt.Memory old new before now st ends = λ write. ends.2

-- ---- of the files and the sink

-- neither count of the files has risen
pub ends_same : {F S : Type 0} (f : disk.Ghosts F) (s : sink.Ghosts S) (a b : F) (out out2 : S) (st : Status)
    → f.load_faults b ≡ f.load_faults a → f.store_faults b ≡ f.store_faults a
    → PutsEnd (s.faults out) (s.faults out2) st → FaultsEnd f s (a, b) (out, out2) st
ends_same f s a b out out2 st loads stores puts = record { loads = λ read. loads; stores = λ write. stores; puts = puts }

-- the files are as they were
pub ends_none : {F S : Type 0} (f : disk.Ghosts F) (s : sink.Ghosts S) (a : F) (out out2 : S) (st : Status)
    → PutsEnd (s.faults out) (s.faults out2) st
    → FaultsEnd f s (a, a) (out, out2) st
ends_none f s a out out2 st puts = ends_same f s a a out out2 st refl refl puts

-- a store failed
pub ends_written : {F S : Type 0} (f : disk.Ghosts F) (s : sink.Ghosts S) (a b : F) (out : S) → f.load_faults b ≡ f.load_faults a
    → FaultsEnd f s (a, b) (out, out) status.WriteFault
ends_written f s a b out loads = record { loads = λ read. loads; stores = λ write. absurd (write refl); puts = λ write. refl }

-- none failed before
pub ends_since : {F S : Type 0} (f : disk.Ghosts F) (s : sink.Ghosts S) (a b c : F) (out out2 : S) (st : Status)
    → f.load_faults b ≡ f.load_faults a → f.store_faults b ≡ f.store_faults a
    → FaultsEnd f s (b, c) (out, out2) st → FaultsEnd f s (a, c) (out, out2) st
ends_since f s a b c out out2 st loads stores h =
    record { loads = λ read. h.loads read ∙ loads; stores = λ write. h.stores write ∙ stores; puts = h.puts }

-- none failed before, and no put but that which ended the work
pub ends_behind : {F S : Type 0} (f : disk.Ghosts F) (s : sink.Ghosts S) (a b c : F) (out mid out2 : S) (st : Status)
    → f.load_faults b ≡ f.load_faults a → f.store_faults b ≡ f.store_faults a
    → (s.faults mid ≡ s.faults out) ⊎ (st ≡ status.WriteFault) → FaultsEnd f s (b, c) (mid, out2) st → FaultsEnd f s (a, c) (out, out2) st
ends_behind f s a b c out mid out2 st loads stores put h = record {
  loads = λ read. h.loads read ∙ loads;
  stores = λ write. h.stores write ∙ stores;
  puts = puts_since (s.faults out) (s.faults mid) (s.faults out2) st put h.puts;
}

-- work that was refused, or whose load failed
pub ends_halted : {F S : Type 0} (f : disk.Ghosts F) (s : sink.Ghosts S) (a b : F) (out out2 : S) (h : Halt)
    (old new : Option (List ℕ)) (st : Status)
    → NoneFailed (f.load_faults a) (f.load_faults b) h → f.store_faults b ≡ f.store_faults a
    → Ends h old new (s.faults out) (s.faults out2) st → FaultsEnd f s (a, b) (out, out2) st
ends_halted f s a b out out2 (halt.Refused line) old new st none stores ends =
    ends_same f s a b out out2 st none stores (puts_ended (halt.Refused line) old new (s.faults out) (s.faults out2) st ends)
ends_halted f s a b out out2 halt.ReadFault old new st none stores ends =
    record { loads = λ read. absurd (read ends.0); stores = λ write. stores; puts = λ write. ends.2 }
ends_halted f s a b out out2 halt.Memory old new st none stores ends =
    ends_same f s a b out out2 st none stores (puts_ended halt.Memory old new (s.faults out) (s.faults out2) st ends)
