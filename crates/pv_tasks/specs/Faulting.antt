-- How a load, a store or a put that failed ends the work.
use Rattle.std.specs.Prelude.{◌≡◌, ◌≢◌, ℕ}
use Rattle.pv_io.specs.declared.files.Files as disk
use Rattle.pv_io.specs.declared.sink.Sink as sink
use Rattle.pv_build.specs.declared.status.Status.{Status}
use Rattle.pv_build.specs.declared.status.Status.TheVariants as status

-- A put that failed ends the work as a write fault: where it ends otherwise, the count is as it was.
abbrev pub PutsEnd : ℕ → ℕ → Status → Type 0
PutsEnd before now st = st ≢ status.WriteFault → now ≡ before

-- A load that failed ends the work as a read fault, a store or a put that failed as a write fault. Where the work ends otherwise
-- the count is as it was.
pub record FaultsEnd {F S : Type 0} (f : disk.Ghosts F) (s : sink.Ghosts S) (files : F × F) (out : S × S) (st : Status) : Type 0 where
  pub loads : st ≢ status.ReadFault → f.load_faults files.1 ≡ f.load_faults files.0
  pub stores : st ≢ status.WriteFault → f.store_faults files.1 ≡ f.store_faults files.0
  pub puts : PutsEnd (s.faults out.0) (s.faults out.1) st
