-- What a sink has taken and how often it has failed, before a call and after it.
use Rattle.std.specs.Prelude.{ℕ, List, Option}
use Rattle.pv_io.specs.declared.sink.Sink as sink

pub record Taking : Type 0 where
  pub old : Option (List ℕ)
  pub new : Option (List ℕ)
  pub faults : ℕ
  pub faults_after : ℕ

abbrev pub taking : {S : Type 0} → sink.Ghosts S → S → S → Taking
taking s out out2 = record { old = s.taken out; new = s.taken out2; faults = s.faults out; faults_after = s.faults out2 }
