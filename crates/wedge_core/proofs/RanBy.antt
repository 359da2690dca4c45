-- What the host did at one call, by each thing that it has then.
use Rattle.std.proofs.Common.{ℕ, List}
use Rattle.host_cpl3.specs.HostRun.{Standing}
use Rattle.host_cpl3.specs.declared.view.View.{View}
use Rattle.wedge_step.specs.declared.running.Running.{Running}
use Rattle.wedge_core.specs.Ran as ran

abbrev pub Ran : {S : Type 0} → View → ℕ → Standing → Running S → ℕ → Running S → List ℕ → ℕ → ℕ → Type 0
Ran v k s old done new memory retired passed = ran.Ran v k s old done new (record { memory = memory; retired = retired; passed = passed })
