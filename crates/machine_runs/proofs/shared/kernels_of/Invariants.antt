use Rattle.std.proofs.Common.{◌≡◌, length, true}
use Rattle.std.specs.List.{All}
use Rattle.board.specs.ScriptForm.{is_script}
use Rattle.guest_sched.specs.declared.kernel.Kernel.{Kernel}
use Rattle.machine_runs.proofs.shared.kernels_of.Given as goal

abbrev pub invariant-loop-letter : goal.invariant-loop-letter
invariant-loop-letter g l = record {
  len : length l.kernels.items ≡ l.letter-index;
  scripts : All (λ (kernel : Kernel). is_script kernel.script.list ≡ true) l.kernels.items;
}
