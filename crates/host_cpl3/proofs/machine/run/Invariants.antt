use Rattle.std.proofs.Common.{◌≡◌, ◌+◌, ◌-◌, length}
use Rattle.host_cpl3.specs.KeptWalks.{AreKept}
use Rattle.host_cpl3.specs.HostRun.{host_run}
use Rattle.host_cpl3.specs.Hosts.{standing}
use Rattle.host_cpl3.proofs.machine.run.Given as goal

-- what is left of the run
abbrev pub invariant-loop-done : goal.invariant-loop-done
invariant-loop-done l = record {
  run : host_run l.view l.k (standing l.fn.regs l.fn.ram l.fn.retired l.fn.passed) ≡ host_run l.view (l.k - l._done)
      (standing l.regs l.ram l.retired l.passed);
  len : length l.ram ≡ length l.fn.ram;
  count : l.retired ≡ l.fn.retired + l._done;
  kept : AreKept l.walks l.ram l.view.root;
}
