use Rattle.std.proofs.Common.{◌≡◌, ◌-◌, ◌≤◌}
use Rattle.image_check.specs.Image.{Image}
use Rattle.bare_machine.specs.Machine.{state_of, IsKept}
use Rattle.bare_machine.specs.Settings.{bare}
use Rattle.bare_machine.proofs.Freshly.{Nears}
use Rattle.bare_machine.proofs.fresh.fresh_steps.Given as goal

abbrev pub invariant-loop-machine : goal.invariant-loop-machine
invariant-loop-machine g l = record {
  near : (image : Image) → Nears (bare image l.script.list l.fn.machine.frames) l.n (state_of g.C.Cache.entries l.fn.machine)
      (state_of g.C.Cache.entries l.machine) (g.O.Sink.taken l.fn.out) (g.O.Sink.taken l.out);
  kept : IsKept l.machine.frames (state_of g.C.Cache.entries l.machine);
  frames : l.machine.frames ≡ l.fn.machine.frames;
  same : g.O.Sink.faults l.out ≡ g.O.Sink.faults l.fn.out;
  bound : l.machine.step ≤ l.n;
}

abbrev pub decreases-loop-machine : goal.decreases-loop-machine
decreases-loop-machine g l = l.n - l.machine.step
