use Rattle.std.proofs.Common.{◌≡◌, ◌-◌, ◌≤◌}
use Rattle.image_check.specs.Image.{Image}
use Rattle.bare_machine.specs.Machine.{state_of, GoesOn}
use Rattle.bare_machine.specs.Settings.{bare}
use Rattle.bare_machine.specs.Events.{NoneComes}
use Rattle.bare_machine.proofs.Going.{Going}
use Rattle.bare_machine.proofs.Buffering.{KeptGoing}
use Rattle.bare_machine.proofs.slice.steps_to.Given as goal

abbrev pub invariant-loop-machine : goal.invariant-loop-machine
invariant-loop-machine g l = record {
  going : (image : Image) → Going (bare image l.script.list l.fn.machine.frames) (g.C.Cache.is_exact l.fn.machine.kept.cache)
      (state_of g.C.Cache.entries l.fn.machine) (state_of g.C.Cache.entries l.machine) (g.O.Sink.taken l.fn.out) (g.O.Sink.taken l.out);
  near : (image : Image) → KeptGoing g.C.Cache.keeping (bare image l.script.list l.fn.machine.frames)
      (state_of g.C.Cache.entries l.fn.machine) (state_of g.C.Cache.entries l.machine) (g.O.Sink.taken l.fn.out) (g.O.Sink.taken l.out);
  goes_on : GoesOn g.C.Cache.entries g.C.Cache.is_exact l.fn.machine l.machine;
  kept : g.O.Sink.faults l.out ≡ g.O.Sink.faults l.fn.out;
  bound : l.machine.step ≤ l.bound;
  none : NoneComes l.script.list l.machine.step l.next;
  same : l.worked.cpu ≡ l.machine.cpu;
}

abbrev pub decreases-loop-machine : goal.decreases-loop-machine
decreases-loop-machine g l = l.bound - l.machine.step
