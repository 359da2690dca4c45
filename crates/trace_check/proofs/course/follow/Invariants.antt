use Rattle.std.proofs.Common.{◌≡◌, ◌-◌, ◌≤◌, true}
use Rattle.image_check.specs.Image.{Image}
use Rattle.bare_machine.specs.Machine.{state_of, IsKept}
use Rattle.bare_machine.specs.Settings.{bare}
use Rattle.trace_check.specs.Follows.{Splits}
use Rattle.trace_check.proofs.Going.{Nears}
use Rattle.trace_check.proofs.course.follow.Given as goal

abbrev pub invariant-loop-machine : goal.invariant-loop-machine
invariant-loop-machine g l = record {
  near : (image : Image) → Nears (bare image l.script.list l.fn.machine.frames) l.list l.bound (state_of g.C.Cache.entries l.fn.machine)
      (state_of g.C.Cache.entries l.machine) (g.O.Sink.taken l.fn.out) (g.O.Sink.taken l.out);
  kept : IsKept l.machine.frames (state_of g.C.Cache.entries l.machine);
  exact : g.C.Cache.is_exact l.machine.kept.cache ≡ true;
  frames : l.machine.frames ≡ l.fn.machine.frames;
  splits : Splits l.list l.at l.machine.step;
  unfailed : g.O.Sink.faults l.out ≡ g.O.Sink.faults l.fn.out;
  within : l.machine.step ≤ l.bound;
}

abbrev pub decreases-loop-machine : goal.decreases-loop-machine
decreases-loop-machine g l = l.bound - l.machine.step
