use Rattle.std.proofs.Common.{◌≡◌, ◌-◌, length, drop, true}
use Rattle.board.specs.Scripts.{Events}
use Rattle.image_check.specs.Image.{Image}
use Rattle.machine_model.specs.Run.{with_set}
use Rattle.bare_machine.specs.Machine.{state_of, IsKept}
use Rattle.bare_machine.specs.Settings.{bare}
use Rattle.trace_check.specs.Courses.{chosen}
use Rattle.trace_check.proofs.Choosing.{SoFar}
use Rattle.trace_check.proofs.course.make_all.Given as goal

abbrev pub invariant-loop-choice : goal.invariant-loop-choice
invariant-loop-choice g l = record {
  made : (image : Image) (script : Events) → chosen (bare image script l.fn.machine.frames) (state_of g.C.Cache.entries l.fn.machine) 0
      l.list (g.C.Cache.entries l.fn.machine.kept.cache) ≡ chosen (bare image script l.fn.machine.frames)
      (state_of g.C.Cache.entries l.fn.machine) l.next (drop l.next l.list) (g.C.Cache.entries l.machine.kept.cache);
  same : state_of g.C.Cache.entries l.machine ≡ with_set (state_of g.C.Cache.entries l.fn.machine) (g.C.Cache.entries l.machine.kept.cache);
  frames : l.machine.frames ≡ l.fn.machine.frames;
  kept : IsKept l.machine.frames (state_of g.C.Cache.entries l.machine);
  exact : g.C.Cache.is_exact l.machine.kept.cache ≡ true;
  so_far : SoFar l.list l.fn.machine.step l.next;
}

abbrev pub decreases-loop-choice : goal.decreases-loop-choice
decreases-loop-choice g l = length l.list - l.next
