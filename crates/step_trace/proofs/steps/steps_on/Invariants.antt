use Rattle.std.proofs.Common.{◌≡◌, ℕ, ◌-◌, ◌≤◌, List, Option}
use Rattle.image_check.specs.Image.{Image}
use Rattle.look_words.specs.View.{only_view}
use Rattle.bare_machine.specs.Events.{NoneComes}
use Rattle.bare_machine.specs.Machine.{state_of, GoesOn}
use Rattle.bare_machine.specs.Settings.{bare}
use Rattle.step_trace.specs.Answers.{HasPut}
use Rattle.step_trace.specs.Traces.{Trace, trace_to}
use Rattle.step_trace.proofs.steps.steps_on.Given as goal

abbrev pub invariant-loop-room : goal.invariant-loop-room
invariant-loop-room g l = record {
  put : (image : Image) (whole : Trace) (told : Option (List ℕ))
      → HasPut whole (trace_to g.C.Cache.keeping (bare image l.script.list l.fn.machine.frames) l.n l.from (only_view l.only)
      (state_of g.C.Cache.entries l.fn.machine)) told (g.O.Sink.taken l.fn.out)
      → HasPut whole (trace_to g.C.Cache.keeping (bare image l.script.list l.fn.machine.frames) l.n l.from (only_view l.only)
      (state_of g.C.Cache.entries l.machine)) told (g.O.Sink.taken l.out);
  goes_on : GoesOn g.C.Cache.entries g.C.Cache.is_exact l.fn.machine l.machine;
  kept : g.O.Sink.faults l.out ≡ g.O.Sink.faults l.fn.out;
  within : l.machine.step ≤ l.n;
  none : NoneComes l.script.list l.machine.step l.room.next;
}

abbrev pub decreases-loop-room : goal.decreases-loop-room
decreases-loop-room g l = l.n - l.machine.step
