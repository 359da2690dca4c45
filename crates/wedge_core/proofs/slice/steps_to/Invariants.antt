use Rattle.std.proofs.Common.{◌≡◌, ◌-◌, ◌+◌, ◌≤◌, ◌<◌, ◌^◌, true, false, length}
use Rattle.machine_model.specs.Keeping.{Roomy}
use Rattle.machine_model.specs.State.{wedge}
use Rattle.wedge_step.specs.Filled.{CountsFills, pages_kept}
use Rattle.wedge_core.specs.Noted.{NotesOn}
use Rattle.wedge_step.specs.Pools.{Keeps}
use Rattle.wedge_step.specs.Ready.{IsReady}
use Rattle.wedge_step.specs.Scene.{AreAmple}
use Rattle.wedge_step.specs.Standing.{IsHeld, IsAble, ground, state_of}
use Rattle.frame_pool.specs.Pool.{free_list}
use Rattle.wedge_step.specs.Carried.{IsCarried}
use Rattle.wedge_core.proofs.CarriedOver.{CarriedWith}
use Rattle.wedge_core.proofs.Going.{Going}
use Rattle.wedge_core.proofs.slice.steps_to.Given as goal

abbrev pub invariant-loop-running : goal.invariant-loop-running
invariant-loop-running g l = record {
  going : Going (wedge l.image l.script.list l.fn.running.frames)
      (state_of g.S.Shadows (wedge l.image l.script.list l.fn.running.frames) l.fn.running (g.H.Host.bytes l.fn.host))
      (state_of g.S.Shadows (wedge l.image l.script.list l.fn.running.frames) l.running (g.H.Host.bytes l.host))
      (record { retired = g.H.Host.retired l.fn.host; passed = g.H.Host.passed l.fn.host })
      (record { retired = g.H.Host.retired l.host; passed = g.H.Host.passed l.host })
      (g.O.Sink.taken l.fn.out) (g.O.Sink.taken l.out) (pages_kept g.S.Shadows l.fn.running.shadows (g.H.Host.bytes l.fn.host))
      l.fn.running.fills l.running.fills (g.L.Notes.wants l.fn.notes)
      (NotesOn (g.L.Notes.wants l.fn.notes) (g.L.Notes.tells l.fn.notes) (g.L.Notes.tells l.notes))
      (λ past. (Roomy past → IsCarried g.S.Shadows (wedge l.image l.script.list l.fn.running.frames) past
      (state_of g.S.Shadows (wedge l.image l.script.list l.fn.running.frames) l.fn.running (g.H.Host.bytes l.fn.host)) l.fn.running.shadows
      (g.H.Host.bytes l.fn.host))
      × AreAmple (length (free_list l.fn.pool (g.H.Host.bytes l.fn.host))) l.fn.running.held × (g.L.Notes.wants l.fn.notes ≡ false))
      (CarriedWith g.S.Shadows (wedge l.image l.script.list l.fn.running.frames) l.running.shadows (g.H.Host.bytes l.host));
  held : IsHeld g.S.Shadows (ground l.image l.fn.running.frames) l.running l.pool (g.H.Host.bytes l.host);
  ready : IsReady g.S.Shadows (ground l.image l.fn.running.frames) l.running.cpu l.running.shadows (g.H.Host.bytes l.host);
  able : IsAble l.running.cpu;
  pool : Keeps l.fn.pool l.pool (g.H.Host.bytes l.fn.host) (g.H.Host.bytes l.host)
      (g.S.Shadows.frames l.fn.running.shadows (g.H.Host.bytes l.fn.host)) (g.S.Shadows.frames l.running.shadows (g.H.Host.bytes l.host));
  filled : CountsFills (pages_kept g.S.Shadows l.fn.running.shadows (g.H.Host.bytes l.fn.host))
      (pages_kept g.S.Shadows l.running.shadows (g.H.Host.bytes l.host)) l.fn.running.fills l.running.fills;
  started : g.H.Host.is_started l.host ≡ true;
  frames : l.running.frames ≡ l.fn.running.frames;
  wants : g.L.Notes.wants l.notes ≡ g.L.Notes.wants l.fn.notes;
  notes_wanted : l.notes_wanted ≡ g.L.Notes.wants l.fn.notes;
  silent : g.L.Notes.wants l.fn.notes ≡ false → l.notes ≡ l.fn.notes;
  kept : g.O.Sink.faults l.out ≡ g.O.Sink.faults l.fn.out;
  bound : l.running.step ≤ l.bound;
  room : g.H.Host.retired l.host + (l.bound - l.running.step) < 2 ^ 64;
}

abbrev pub decreases-loop-running : goal.decreases-loop-running
decreases-loop-running g l = l.bound - l.running.step
