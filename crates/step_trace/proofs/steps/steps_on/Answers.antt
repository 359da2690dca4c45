use Rattle.std.proofs.Common.{◌≡◌, ℕ, ◌<◌, Ok, Err, refl, sym, ◌∙◌, subst, arith}
use Rattle.run_trace.specs.declared.pause.Pause.TheVariants.{Reached, Stopped}
use Rattle.look_words.specs.View.{only_view}
use Rattle.bare_machine.specs.Events.{NoneComes}
use Rattle.bare_machine.specs.Machine.{state_of}
use Rattle.bare_machine.specs.Settings.{bare}
use Rattle.bare_machine.proofs.Going.{goes_further}
use Rattle.step_trace.specs.Answers.{StepPuts}
use Rattle.step_trace.proofs.Going.{went_on, cut_there, stops_there, ends_there}
use Rattle.step_trace.proofs.steps.steps_on.Goals as goal

below : (step at n : ℕ) → step ≡ at → step < n → at < n
below step at n is lt = omega (arith, is, lt)

pub loop-room-init : goal.loop-room-init
loop-room-init g c = record {
  put = λ image whole told h. h;
  goes_on = record { kept = c.requires.kept; frames = refl; size = refl; exact = refl };
  kept = refl;
  within = c.requires.begun;
  none = c.new-room.ensures c.args.script.now.list c.args.machine.now.step;
}

pub loop-room-preserved : goal.loop-room-preserved
loop-room-preserved g c =
    let e = g.C.Cache.entries in
    let m = c.loop-room.machine in
    let under = below c.step.result m.step c.args.n c.step.ensures c.loop-room-test.true in
    record {
      put = λ image whole told h.
          let puts = rw c.in-Reached.is at c.in-Ok.ensures.puts image in
          let step = subst (λ (f : ℕ). StepPuts g.C.Cache.keeping (bare image c.args.script.now.list f) c.args.from
          (only_view c.args.only.now) (state_of e m) (state_of e c.step_on.new.machine) (g.O.Sink.taken c.loop-room.out)
          (g.O.Sink.taken c.step_on.new.out) (Ok Reached)) c.loop-room.invariant.goes_on.frames puts in
          went_on g.C.Cache.keeping (bare image c.args.script.now.list c.args.machine.now.frames) c.args.n c.args.from
          (only_view c.args.only.now) whole (state_of e m) (state_of e c.step_on.new.machine) told _ _
          (c.loop-room.invariant.put image whole told h) step under;
      goes_on = goes_further _ _ _ c.loop-room.invariant.goes_on (rw c.in-Reached.is at c.in-Ok.ensures.goes_on);
      kept = c.in-Ok.ensures.kept ∙ c.loop-room.invariant.kept;
      within =
          let count = rw c.in-Reached.is at c.in-Ok.ensures.count in
          omega (arith, count, under);
      none = subst (λ (k : ℕ). NoneComes c.args.script.now.list k c.step_on.new.room.next)
          (sym (rw c.in-Reached.is at c.in-Ok.ensures.count)) c.step_on.ensures.none;
    }

pub returns-in-Stopped-clause-pauses : goal.returns-in-Stopped-clause-pauses
returns-in-Stopped-clause-pauses g c = λ image whole told h.
    let e = g.C.Cache.entries in
    let m = c.loop-room.machine in
    let puts = rw c.in-Stopped.is at c.in-Ok.ensures.puts image in
    let step = subst (λ (f : ℕ). StepPuts g.C.Cache.keeping (bare image c.args.script.now.list f) c.args.from (only_view c.args.only.now)
    (state_of e m) (state_of e c.step_on.new.machine) (g.O.Sink.taken c.loop-room.out) (g.O.Sink.taken c.step_on.new.out)
    (Ok (Stopped c.in-Stopped.stop))) c.loop-room.invariant.goes_on.frames puts in
    stops_there g.C.Cache.keeping (bare image c.args.script.now.list c.args.machine.now.frames) c.args.n c.args.from
    (only_view c.args.only.now) whole (state_of e m) (state_of e c.step_on.new.machine) told _ _ c.in-Stopped.stop
    (c.loop-room.invariant.put image whole told h) step (below c.step.result m.step c.args.n c.step.ensures c.loop-room-test.true)

pub returns-in-Err-clause-pauses : goal.returns-in-Err-clause-pauses
returns-in-Err-clause-pauses g c = λ image whole told h.
    let e = g.C.Cache.entries in
    let m = c.loop-room.machine in
    let step = subst (λ (f : ℕ). StepPuts g.C.Cache.keeping (bare image c.args.script.now.list f) c.args.from (only_view c.args.only.now)
    (state_of e m) (state_of e c.step_on.new.machine) (g.O.Sink.taken c.loop-room.out) (g.O.Sink.taken c.step_on.new.out)
    (Err c.in-Err.failed)) c.loop-room.invariant.goes_on.frames (c.in-Err.ensures.puts image) in
    cut_there g.C.Cache.keeping (bare image c.args.script.now.list c.args.machine.now.frames) c.args.n c.args.from
    (only_view c.args.only.now) whole (state_of e m) (state_of e c.step_on.new.machine) told _ _
    (c.loop-room.invariant.put image whole told h) step (below c.step.result m.step c.args.n c.step.ensures c.loop-room-test.true)

pub returns-clause-pauses : goal.returns-clause-pauses
returns-clause-pauses g c = λ image whole told h.
    let m = c.loop-room.machine in
    ends_there g.C.Cache.keeping (bare image c.args.script.now.list c.args.machine.now.frames) c.args.n c.args.from
    (only_view c.args.only.now) whole (state_of g.C.Cache.entries m) told _
    (c.loop-room.invariant.put image whole told h)
    (omega (arith, c.loop-room.invariant.within, c.step.ensures, c.loop-room-test.false))
