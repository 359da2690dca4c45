use Rattle.std.proofs.Common.{◌≡◌, ◌+◌, ◌-◌, arith}
use Rattle.bare_machine.specs.Machine.{state_of}
use Rattle.bare_machine.specs.Settings.{bare}
use Rattle.bare_machine.proofs.Resting.{rests_none, rests_some, kept_rests_none, kept_some}
use Rattle.bare_machine.proofs.idle.rest.Goals as goal

pub returns-else-k-gt0-clause-rests : goal.returns-else-k-gt0-clause-rests
returns-else-k-gt0-clause-rests g c = λ image whole part. rests_none (bare image c.args.script.now.list c.args.machine.now.frames)
    (state_of g.C.Cache.entries c.args.machine.now) whole part

pub returns-then-k-gt0-clause-rests : goal.returns-then-k-gt0-clause-rests
returns-then-k-gt0-clause-rests g c = λ image whole part.
    let m = c.args.machine.now in
    let s = bare image c.args.script.now.list m.frames in
    rw c.advance.ensures (rests_some c.halted_steps_rest.ensures c.resting_steps-k.result s (state_of g.C.Cache.entries m) whole
    c.requires.begun c.resting_steps-k.ensures.held c.resting_steps-k.ensures.sleeps part)

pub returns-else-k-gt0-clause-ends : goal.returns-else-k-gt0-clause-ends
returns-else-k-gt0-clause-ends g c = λ halted held none less.
    let step = c.args.machine.now.step in
    let same : step - step ≡ c.resting_steps-k.result = omega (arith, c.if-k-gt0.false) in
    record {
      furthest = rw same (c.resting_steps-k.ensures.furthest halted held none (omega (arith, less, c.if-k-gt0.false)));
      past_edges = λ asleep. rw same (c.resting_steps-k.ensures.past_edges halted held none asleep (omega (arith, less, c.if-k-gt0.false)));
    }

pub returns-then-k-gt0-clause-ends : goal.returns-then-k-gt0-clause-ends
returns-then-k-gt0-clause-ends g c = λ halted held none less.
    let step = c.args.machine.now.step in
    let same : (step + c.resting_steps-k.result) - step ≡ c.resting_steps-k.result = omega arith in
    record {
      furthest = rw same (c.resting_steps-k.ensures.furthest halted held none (omega (arith, less)));
      past_edges = λ asleep. rw same (c.resting_steps-k.ensures.past_edges halted held none asleep (omega (arith, less)));
    }

pub returns-else-k-gt0-clause-kept : goal.returns-else-k-gt0-clause-kept
returns-else-k-gt0-clause-kept g c = λ image. kept_rests_none g.C.Cache.keeping
    (bare image c.args.script.now.list c.args.machine.now.frames) (state_of g.C.Cache.entries c.args.machine.now)

pub returns-then-k-gt0-clause-kept : goal.returns-then-k-gt0-clause-kept
returns-then-k-gt0-clause-kept g c = λ image.
    let m = c.args.machine.now in
    let s = bare image c.args.script.now.list m.frames in
    rw c.advance.ensures (kept_some c.halted_steps_rest.ensures g.C.Cache.keeping c.resting_steps-k.result s (state_of g.C.Cache.entries m)
    c.requires.begun c.resting_steps-k.ensures.held c.resting_steps-k.ensures.sleeps)
