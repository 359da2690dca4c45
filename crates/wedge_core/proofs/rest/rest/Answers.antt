use Rattle.std.proofs.Common.{◌≡◌, ◌+◌, ◌-◌, arith}
use Rattle.machine_model.specs.State.{wedge}
use Rattle.wedge_step.specs.Standing.{state_of}
use Rattle.wedge_core.proofs.Resting.{rests_none, rests_some}
use Rattle.wedge_core.proofs.rest.rest.Goals as goal

pub returns-else-k-gt0-clause-passes : goal.returns-else-k-gt0-clause-passes
returns-else-k-gt0-clause-passes g c = λ image memory counts.
    let running = c.args.running.now in
    let m = wedge image c.args.script.now.list running.frames in
    rests_none m (state_of g.S.Shadows m running memory) counts

pub returns-then-k-gt0-clause-passes : goal.returns-then-k-gt0-clause-passes
returns-then-k-gt0-clause-passes g c = λ image memory counts.
    let running = c.args.running.now in
    let m = wedge image c.args.script.now.list running.frames in
    rw c.advance.ensures (rests_some c.halted_steps_rest.ensures c.resting_steps-k.result m (state_of g.S.Shadows m running memory) counts
    c.requires.begun c.resting_steps-k.ensures.held c.resting_steps-k.ensures.sleeps)

pub returns-else-k-gt0-clause-furthest : goal.returns-else-k-gt0-clause-furthest
returns-else-k-gt0-clause-furthest g c = λ halted held none less.
    let step = c.args.running.now.step in
    let same : step - step ≡ c.resting_steps-k.result = omega (arith, c.if-k-gt0.false) in
    rw same (c.resting_steps-k.ensures.furthest halted held none (omega (arith, less, c.if-k-gt0.false)))

pub returns-then-k-gt0-clause-furthest : goal.returns-then-k-gt0-clause-furthest
returns-then-k-gt0-clause-furthest g c = λ halted held none less.
    let step = c.args.running.now.step in
    let same : (step + c.resting_steps-k.result) - step ≡ c.resting_steps-k.result = omega arith in
    rw same (c.resting_steps-k.ensures.furthest halted held none (omega (arith, less)))

pub returns-else-k-gt0-clause-past_edges : goal.returns-else-k-gt0-clause-past_edges
returns-else-k-gt0-clause-past_edges g c = λ halted held none asleep less.
    let step = c.args.running.now.step in
    let same : step - step ≡ c.resting_steps-k.result = omega (arith, c.if-k-gt0.false) in
    rw same (c.resting_steps-k.ensures.past_edges halted held none asleep (omega (arith, less, c.if-k-gt0.false)))

pub returns-then-k-gt0-clause-past_edges : goal.returns-then-k-gt0-clause-past_edges
returns-then-k-gt0-clause-past_edges g c = λ halted held none asleep less.
    let step = c.args.running.now.step in
    let same : (step + c.resting_steps-k.result) - step ≡ c.resting_steps-k.result = omega arith in
    rw same (c.resting_steps-k.ensures.past_edges halted held none asleep (omega (arith, less)))
