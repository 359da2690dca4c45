use Rattle.std.proofs.Common.{◌≡◌, ap, rules}
use Rattle.machine_step.proofs.stepping.step_at.Goals as goal

-- the parts are as the value left them
pub returns-clause-step : goal.returns-clause-step
returns-clause-step g c =
    let n = c.step_over.new.mem in
    let kept : n.kept.now ≡ c.args.kept.now = ap (λ f. f.2) c.step_over.ensures.frame in
    let ram : n.ram.now ≡ c.ram-1.given.0 = search rules in
    let state : n.state.now ≡ c.state-1.given.0 = search rules in
    rw (kept, ram, state) at c.step_over.ensures.step

pub returns-clause-uses : goal.returns-clause-uses
returns-clause-uses g c =
    let n = c.step_over.new.mem in
    let kept : n.kept.now ≡ c.args.kept.now = ap (λ f. f.2) c.step_over.ensures.frame in
    let ram : n.ram.now ≡ c.ram-1.given.0 = search rules in
    let state : n.state.now ≡ c.state-1.given.0 = search rules in
    rw (kept, ram, state) at c.step_over.ensures.uses

pub returns-clause-leaves : goal.returns-clause-leaves
returns-clause-leaves g c =
    let n = c.step_over.new.mem in
    let kept : n.kept.now ≡ c.args.kept.now = ap (λ f. f.2) c.step_over.ensures.frame in
    let ram : n.ram.now ≡ c.ram-1.given.0 = search rules in
    let state : n.state.now ≡ c.state-1.given.0 = search rules in
    rw (kept, ram, state) at c.step_over.ensures.leaves
