use Rattle.std.proofs.Common.{◌≡◌, ap, rules}
use Rattle.wedge_core.proofs.native.try_native.Goals as goal

-- the parts are as the value left them
pub returns-clause-tries : goal.returns-clause-tries
returns-clause-tries g c =
    let n = c.try_over.new.mem in
    let kept : n.kept.now ≡ c.args.kept.now = ap (λ f. f.2) c.try_over.ensures.frame in
    let ram : n.ram.now ≡ c.ram-1.given.0 = search rules in
    let state : n.state.now ≡ c.state-1.given.0 = search rules in
    rw (kept, ram, state) at c.try_over.ensures.tries

pub returns-clause-uses : goal.returns-clause-uses
returns-clause-uses g c =
    let n = c.try_over.new.mem in
    let kept : n.kept.now ≡ c.args.kept.now = ap (λ f. f.2) c.try_over.ensures.frame in
    let ram : n.ram.now ≡ c.ram-1.given.0 = search rules in
    let state : n.state.now ≡ c.state-1.given.0 = search rules in
    rw (kept, ram, state) at c.try_over.ensures.uses
