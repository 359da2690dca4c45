use Rattle.std.proofs.Common.{◌∙◌, sym, false}
use Rattle.checkpoint.proofs.Firsts.{first_bad-step, first_bad-end}
use Rattle.checkpoint.proofs.demand.first_bad.Goals as goal

pub loop-demand-preserved : goal.loop-demand-preserved
loop-demand-preserved c =
    first_bad-step c.args.there c.args.demands.now c.loop-demand.demand-index (record { at = 0; end = 0; met = false })
    c.loop-demand.first c.bad_in.result c.earlier-first.result c.loop-demand-test.true c.bad_in.ensures c.earlier-first.ensures
    ∙ c.loop-demand.invariant

pub returns : goal.returns
returns c = sym (first_bad-end c.args.there c.args.demands.now c.loop-demand.demand-index c.loop-demand.first c.loop-demand-test.false)
    ∙ c.loop-demand.invariant
