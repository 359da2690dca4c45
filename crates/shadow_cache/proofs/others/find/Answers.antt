use Rattle.std.proofs.Common.{sym, eqb, arith}
use Rattle.std.proofs.lemmas.Bool.{ne_eqb}
use Rattle.shadow_cache.proofs.Leaving.{place-at, place-none, none-more}
use Rattle.shadow_cache.proofs.others.find.Goals as goal

pub loop-i-preserved : goal.loop-i-preserved
loop-i-preserved c = none-more (λ p. eqb p.cr3 c.args.cr3) c.args.pairs.now c.loop-i.i c.at.result.now c.at.ensures
    (ne_eqb c.at.result.now.cr3 c.args.cr3 c.if-at-cr3.false) c.loop-i.invariant

pub returns-then-at-cr3-clause-place : goal.returns-then-at-cr3-clause-place
returns-then-at-cr3-clause-place c =
    sym (place-at c.args.cr3 c.args.pairs.now c.loop-i.i c.at.result.now c.at.ensures c.if-at-cr3.true c.loop-i.invariant)

pub returns-clause-place : goal.returns-clause-place
returns-clause-place c = sym (place-none c.args.cr3 c.args.pairs.now c.loop-i.i (omega arith) c.loop-i.invariant)
