use Rattle.std.proofs.Common.{sym, ◌∙◌, arith}
use Rattle.shadow_cache.specs.Pairs.{reads}
use Rattle.shadow_cache.proofs.Leaving.{any-at, any-none, none-more}
use Rattle.shadow_cache.proofs.others.any_reads.Goals as goal

pub loop-i-preserved : goal.loop-i-preserved
loop-i-preserved c = none-more (λ p. reads p c.args.frame) c.args.pairs.now c.loop-i.i c.at.result.now c.at.ensures
    (sym c.reads.ensures ∙ c.if-reads.false) c.loop-i.invariant

pub returns-then-reads : goal.returns-then-reads
returns-then-reads c =
    sym (any-at c.args.pairs.now c.loop-i.i c.args.frame c.at.result.now c.at.ensures (sym c.reads.ensures ∙ c.if-reads.true))

pub returns : goal.returns
returns c = sym (any-none c.args.pairs.now c.loop-i.i c.args.frame (omega arith) c.loop-i.invariant)
