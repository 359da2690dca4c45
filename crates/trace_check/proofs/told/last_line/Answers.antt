use Rattle.std.proofs.Common.{sym, ◌∙◌}
use Rattle.trace_check.proofs.LastLine.{last_at, ends_none}
use Rattle.trace_check.proofs.told.last_line.Goals as goal

pub returns : goal.returns
returns c = last_at c.args.text.now c.loop-i.start c.requires
    (sym (ends_none c.loop-i.i c.loop-i.start c.args.text.now c.loop-i-test.false) ∙ c.loop-i.invariant)
