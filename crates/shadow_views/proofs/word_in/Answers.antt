use Rattle.std.proofs.Common.{sym, ◌∙◌}
use Rattle.shadow_views.proofs.Counts.{by_dir-none, by_dir-some}
use Rattle.shadow_views.proofs.word_in.Goals as goal

pub returns-then-table-eq0 : goal.returns-then-table-eq0
returns-then-table-eq0 c = sym (by_dir-none c.args.ram.now c.args.table c.args.i c.if-table-eq0.true)

pub returns : goal.returns
returns c = c.read32.ensures ∙ sym (by_dir-some c.args.ram.now c.args.table c.args.i c.if-table-eq0.false)
