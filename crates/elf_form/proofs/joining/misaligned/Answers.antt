use Rattle.std.proofs.Common.{sym, ap, ◌∙◌}
use Rattle.elf_form.specs.Tables.{further}
use Rattle.elf_form.specs.Roles.{is_misaligned, misaligned}
use Rattle.elf_form.proofs.TableLaws.{find-here, find-next, find-end}
use Rattle.elf_form.proofs.joining.misaligned.Goals as goal

pub returns-then-is_misaligned-clause-place : goal.returns-then-is_misaligned-clause-place
unfolding misaligned
returns-then-is_misaligned-clause-place c =
    let here = find-here (is_misaligned c.args.names.now c.args.bytes.now) c.word-table.result 40 c.half-count.result c.loop-i.i
    c.loop-i-test.true (sym c.is_misaligned.ensures ∙ c.if-is_misaligned.true) in
    rw (← c.word-table.ensures, ← c.half-count.ensures) (ap (further 32) (sym here ∙ c.loop-i.invariant))

pub loop-i-preserved : goal.loop-i-preserved
loop-i-preserved c =
    sym (find-next (is_misaligned c.args.names.now c.args.bytes.now) c.word-table.result 40 c.half-count.result c.loop-i.i
    c.loop-i-test.true (sym c.is_misaligned.ensures ∙ c.if-is_misaligned.false)) ∙ c.loop-i.invariant

pub returns-clause-place : goal.returns-clause-place
unfolding misaligned
returns-clause-place c =
    let ends = find-end (is_misaligned c.args.names.now c.args.bytes.now) c.word-table.result 40 c.half-count.result c.loop-i.i
    c.loop-i-test.false in
    rw (← c.word-table.ensures, ← c.half-count.ensures) (ap (further 32) (sym ends ∙ c.loop-i.invariant))
