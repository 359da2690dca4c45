use Rattle.std.proofs.Common.{sym, ◌∙◌}
use Rattle.elf_form.proofs.WholeLaws.{section_at}
use Rattle.elf_form.proofs.JoinLaws.{joined-skip, joined-add, joined-end}
use Rattle.elf_form.proofs.joining.joined.Goals as goal
use Rattle.elf_form.proofs.joining.joined.Goals.{then-has_role+in_ok-put_section, else-has_role}

pub put_section-requires : goal.put_section-requires
put_section-requires c = section_at c.args.bytes.now c.word-table.result c.half-count.result c.loop-i.i c.word-table.ensures
    c.half-count.ensures c.requires c.loop-i-test.true

pub loop-i-preserved : goal.loop-i-preserved
loop-i-preserved c =
    elim c.if-has_role.branch [
      | then-has_role+in_ok-put_section w ↦
          rw (w.out-is, w.in_ok-put_section.ensures)
          (sym (joined-add c.args.names.now c.args.bytes.now c.word-table.result c.half-count.result c.loop-i.i c.loop-i.out.items
          c.loop-i-test.true (sym c.has_role.ensures ∙ w.if-has_role.true)) ∙ c.loop-i.invariant)
      | else-has_role w ↦
          rw w.out-is (sym (joined-skip c.args.names.now c.args.bytes.now c.word-table.result c.half-count.result c.loop-i.i
          c.loop-i.out.items c.loop-i-test.true (sym c.has_role.ensures ∙ w.if-has_role.false)) ∙ c.loop-i.invariant)
    ]

pub returns : goal.returns
returns c =
    rw (← c.word-table.ensures, ← c.half-count.ensures)
    (sym (joined-end c.args.names.now c.args.bytes.now c.word-table.result c.half-count.result c.loop-i.i c.loop-i.out.items
    c.loop-i-test.false) ∙ c.loop-i.invariant)
