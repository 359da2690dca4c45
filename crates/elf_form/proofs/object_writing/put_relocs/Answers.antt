use Rattle.std.proofs.Common.{sym, ◌∙◌}
use Rattle.elf_form.proofs.SymbolNames.{reloc_put, relocs-no}
use Rattle.elf_form.proofs.object_writing.put_relocs.Goals as goal
use Rattle.elf_form.proofs.object_writing.put_relocs.Goals.{then-is_of+in_ok-put_reloc, else-is_of}

pub loop-r-preserved : goal.loop-r-preserved
loop-r-preserved c =
    elim c.if-is_of.branch [
      | then-is_of+in_ok-put_reloc w ↦
          rw w.out-is (w.in_ok-put_reloc.ensures ∙ reloc_put c.args.in_text c.args.relocs.now c.loop-r.r-index _ c.args.out.now.items
          c.loop-r.out.items c.loop-r-test.true (sym c.is_of.ensures ∙ w.if-is_of.true) c.loop-r.invariant)
      | else-is_of w ↦
          rw (
            w.out-is,
            relocs-no c.args.in_text c.args.relocs.now c.loop-r.r-index _ c.loop-r-test.true
                (sym c.is_of.ensures ∙ w.if-is_of.false),
          ) c.loop-r.invariant
    ]
