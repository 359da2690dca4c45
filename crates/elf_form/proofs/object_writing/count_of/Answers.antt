use Rattle.std.proofs.Common.{◌≡◌, List, sym, subst, arith, ◌∙◌}
use Rattle.std.specs.Prelude.{count_by}
use Rattle.std.proofs.lemmas.List.{take_all}
use Rattle.std.proofs.lemmas.List.Sums.{count_by_more_yes, count_by_more_no}
use Rattle.elf_form.specs.declared.object.Reloc.{Reloc}
use Rattle.elf_form.specs.ObjectLayout.{is_of}
use Rattle.elf_form.proofs.object_writing.count_of.Goals as goal
use Rattle.elf_form.proofs.object_writing.count_of.Goals.{then-is_of, else-is_of}

pub loop-r-preserved : goal.loop-r-preserved
loop-r-preserved c =
    elim c.if-is_of.branch [
      | then-is_of w ↦
          let more = count_by_more_yes (is_of c.args.in_text) c.args.relocs.now c.loop-r.r-index _ c.loop-r-test.true
          (sym c.is_of.ensures ∙ w.if-is_of.true) in
          rw w.count-is (record {
            counted = omega (arith, more, c.loop-r.invariant.counted);
            small = omega (arith, c.loop-r.invariant.small);
          })
      | else-is_of w ↦
          let more = count_by_more_no (is_of c.args.in_text) c.args.relocs.now c.loop-r.r-index _ c.loop-r-test.true
          (sym c.is_of.ensures ∙ w.if-is_of.false) in
          rw w.count-is (record {
            counted = omega (arith, more, c.loop-r.invariant.counted);
            small = omega (arith, c.loop-r.invariant.small);
          })
    ]

pub returns-clause-exact : goal.returns-clause-exact
returns-clause-exact c =
    subst (λ (relocs : List Reloc). c.loop-r.count ≡ count_by (is_of c.args.in_text) relocs)
    (take_all c.loop-r.r-index c.args.relocs.now c.loop-r-test.false) c.loop-r.invariant.counted
