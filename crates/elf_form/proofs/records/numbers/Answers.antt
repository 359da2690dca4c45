use Rattle.std.proofs.Common.{◌+◌, ◌-◌, refl, sym, ◌∙◌, arith}
use Rattle.elf_form.specs.Tables.{entries}
use Rattle.elf_form.specs.Symbols.{numbers}
use Rattle.elf_form.proofs.AppendLaws.{one_more, no_more}
use Rattle.elf_form.proofs.RecordLaws.{numbers-yes, numbers-no, numbers-end}
use Rattle.elf_form.proofs.records.numbers.Goals as goal
use Rattle.elf_form.proofs.records.numbers.Goals.{then-is_listed, else-is_listed}

pub returns-then-table-eq0 : goal.returns-then-table-eq0
unfolding numbers entries
returns-then-table-eq0 c = rw (c.new-out.ensures.items, c.if-table-eq0.true) refl

pub loop-i-preserved : goal.loop-i-preserved
loop-i-preserved c =
    elim c.if-is_listed.branch [
      | then-is_listed w ↦
          let more = numbers-yes c.args.names.now c.args.bytes.now (c.args.table.at + 16) (c.args.table.count - 1) c.loop-i.i
          c.loop-i.number c.loop-i-test.true (sym c.is_listed.ensures ∙ w.if-is_listed.true) in
          rw w.number-is (record {
            items = rw c.in_ok-push.ensures.items (one_more c.loop-i.out.items c.loop-i.number _ _ more ∙ c.loop-i.invariant.items);
            small = omega arith;
          })
      | else-is_listed w ↦
          let more = numbers-no c.args.names.now c.args.bytes.now (c.args.table.at + 16) (c.args.table.count - 1) c.loop-i.i c.loop-i.number
          c.loop-i-test.true (sym c.is_listed.ensures ∙ w.if-is_listed.false) in
          rw w.number-is (record {
            items = rw c.in_ok-push.ensures.items (one_more c.loop-i.out.items c.loop-i.number _ _ more ∙ c.loop-i.invariant.items);
            small = omega arith;
          })
    ]

pub returns : goal.returns
returns c = no_more c.loop-i.out.items _ (numbers-end c.args.names.now c.args.bytes.now (c.args.table.at + 16) (c.args.table.count - 1)
    c.loop-i.i c.loop-i.number c.loop-i-test.false) ∙ c.loop-i.invariant.items

pub is_listed-requires-clause-whole : goal.is_listed-requires-clause-whole
is_listed-requires-clause-whole c = c.requires.whole
