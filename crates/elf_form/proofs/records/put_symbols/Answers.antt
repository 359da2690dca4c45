use Rattle.std.proofs.Common.{◌+◌, ◌-◌, ◌++◌, sym, ap, ◌∙◌}
use Rattle.std.proofs.lemmas.List.{append-nil}
use Rattle.std.specs.Prelude.{map}
use Rattle.elf_form.specs.Tables.{entries}
use Rattle.elf_form.specs.Symbols.{symbol_at, is_listed, symbols_in}
use Rattle.elf_form.proofs.AppendLaws.{one_more, no_more}
use Rattle.elf_form.proofs.TableLaws.{filter-here, filter-next, filter-end}
use Rattle.elf_form.proofs.records.put_symbols.Goals as goal
use Rattle.elf_form.proofs.records.put_symbols.Goals.{then-is_listed+in_ok-symbol_at+in_ok-push, else-is_listed}

pub returns-then-table-eq0 : goal.returns-then-table-eq0
unfolding symbols_in entries
returns-then-table-eq0 c = rw c.if-table-eq0.true (sym (append-nil c.args.out.now.items))

pub loop-i-preserved : goal.loop-i-preserved
loop-i-preserved c =
    elim c.if-is_listed.branch [
      | then-is_listed+in_ok-symbol_at+in_ok-push w ↦
          let here = ap (map (symbol_at c.args.strings.now c.args.names.now c.args.bytes.now))
          (filter-here (is_listed c.args.names.now c.args.bytes.now) (c.args.table.at + 16) 16 (c.args.table.count - 1) c.loop-i.i
          c.loop-i-test.true (sym c.is_listed.ensures ∙ w.if-is_listed.true)) in
          rw (w.out-is, w.in_ok-push.ensures.items, w.in_ok-symbol_at.ensures) (one_more c.loop-i.out.items _ _ _ here ∙ c.loop-i.invariant)
      | else-is_listed w ↦
          let next = ap (map (symbol_at c.args.strings.now c.args.names.now c.args.bytes.now))
          (filter-next (is_listed c.args.names.now c.args.bytes.now) (c.args.table.at + 16) 16 (c.args.table.count - 1) c.loop-i.i
          c.loop-i-test.true (sym c.is_listed.ensures ∙ w.if-is_listed.false)) in
          rw w.out-is (ap (λ rest. c.loop-i.out.items ++ rest) (sym next) ∙ c.loop-i.invariant)
    ]

pub returns : goal.returns
unfolding symbols_in
returns c =
    no_more c.loop-i.out.items _
    (ap (map (symbol_at c.args.strings.now c.args.names.now c.args.bytes.now))
    (filter-end (is_listed c.args.names.now c.args.bytes.now) (c.args.table.at + 16) 16 (c.args.table.count - 1) c.loop-i.i
    c.loop-i-test.false)) ∙ c.loop-i.invariant

pub symbol_at-requires-clause-whole : goal.symbol_at-requires-clause-whole
symbol_at-requires-clause-whole c = c.requires.whole

pub symbol_at-requires-clause-init : goal.symbol_at-requires-clause-init
symbol_at-requires-clause-init c = c.requires.init

pub symbol_at-requires-clause-bss : goal.symbol_at-requires-clause-bss
symbol_at-requires-clause-bss c = c.requires.bss

pub is_listed-requires-clause-whole : goal.is_listed-requires-clause-whole
is_listed-requires-clause-whole c = c.requires.whole
