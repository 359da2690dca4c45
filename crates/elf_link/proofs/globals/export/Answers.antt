use Rattle.std.proofs.Common.{◌≡◌, ◌+◌, ◌++◌, ◌∷◌, [], List, ℕ, true, false, Some, ap, sym, ◌∙◌, subst}
use Rattle.elf_link.specs.declared.target.Target.{Target}
use Rattle.elf_link.specs.Refusals.{holds}
use Rattle.elf_link.proofs.ExportLaws.{keys, Exporting, exporting_skipped, exporting_doubled, exporting_added, exporting_none}
use Rattle.elf_link.proofs.globals.export.Goals as goal
use Rattle.elf_link.proofs.globals.export.Goals.{then-is_exported+else-holds+in_ok-add, else-is_exported}

pub returns-then-holds-clause-doubled : goal.returns-then-holds-clause-doubled
returns-then-holds-clause-doubled c =
    let among : holds (keys c.loop-symbol.globals) c.symbol-item.result.name ≡ true =
    ap (λ (n : List ℕ). holds (keys c.loop-symbol.globals) n) (sym c.name_of.ensures) ∙ (sym c.holds.ensures ∙ c.if-holds.true) in
    ap Some (c.in_ok-copy_of.ensures ∙ c.name_of-then-holds.ensures)
    ∙ sym (exporting_doubled c.args.number c.args.globals.now c.loop-symbol.globals c.args.symbols.now c.loop-symbol.symbol-index
    c.symbol-item.result c.loop-symbol-test.true (sym c.symbol-item.is) c.loop-symbol.invariant
    (sym c.is_exported.ensures ∙ c.if-is_exported.true) among)

pub loop-symbol-preserved : goal.loop-symbol-preserved
loop-symbol-preserved c =
    elim c.if-is_exported.branch [
      | then-is_exported+else-holds+in_ok-add w ↦
          let absent : holds (keys c.loop-symbol.globals) c.symbol-item.result.name ≡ false =
          ap (λ (n : List ℕ). holds (keys c.loop-symbol.globals) n) (sym w.name_of.ensures) ∙ (sym w.holds.ensures ∙ w.if-holds.false) in
          let added = exporting_added c.args.number c.args.globals.now c.loop-symbol.globals c.args.symbols.now c.loop-symbol.symbol-index
          c.symbol-item.result c.loop-symbol-test.true (sym c.symbol-item.is) c.loop-symbol.invariant
          (sym c.is_exported.ensures ∙ w.if-is_exported.true) absent in
          let now : w.add.new.self ≡ c.loop-symbol.globals ++ (c.symbol-item.result.name, w.target.result) ∷ [] = w.in_ok-add.ensures
          ∙ ap (λ (n : List ℕ). c.loop-symbol.globals ++ (n, w.target.result) ∷ []) w.name_of-then-is_exported.ensures in
          subst (λ (gs : List (List ℕ × Target)). Exporting c.args.number c.args.globals.now gs c.args.symbols.now
          (c.loop-symbol.symbol-index + 1))
          (sym (w.globals-is ∙ (now ∙ ap (λ (t : Target). c.loop-symbol.globals ++ (c.symbol-item.result.name, t) ∷ []) w.target.ensures)))
          added
      | else-is_exported w ↦
          subst (λ (gs : List (List ℕ × Target)). Exporting c.args.number c.args.globals.now gs c.args.symbols.now
          (c.loop-symbol.symbol-index + 1)) (sym w.globals-is)
          (exporting_skipped c.args.number c.args.globals.now c.loop-symbol.globals c.args.symbols.now c.loop-symbol.symbol-index
          c.symbol-item.result c.loop-symbol-test.true (sym c.symbol-item.is) c.loop-symbol.invariant
          (sym c.is_exported.ensures ∙ w.if-is_exported.false))
    ]

pub returns-clause-doubled : goal.returns-clause-doubled
returns-clause-doubled c =
    sym (exporting_none c.args.number c.args.globals.now c.loop-symbol.globals c.args.symbols.now c.loop-symbol.symbol-index
    c.loop-symbol-test.false c.loop-symbol.invariant)
