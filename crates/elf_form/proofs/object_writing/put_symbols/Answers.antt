use Rattle.std.proofs.Common.{◌≡◌, ◌<◌, ◌^◌, List, ◌++◌, replicate, ◌∙◌, subst}
use Rattle.std.specs.Prelude.{All}
use Rattle.std.specs.List.{flat_map}
use Rattle.std.proofs.lemmas.List.{take_all}
use Rattle.elf_form.specs.declared.object.Symbol.{Symbol}
use Rattle.elf_form.specs.ObjectLayout.{symbol_bytes}
use Rattle.std.proofs.lemmas.List.Elements.{All-more}
use Rattle.elf_form.proofs.SymbolNames.{symbols-more}
use Rattle.elf_form.proofs.object_writing.put_symbols.Goals as goal

pub loop-s-preserved : goal.loop-s-preserved
loop-s-preserved c = record {
  bytes = λ names has.
      c.in_ok-put_symbol.ensures.bytes names has ∙ symbols-more names c.args.symbols.now c.loop-s.s-index c.s-item.result
      c.args.out.now.items c.loop-s.out.items c.loop-s-test.true c.s-item.is (c.loop-s.invariant.bytes names has);
  values = All-more (λ s. s.value < 2 ^ 32) c.args.symbols.now c.loop-s.s-index c.s-item.result c.loop-s-test.true c.loop-s.invariant.values
      (subst (λ (s : Symbol). s.value < 2 ^ 32) c.s-item.is c.put_symbol.ensures.value);
}

pub returns-clause-bytes : goal.returns-clause-bytes
returns-clause-bytes c = λ names has.
    subst (λ (symbols : List Symbol). c.loop-s.out.items ≡ c.args.out.now.items
    ++ (replicate 16 0 ++ flat_map (symbol_bytes names) symbols)) (take_all c.loop-s.s-index c.args.symbols.now c.loop-s-test.false)
    (c.loop-s.invariant.bytes names has)

pub returns-clause-values : goal.returns-clause-values
returns-clause-values c =
    subst (λ (symbols : List Symbol). All (λ s. s.value < 2 ^ 32) symbols)
    (take_all c.loop-s.s-index c.args.symbols.now c.loop-s-test.false) c.loop-s.invariant.values
