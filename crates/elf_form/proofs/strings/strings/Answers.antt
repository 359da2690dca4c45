use Rattle.std.proofs.Common.{List, [], length, take, ap, subst, arith}
use Rattle.std.proofs.lemmas.List.{take_all}
use Rattle.elf_form.specs.declared.object.Symbol.{Symbol}
use Rattle.std.specs.Map.{lookup}
use Rattle.std.specs.Str.{bytes_eq}
use Rattle.elf_form.specs.StringTable.{with_name, table_bytes}
use Rattle.elf_form.specs.Writable.{IsStringTable}
use Rattle.elf_form.specs.ObjectLayout.{names_of}
use Rattle.elf_form.proofs.SymbolNames.{names_of-fits, names_of-more}
use Rattle.elf_form.proofs.strings.strings.Goals as goal

pub loop-s-init : goal.loop-s-init
unfolding names_of table_bytes
loop-s-init c =
    c.in_ok-put_name.ensures []
    (record {
      bytes = c.new-strings.ensures.items;
      has = record { places = λ q. ap (lookup (λ k. bytes_eq q k.now)) c.new-places.ensures.empty };
    })

pub put_name-requires-in-loop-s : goal.put_name-requires-in-loop-s
put_name-requires-in-loop-s c = omega (arith, names_of-fits c.args.symbols.now c.loop-s.s-index, ap length c.loop-s.invariant.bytes)

pub loop-s-preserved : goal.loop-s-preserved
loop-s-preserved c =
    rw (names_of-more c.args.symbols.now c.loop-s.s-index c.s-item.result c.loop-s-test.true c.s-item.is)
    (subst (λ name. IsStringTable (with_name (names_of (take c.loop-s.s-index c.args.symbols.now)) name)
    c.put_name-in-loop-s.new.strings.items c.put_name-in-loop-s.new.places) c.bytes_of.ensures (c.in_ok-put_name-2.ensures _
    c.loop-s.invariant))

pub put_name-requires : goal.put_name-requires
put_name-requires c = omega (arith, ap length c.new-strings.ensures.items)

pub returns : goal.returns
returns c =
    subst (λ (symbols : List Symbol). IsStringTable (names_of symbols) c.loop-s.strings.items c.loop-s.places)
    (take_all c.loop-s.s-index c.args.symbols.now c.loop-s-test.false) c.loop-s.invariant
