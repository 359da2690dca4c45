use Rattle.std.proofs.Common.{◌+◌, ◌*◌, ◌/◌, ◌≤◌, length, ap, ◌∙◌, arith}
use Rattle.std.specs.Prelude.{map}
use Rattle.std.proofs.lemmas.List.Elements.{All-push}
use Rattle.guest_ram.specs.Bytes.{word32}
use Rattle.elf_form.specs.Symbols.{entry, relocs_in}
use Rattle.elf_form.specs.KeptRelocs.{IsEntry}
use Rattle.elf_form.proofs.TableLaws.{entries-more, entries-end}
use Rattle.elf_form.proofs.AppendLaws.{one_more, no_more}
use Rattle.elf_form.proofs.entries.put_entries.Goals as goal

pub loop-i-preserved : goal.loop-i-preserved
loop-i-preserved c =
    let count = length c.contents.result.now / 8 in
    let at = c.word-first.result + 8 * c.loop-i.i in
    let more = ap (map (entry c.args.s)) (entries-more c.word-first.result 8 count c.loop-i.i c.loop-i-test.true) in
    let end : word32 c.args.bytes.now (c.args.s + 16) + length c.contents.result.now ≤ length c.args.bytes.now =
    c.contents.ensures.inside (omega arith) in
    let inside : IsEntry c.args.bytes.now (entry c.args.s at) = record { section = c.requires.section.0; at = omega arith } in
    rw c.in_ok-push.ensures.items (record {
      items = one_more c.loop-i.out.items (entry c.args.s at) _ _ more ∙ c.loop-i.invariant.items;
      inside = All-push (IsEntry c.args.bytes.now) c.loop-i.out.items (entry c.args.s at) c.loop-i.invariant.inside inside;
    })

pub returns-clause-items : goal.returns-clause-items
unfolding relocs_in
returns-clause-items c =
    let count = length c.contents.result.now / 8 in
    let none = ap (map (entry c.args.s)) (entries-end c.word-first.result 8 count c.loop-i.i c.loop-i-test.false) in
    rw (← c.word-first.ensures, ← c.contents.ensures.bytes) (no_more c.loop-i.out.items _ none ∙ c.loop-i.invariant.items)
