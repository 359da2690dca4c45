use Rattle.std.proofs.Common.{◌≡◌, ◌+◌, ◌++◌, true, false, length, replicate, ap, ◌∙◌}
use Rattle.std.proofs.lemmas.Result.{on_ok_weaker}
use Rattle.elf_form.specs.ObjectLayout.{layout, names_of, strings_of, reloc_table, object_names, symbol_table, object_tables}
use Rattle.elf_form.specs.Output.{pad}
use Rattle.elf_form.proofs.AppendLaws.{chain_tables}
use Rattle.elf_form.proofs.ObjectSizes.{relocs_small, part_small, strings_placed, names_placed}
use Rattle.elf_form.proofs.object_writing.put_tables.Goals as goal

pub returns-clause-bytes : goal.returns-clause-bytes
unfolding object_tables symbol_table
returns-clause-bytes c =
    let o = c.args.object.now in
    let relocs : c.deref.result.now ≡ c.args.object.now.relocs = c.deref.ensures.value ∙ ap (λ o. o.relocs) c.object.view_is in
    let again : c.deref-2.result.now ≡ c.args.object.now.relocs = c.deref-2.ensures.value ∙ ap (λ o. o.relocs) c.object.view_is in
    let symbols : c.deref-3.result.now ≡ c.args.object.now.symbols = c.deref-3.ensures.value ∙ ap (λ o. o.symbols) c.object.view_is in
    on_ok_weaker c.put_padded-2.result
    (λ (is : c.put_padded-2.new.out.items ≡ c.put_padded.new.out.items
    ++ (object_names ++ replicate (pad 4 (c.args.layout.now.names + 74)) 0)). rw (
      is,
      c.in_ok-put_padded.ensures,
      c.in_ok-put_symbols.ensures.bytes (names_of c.args.object.now.symbols) c.requires.places,
      c.in_ok-put_relocs-2.ensures,
      c.in_ok-put_relocs.ensures,
    )
    (rw (relocs, again, symbols, c.requires.layout, c.requires.strings)
    (chain_tables c.args.out.now.items (reloc_table true o.relocs) (reloc_table false o.relocs) (symbol_table o.symbols)
    (strings_of o.symbols) (replicate (pad 4 ((layout o).strings + length (strings_of o.symbols))) 0)
    (object_names ++ replicate (pad 4 ((layout o).names + 74)) 0))))
    c.put_padded-2.ensures

pub put_relocs-requires : goal.put_relocs-requires
put_relocs-requires c =
    let relocs : c.deref.result.now ≡ c.args.object.now.relocs = c.deref.ensures.value ∙ ap (λ o. o.relocs) c.object.view_is in
    rw relocs (relocs_small c.args.object.now c.requires.writable)

pub put_relocs-requires-2 : goal.put_relocs-requires-2
put_relocs-requires-2 c =
    let relocs : c.deref-2.result.now ≡ c.args.object.now.relocs = c.deref-2.ensures.value ∙ ap (λ o. o.relocs) c.object.view_is in
    rw relocs (relocs_small c.args.object.now c.requires.writable)

pub put_padded-requires-clause-from : goal.put_padded-requires-clause-from
put_padded-requires-clause-from c =
    rw c.requires.layout (part_small c.args.object.now _ c.requires.writable (strings_placed c.args.object.now))

pub put_padded-requires-2-clause-from : goal.put_padded-requires-2-clause-from
put_padded-requires-2-clause-from c =
    rw c.requires.layout (part_small c.args.object.now _ c.requires.writable (names_placed c.args.object.now))
