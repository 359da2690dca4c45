use Rattle.std.proofs.Common.{◌≡◌, ◌+◌, ◌++◌, length, replicate, ap, ◌∙◌, lit<, lit≤}
use Rattle.std.proofs.lemmas.Result.{on_ok_weaker}
use Rattle.elf_form.specs.ObjectLayout.{layout, object_parts}
use Rattle.elf_form.specs.Output.{pad}
use Rattle.elf_form.proofs.AppendLaws.{chain_parts}
use Rattle.elf_form.proofs.ObjectSizes.{part_small, init_placed, sites_placed}
use Rattle.elf_form.proofs.object_writing.put_parts.Goals as goal

pub put_padded-requires : goal.put_padded-requires
put_padded-requires c = record { size = lit≤ tt; from = lit< tt }

pub put_padded-requires-2 : goal.put_padded-requires-2
put_padded-requires-2 c = record {
  size = lit≤ tt;
  from = rw c.requires.layout (part_small c.args.object.now _ c.requires.writable (init_placed c.args.object.now));
}

pub put_padded-requires-3 : goal.put_padded-requires-3
put_padded-requires-3 c = record {
  size = lit≤ tt;
  from = rw c.requires.layout (part_small c.args.object.now _ c.requires.writable (sites_placed c.args.object.now));
}

pub returns : goal.returns
unfolding object_parts
returns c =
    let o = c.args.object.now in
    let text : c.deref.result.now ≡ c.args.object.now.text = c.deref.ensures.value ∙ ap (λ o. o.text) c.object.view_is in
    let init : c.deref-2.result.now ≡ c.args.object.now.init = c.deref-2.ensures.value ∙ ap (λ o. o.init) c.object.view_is in
    let sites : c.deref-3.result.now ≡ c.args.object.now.sites = c.deref-3.ensures.value ∙ ap (λ o. o.sites) c.object.view_is in
    on_ok_weaker c.put_padded-3.result
    (λ (is : c.put_padded-3.new.out.items ≡ c.put_padded-2.new.out.items
    ++ (c.deref-3.result.now ++ replicate (pad 4 (c.args.layout.now.sites + length c.deref-3.result.now)) 0)).
    rw (is, c.in_ok-put_padded-2.ensures, c.in_ok-put_padded.ensures)
    (rw (text, init, sites, c.requires.layout)
    (chain_parts c.args.out.now.items o.text (replicate (pad 4 (52 + length o.text)) 0) o.init
    (replicate (pad 4 ((layout o).init + length o.init)) 0) o.sites (replicate (pad 4 ((layout o).sites + length o.sites)) 0))))
    c.put_padded-3.ensures
