use Rattle.std.proofs.Common.{◌≡◌, ◌+◌, ◌++◌, length, replicate, ap, ◌∙◌}
use Rattle.std.proofs.lemmas.Result.{on_ok_weaker}
use Rattle.elf_form.specs.ImageLayout.{init_from, names_from, body, section_names}
use Rattle.elf_form.specs.Output.{pad}
use Rattle.elf_form.proofs.AppendLaws.{chain_body}
use Rattle.elf_form.proofs.image_writing.put_body.Goals as goal

pub returns : goal.returns
unfolding body
returns c =
    let p = c.args.image.now in
    let text : c.deref.result.now ≡ c.args.image.now.text = c.deref.ensures.value ∙ ap (λ i. i.text) c.image.view_is in
    let init : c.deref-2.result.now ≡ c.args.image.now.init = c.deref-2.ensures.value ∙ ap (λ i. i.init) c.image.view_is in
    let sites : c.deref-3.result.now ≡ c.args.image.now.sites = c.deref-3.ensures.value ∙ ap (λ i. i.sites) c.image.view_is in
    on_ok_weaker c.put_padded-3.result
    (λ (is : c.put_padded-3.new.out.items ≡ c.extend_from_slice.new.self.items
    ++ (section_names ++ replicate (pad 4 (c.names_from.result + 38)) 0)).
    rw (is, c.in_ok-extend_from_slice.ensures.items, c.in_ok-put_padded-2.ensures, c.in_ok-put_padded.ensures)
    (rw (text, init, sites, c.init_from.ensures, c.names_from.ensures)
    (chain_body c.args.out.now.items p.text (replicate (pad 4096 (4096 + length p.text)) 0) p.init
    (replicate (pad 4 (init_from p + length p.init)) 0) p.sites (section_names ++ replicate (pad 4 (names_from p + 38)) 0))))
    c.put_padded-3.ensures
