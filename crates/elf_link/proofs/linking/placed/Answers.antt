use Rattle.std.proofs.lemmas.Result.{IfOk-from_err}
use Rattle.std.proofs.Common.{◌≡◌, ℕ, ◌+◌, ◌-◌, ◌≤◌, length, refl, sym, ap, ◌∙◌, arith}
use Rattle.sites.specs.Spelling.{spelling}
use Rattle.sites.specs.Limits.{in_text}
use Rattle.sites.proofs.TextSites.{in_form, in_gaps, length-spelling}
use Rattle.elf_link.specs.Linked.{linked_text}
use Rattle.elf_link.specs.Layout.{init_end, memory_end, text_end}
use Rattle.elf_link.proofs.SiteLaws.{sites_in_form, below-wider}
use Rattle.elf_link.proofs.LayoutLaws.{init_end-le, memory_fits}
use Rattle.elf_link.proofs.LinkLaws.{image_is, length-linked_text, length-linked_init, writable}
use Rattle.elf_link.proofs.linking.placed.Goals as goal

pub write_sites-requires-clause-sites : goal.write_sites-requires-clause-sites
write_sites-requires-clause-sites c =
    let text : length c.in_ok-text.text.items ≡ text_end c.args.objects.now.items + 2 =
    ap length c.in_ok-text.ensures ∙ length-linked_text c.args.objects.now.items c.requires.linkable in
    c.of_text-sites.ensures.writable (sites_in_form 0 c.args.sites.items c.requires.gathered.below.form)
    (λ long. c.requires.gathered.gaps (omega (arith, text, c.len.ensures, long)))

pub overflow_sub-result : goal.overflow_sub-result
overflow_sub-result c =
    omega (arith, c.init_end-init_end.ensures, c.memory_end.ensures, init_end-le c.args.objects.now.items)

pub overflow_cast-result : goal.overflow_cast-result
overflow_cast-result c =
    omega (arith, c.init_end-init_end.ensures, c.memory_end.ensures, memory_fits c.args.objects.now.items c.requires.gathered.within)

pub returns-clause-image : goal.returns-clause-image
returns-clause-image c =
    let bss : c.memory_end.result - c.init_end-init_end.result ≡ memory_end c.args.objects.now.items - init_end c.args.objects.now.items =
    λ j. c.memory_end.ensures j - c.init_end-init_end.ensures j in
    let long : c.len.result ≡ length c.in_ok-text.text.items = omega (arith, c.len.ensures, c.in_ok-text.text.ok) in
    let len : c.len.result ≡ length (linked_text c.args.objects.now.items) = long ∙ ap length c.in_ok-text.ensures in
    sym (image_is c.args.objects.now.items c.in_ok-text.text.items c.in_ok-init.init.items c.in_ok-sites.sites.items _ c.args.entry
    c.in_ok-text.ensures c.in_ok-init.ensures bss c.requires.entry
    (c.in_ok-sites.ensures.spelling ∙ ap spelling (c.of_text-sites.ensures.sites ∙ (λ j. in_text (len j) (c.requires.gathered.moved j)))))

pub returns-clause-laid_out : goal.returns-clause-laid_out
returns-clause-laid_out c =
    let text : length c.in_ok-text.text.items ≡ text_end c.args.objects.now.items + 2 =
    ap length c.in_ok-text.ensures ∙ length-linked_text c.args.objects.now.items c.requires.linkable in
    let init : length c.in_ok-init.init.items ≡ init_end c.args.objects.now.items =
    ap length c.in_ok-init.ensures ∙ length-linked_init c.args.objects.now.items c.requires.linkable in
    let memory = memory_fits c.args.objects.now.items c.requires.gathered.within in
    let room : length c.in_ok-init.init.items + (c.memory_end.result - c.init_end-init_end.result) ≤ 33554432 =
    omega (arith, init, memory, c.memory_end.ensures, c.init_end-init_end.ensures, init_end-le c.args.objects.now.items) in
    let len : c.len.result ≡ length c.in_ok-text.text.items = omega (arith, c.len.ensures, c.in_ok-text.text.ok) in
    record {
      text_at = refl;
      init_at = refl;
      text = (omega (arith, text), omega (arith, text, c.requires.gathered.fits));
      room = room;
      sites = c.args.sites.items;
      annotated =
          c.in_ok-sites.ensures.spelling ∙ ap spelling (c.of_text-sites.ensures.sites ∙ ap (λ (n : ℕ). in_text n c.args.sites.items) len);
      form = in_form (length c.in_ok-text.text.items) c.args.sites.items c.requires.gathered.below.form
          (λ long. in_gaps 0 (text_end c.args.objects.now.items) c.args.sites.items (c.requires.gathered.gaps (omega (arith, text, long)))
          c.requires.gathered.below.below (omega (arith, c.requires.gathered.fits)));
      inside = below-wider (text_end c.args.objects.now.items) (length c.in_ok-text.text.items) c.args.sites.items (omega (arith, text))
          c.requires.gathered.below.below;
    }

pub returns-clause-writable : goal.returns-clause-writable
returns-clause-writable c =
    let text : length c.in_ok-text.text.items ≡ text_end c.args.objects.now.items + 2 =
    ap length c.in_ok-text.ensures ∙ length-linked_text c.args.objects.now.items c.requires.linkable in
    let init : length c.in_ok-init.init.items ≡ init_end c.args.objects.now.items =
    ap length c.in_ok-init.ensures ∙ length-linked_init c.args.objects.now.items c.requires.linkable in
    let memory = memory_fits c.args.objects.now.items c.requires.gathered.within in
    let room : length c.in_ok-init.init.items + (c.memory_end.result - c.init_end-init_end.result) ≤ 33554432 =
    omega (arith, init, memory, c.memory_end.ensures, c.init_end-init_end.ensures, init_end-le c.args.objects.now.items) in
    writable _ (omega (arith, text, c.requires.gathered.fits)) room
    (omega (
      arith,
      ap length c.in_ok-sites.ensures.spelling,
      length-spelling c.of_text-sites.result,
      ap (λ s. length s.list) c.of_text-sites.ensures.sites,
      c.requires.gathered.count,
    ))

pub returns-in_err-text-clause-image : goal.returns-in_err-text-clause-image
returns-in_err-text-clause-image c = IfOk-from_err c.from_residual.result _ c.from_residual.ensures.0

pub returns-in_err-text-clause-laid_out : goal.returns-in_err-text-clause-laid_out
returns-in_err-text-clause-laid_out c = IfOk-from_err c.from_residual.result _ c.from_residual.ensures.0

pub returns-in_err-text-clause-writable : goal.returns-in_err-text-clause-writable
returns-in_err-text-clause-writable c = IfOk-from_err c.from_residual.result _ c.from_residual.ensures.0

pub returns-in_err-text-clause-longs : goal.returns-in_err-text-clause-longs
returns-in_err-text-clause-longs c = IfOk-from_err c.from_residual.result _ c.from_residual.ensures.0

pub returns-in_err-init-clause-image : goal.returns-in_err-init-clause-image
returns-in_err-init-clause-image c = IfOk-from_err c.from_residual-in_err-init.result _ c.from_residual-in_err-init.ensures.0

pub returns-in_err-init-clause-laid_out : goal.returns-in_err-init-clause-laid_out
returns-in_err-init-clause-laid_out c = IfOk-from_err c.from_residual-in_err-init.result _ c.from_residual-in_err-init.ensures.0

pub returns-in_err-init-clause-writable : goal.returns-in_err-init-clause-writable
returns-in_err-init-clause-writable c = IfOk-from_err c.from_residual-in_err-init.result _ c.from_residual-in_err-init.ensures.0

pub returns-in_err-init-clause-longs : goal.returns-in_err-init-clause-longs
returns-in_err-init-clause-longs c = IfOk-from_err c.from_residual-in_err-init.result _ c.from_residual-in_err-init.ensures.0

pub returns-in_err-sites-clause-image : goal.returns-in_err-sites-clause-image
returns-in_err-sites-clause-image c = IfOk-from_err c.from_residual-in_err-sites.result _ c.from_residual-in_err-sites.ensures.0

pub returns-in_err-sites-clause-laid_out : goal.returns-in_err-sites-clause-laid_out
returns-in_err-sites-clause-laid_out c = IfOk-from_err c.from_residual-in_err-sites.result _ c.from_residual-in_err-sites.ensures.0

pub returns-in_err-sites-clause-writable : goal.returns-in_err-sites-clause-writable
returns-in_err-sites-clause-writable c = IfOk-from_err c.from_residual-in_err-sites.result _ c.from_residual-in_err-sites.ensures.0

pub returns-in_err-sites-clause-longs : goal.returns-in_err-sites-clause-longs
returns-in_err-sites-clause-longs c = IfOk-from_err c.from_residual-in_err-sites.result _ c.from_residual-in_err-sites.ensures.0

pub init_end-init_end-requires : goal.init_end-init_end-requires
init_end-init_end-requires c = c.requires.gathered.within

pub memory_end-requires : goal.memory_end-requires
memory_end-requires c = c.requires.gathered.within

pub linked_text-requires-clause-few : goal.linked_text-requires-clause-few
linked_text-requires-clause-few c = c.requires.few

pub linked_text-requires-clause-linkable : goal.linked_text-requires-clause-linkable
linked_text-requires-clause-linkable c = c.requires.linkable

pub linked_text-requires-clause-within : goal.linked_text-requires-clause-within
linked_text-requires-clause-within c = c.requires.gathered.within

pub linked_text-requires-clause-plan : goal.linked_text-requires-clause-plan
linked_text-requires-clause-plan c = c.requires.plan

pub linked_init-requires-clause-few : goal.linked_init-requires-clause-few
linked_init-requires-clause-few c = c.requires.few

pub linked_init-requires-clause-linkable : goal.linked_init-requires-clause-linkable
linked_init-requires-clause-linkable c = c.requires.linkable

pub linked_init-requires-clause-within : goal.linked_init-requires-clause-within
linked_init-requires-clause-within c = c.requires.gathered.within

pub linked_init-requires-clause-plan : goal.linked_init-requires-clause-plan
linked_init-requires-clause-plan c = c.requires.plan

pub write_sites-requires-clause-count : goal.write_sites-requires-clause-count
write_sites-requires-clause-count c = omega (arith, ap (λ s. length s.list) c.of_text-sites.ensures.sites, c.requires.gathered.count)
