use Rattle.std.proofs.lemmas.Result.{IfOk-from_err}
use Rattle.std.proofs.Common.{◌≡◌, ◌++◌, ◌∷◌, [], List, take, refl, sym, ap, ◌∙◌, arith}
use Rattle.elf_link.specs.Layout.{text_size, text_room, init_size, init_room, bss_size, bss_room, round_up, bases}
use Rattle.elf_link.specs.declared.base.Base.{Base}
use Rattle.elf_link.proofs.FirstLaws.{item, within, past}
use Rattle.elf_link.proofs.LayoutLaws.{fits_at}
use Rattle.elf_link.proofs.BaseLaws.{begins_next, begins_base, bases-more, bases-end}
use Rattle.elf_link.proofs.layout.bases.Goals as goal

pub overflow_cast-text : goal.overflow_cast-text
overflow_cast-text c =
    let e = c.deref-object-items.ensures.value in
    let lt = within _ _ _ e c.loop-object-test.true in
    let is = item _ _ _ _ _ e c.loop-object-test.true c.object-item.is in
    let fits = fits_at c.args.objects.now.items c.loop-object.object-index c.object-item.result c.requires lt is in
    let text : c.round_up.result ≡ text_room c.object-item.result =
    c.round_up.ensures ∙ ap (round_up 16) (c.len.ensures ∙ omega (arith, c.object.inside.text.ok, ap text_size c.object.view_is)) in
    omega (arith, fits.text, text)

pub overflow_add-text : goal.overflow_add-text
overflow_add-text c =
    let e = c.deref-object-items.ensures.value in
    let lt = within _ _ _ e c.loop-object-test.true in
    let is = item _ _ _ _ _ e c.loop-object-test.true c.object-item.is in
    let fits = fits_at c.args.objects.now.items c.loop-object.object-index c.object-item.result c.requires lt is in
    let text : c.round_up.result ≡ text_room c.object-item.result =
    c.round_up.ensures ∙ ap (round_up 16) (c.len.ensures ∙ omega (arith, c.object.inside.text.ok, ap text_size c.object.view_is)) in
    omega (arith, fits.text, text, c.loop-object.invariant.begins.text)

pub overflow_add-init : goal.overflow_add-init
overflow_add-init c =
    let e = c.deref-object-items.ensures.value in
    let lt = within _ _ _ e c.loop-object-test.true in
    let is = item _ _ _ _ _ e c.loop-object-test.true c.object-item.is in
    let fits = fits_at c.args.objects.now.items c.loop-object.object-index c.object-item.result c.requires lt is in
    let init : c.round_up-in-loop-object.result ≡ init_room c.object-item.result = c.round_up-in-loop-object.ensures
    ∙ ap (round_up 4096) (c.len-in-loop-object.ensures ∙ omega (arith, c.object.inside.init.ok, ap init_size c.object.view_is)) in
    omega (arith, fits.init, init, c.loop-object.invariant.begins.init)

pub overflow_cast-bss-in-loop-object : goal.overflow_cast-bss-in-loop-object
overflow_cast-bss-in-loop-object c =
    let e = c.deref-object-items.ensures.value in
    let lt = within _ _ _ e c.loop-object-test.true in
    let is = item _ _ _ _ _ e c.loop-object-test.true c.object-item.is in
    let fits = fits_at c.args.objects.now.items c.loop-object.object-index c.object-item.result c.requires lt is in
    let bss : c.round_up-in-loop-object-2.result ≡ bss_room c.object-item.result =
    c.round_up-in-loop-object-2.ensures ∙ ap (round_up 4096) (ap bss_size c.object.view_is) in
    omega (arith, fits.bss, bss)

pub overflow_add-bss-in-loop-object : goal.overflow_add-bss-in-loop-object
overflow_add-bss-in-loop-object c =
    let e = c.deref-object-items.ensures.value in
    let lt = within _ _ _ e c.loop-object-test.true in
    let is = item _ _ _ _ _ e c.loop-object-test.true c.object-item.is in
    let fits = fits_at c.args.objects.now.items c.loop-object.object-index c.object-item.result c.requires lt is in
    let bss : c.round_up-in-loop-object-2.result ≡ bss_room c.object-item.result =
    c.round_up-in-loop-object-2.ensures ∙ ap (round_up 4096) (ap bss_size c.object.view_is) in
    omega (arith, fits.bss, bss, c.loop-object.invariant.begins.bss)

pub loop-object-preserved : goal.loop-object-preserved
loop-object-preserved c =
    let e = c.deref-object-items.ensures.value in
    let lt = within _ _ _ e c.loop-object-test.true in
    let is = item _ _ _ _ _ e c.loop-object-test.true c.object-item.is in
    let text : c.round_up.result ≡ text_room c.object-item.result =
    c.round_up.ensures ∙ ap (round_up 16) (c.len.ensures ∙ omega (arith, c.object.inside.text.ok, ap text_size c.object.view_is)) in
    let init : c.round_up-in-loop-object.result ≡ init_room c.object-item.result = c.round_up-in-loop-object.ensures
    ∙ ap (round_up 4096) (c.len-in-loop-object.ensures ∙ omega (arith, c.object.inside.init.ok, ap init_size c.object.view_is)) in
    let bss : c.round_up-in-loop-object-2.result ≡ bss_room c.object-item.result =
    c.round_up-in-loop-object-2.ensures ∙ ap (round_up 4096) (ap bss_size c.object.view_is) in
    record {
      so_far =
          c.in_ok-push.ensures.items
          ∙ (ap (λ (bs : List Base). bs ++ record { text = c.loop-object.text; init = c.loop-object.init; bss = c.loop-object.bss } ∷ [])
          c.loop-object.invariant.so_far
          ∙ (ap (λ (b : Base). take c.loop-object.object-index (bases c.args.objects.now.items) ++ b ∷ [])
          (sym (begins_base _ _ _ _ _ c.loop-object.invariant.begins))
          ∙ sym (bases-more c.args.objects.now.items c.loop-object.object-index c.object-item.result lt is)));
      begins = begins_next c.args.objects.now.items c.loop-object.object-index c.object-item.result _ _ _ _ _ _ lt is
          c.loop-object.invariant.begins text init bss;
    }

pub returns : goal.returns
returns c =
    let e = c.deref-object-items.ensures.value in
    c.loop-object.invariant.so_far ∙ bases-end c.args.objects.now.items c.loop-object.object-index (past _ _ _ e c.loop-object-test.false)

pub init_span-requires : goal.init_span-requires
init_span-requires c = c.requires

pub overflow_cast-bss : goal.overflow_cast-bss
overflow_cast-bss c = omega (arith, c.init_span.ensures.small.0)

pub overflow_add-bss : goal.overflow_add-bss
overflow_add-bss c = omega (arith, c.init_span.ensures.small.0)

pub loop-object-init : goal.loop-object-init
loop-object-init c =
    record { so_far = c.new-out.ensures.items; begins = record { text = refl; init = refl; bss = omega (arith, c.init_span.ensures.room) } }

pub overflow_cast-init : goal.overflow_cast-init
overflow_cast-init c =
    let e = c.deref-object-items.ensures.value in
    let lt = within _ _ _ e c.loop-object-test.true in
    let is = item _ _ _ _ _ e c.loop-object-test.true c.object-item.is in
    let fits = fits_at c.args.objects.now.items c.loop-object.object-index c.object-item.result c.requires lt is in
    let init : c.round_up-in-loop-object.result ≡ init_room c.object-item.result = c.round_up-in-loop-object.ensures
    ∙ ap (round_up 4096) (c.len-in-loop-object.ensures ∙ omega (arith, c.object.inside.init.ok, ap init_size c.object.view_is)) in
    omega (arith, fits.init, init)

pub returns-in_err-push : goal.returns-in_err-push
returns-in_err-push c = IfOk-from_err c.from_residual.result _ c.from_residual.ensures.0
