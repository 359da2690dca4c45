use Rattle.std.proofs.Common.{◌≡◌, refl, ap, ◌∙◌, arith}
use Rattle.std.specs.Prelude.{vec_len}
use Rattle.elf_link.specs.Layout.{text_size, text_room, text_end, round_up}
use Rattle.elf_link.proofs.FirstLaws.{item, within}
use Rattle.elf_link.proofs.LayoutLaws.{fits_at, sum-more, text_end-more}
use Rattle.elf_link.proofs.layout.text_end.Goals as goal

pub loop-object-init : goal.loop-object-init
unfolding text_end
loop-object-init c = record { room = refl; end = refl }

pub overflow_add-end : goal.overflow_add-end
overflow_add-end c =
    let e = c.deref-object-items.ensures.value in
    let fits = fits_at c.args.objects.now.items c.loop-object.object-index c.object-item.result c.requires
    (within _ _ _ e c.loop-object-test.true) (item _ _ _ _ _ e c.loop-object-test.true c.object-item.is) in
    let size : vec_len c.object.inside.text ≡ text_size c.object-item.result =
    omega (arith, c.object.inside.text.ok, ap text_size c.object.view_is) in
    omega (arith, fits.text, c.loop-object.invariant.room, size, c.len.ensures)

pub overflow_add-at : goal.overflow_add-at
overflow_add-at c =
    let e = c.deref-object-items.ensures.value in
    let fits = fits_at c.args.objects.now.items c.loop-object.object-index c.object-item.result c.requires
    (within _ _ _ e c.loop-object-test.true) (item _ _ _ _ _ e c.loop-object-test.true c.object-item.is) in
    let size : vec_len c.object.inside.text ≡ text_size c.object-item.result =
    omega (arith, c.object.inside.text.ok, ap text_size c.object.view_is) in
    let room : c.round_up-at.result ≡ text_room c.object-item.result =
    c.round_up-at.ensures ∙ ap (round_up 16) (c.len-in-loop-object.ensures ∙ size) in
    omega (arith, fits.text, c.loop-object.invariant.room, room)

pub loop-object-preserved : goal.loop-object-preserved
loop-object-preserved c =
    let e = c.deref-object-items.ensures.value in
    let lt = within _ _ _ e c.loop-object-test.true in
    let is = item _ _ _ _ _ e c.loop-object-test.true c.object-item.is in
    let size : vec_len c.object.inside.text ≡ text_size c.object-item.result =
    omega (arith, c.object.inside.text.ok, ap text_size c.object.view_is) in
    let room : c.round_up-at.result ≡ text_room c.object-item.result =
    c.round_up-at.ensures ∙ ap (round_up 16) (c.len-in-loop-object.ensures ∙ size) in
    record {
      room = omega (
        arith,
        room,
        c.loop-object.invariant.room,
        sum-more text_room c.args.objects.now.items c.loop-object.object-index c.object-item.result lt is,
      );
      end = omega (
        arith,
        c.len.ensures,
        size,
        c.loop-object.invariant.room,
        text_end-more c.args.objects.now.items c.loop-object.object-index c.object-item.result lt is,
      );
    }
