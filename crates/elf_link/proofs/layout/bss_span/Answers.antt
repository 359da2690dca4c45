use Rattle.std.proofs.Common.{◌≡◌, take, refl, ap, arith}
use Rattle.std.proofs.lemmas.List.Sums.{sum_by-take-le}
use Rattle.elf_link.specs.Layout.{bss_size, bss_room, extent}
use Rattle.elf_link.specs.Steps.{totals}
use Rattle.elf_link.proofs.FirstLaws.{item, within}
use Rattle.elf_link.proofs.LayoutLaws.{fits_at, extent-within}
use Rattle.elf_link.proofs.SpanLaws.{spans_next}
use Rattle.elf_link.proofs.layout.bss_span.Goals as goal

pub loop-object-init : goal.loop-object-init
unfolding extent
loop-object-init c = record { room = refl; end = refl }

pub behind-span-requires : goal.behind-span-requires
behind-span-requires c =
    let e = c.deref-object-items.ensures.value in
    let fits = fits_at c.args.objects.now.items c.loop-object.object-index c.object-item.result c.requires
    (within _ _ _ e c.loop-object-test.true) (item _ _ _ _ _ e c.loop-object-test.true c.object-item.is) in
    let size : c.object.inside.bss ≡ bss_size c.object-item.result = ap bss_size c.object.view_is in
    omega (arith, fits.bss, c.loop-object.invariant.room, size)

pub loop-object-preserved : goal.loop-object-preserved
loop-object-preserved c =
    let e = c.deref-object-items.ensures.value in
    let size : c.object.inside.bss ≡ bss_size c.object-item.result = ap bss_size c.object.view_is in
    spans_next bss_size c.args.objects.now.items c.loop-object.object-index c.object-item.result c.loop-object.span c.behind-span.result
    (c.object.inside.bss) (within _ _ _ e c.loop-object-test.true) (item _ _ _ _ _ e c.loop-object-test.true c.object-item.is) (size)
    c.loop-object.invariant c.behind-span.ensures

pub returns-clause-small : goal.returns-clause-small
unfolding totals
returns-clause-small c = omega (
  arith,
  c.loop-object.invariant.end,
  extent-within bss_size (take c.loop-object.object-index c.args.objects.now.items),
  sum_by-take-le bss_room c.args.objects.now.items c.loop-object.object-index,
  c.requires.memory,
)
