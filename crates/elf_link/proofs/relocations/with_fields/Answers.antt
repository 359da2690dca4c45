use Rattle.std.proofs.Common.{◌≡◌, length, ap, ◌∙◌, arith}
use Rattle.elf_form.specs.ObjectParts.{ObjectParts}
use Rattle.elf_link.specs.Relocations.{filled, contents_of}
use Rattle.elf_link.proofs.RelocLaws.{field_room, filled_room, fold-next, put_back}
use Rattle.elf_link.proofs.relocations.with_fields.Goals as goal

pub fill-requires : goal.fill-requires
fill-requires c =
    let e : c.deref-reloc-items.result.now ≡ c.args.object.now.relocs =
    c.deref-reloc-items.ensures.value ∙ ap (λ (o : ObjectParts). o.relocs) c.object.view_is in
    λ of. field_room c.args.object.now c.args.in_text c.deref-reloc-items.result.now c.loop-reloc.reloc-index _ c.deref_mut.result.now
    c.requires e c.loop-reloc-test.true (ap length c.deref_mut.ensures.value ∙ c.loop-reloc.invariant.room) of

pub loop-reloc-preserved : goal.loop-reloc-preserved
loop-reloc-preserved c =
    let e : c.deref-reloc-items.result.now ≡ c.args.object.now.relocs =
    c.deref-reloc-items.ensures.value ∙ ap (λ (o : ObjectParts). o.relocs) c.object.view_is in
    let next = fold-next (filled c.args.plan.now.bases.items c.args.plan.now.globals (c.args.number, c.args.object.now) c.args.in_text)
    (contents_of c.args.in_text c.args.object.now) c.args.object.now.relocs c.deref-reloc-items.result.now c.loop-reloc.reloc-index _ _
    c.fill.new.bytes e c.loop-reloc-test.true (c.deref_mut.ensures.value ∙ c.loop-reloc.invariant.so_far) c.fill.ensures in
    let room : length c.fill.new.bytes ≡ length (contents_of c.args.in_text c.args.object.now) = filled_room c.args.plan.now.bases.items
    c.args.plan.now.globals (c.args.number, c.args.object.now) c.args.in_text c.deref-reloc-items.result.now c.loop-reloc.reloc-index _
    c.deref_mut.result.now c.fill.new.bytes c.requires e c.loop-reloc-test.true
    (ap length c.deref_mut.ensures.value ∙ c.loop-reloc.invariant.room) c.fill.ensures in
    let len : length c.fill.new.bytes ≡ c.loop-reloc.bytes.len = omega (arith, room, c.loop-reloc.invariant.room, c.loop-reloc.bytes.ok) in
    record {
      so_far = put_back c.fill.new.bytes c.loop-reloc.bytes.items c.loop-reloc.bytes.len len ∙ next;
      room = ap length (put_back c.fill.new.bytes c.loop-reloc.bytes.items c.loop-reloc.bytes.len len) ∙ room;
    }
