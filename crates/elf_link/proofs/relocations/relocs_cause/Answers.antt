use Rattle.std.proofs.Common.{◌≡◌, refl, sym, ap, ◌∙◌}
use Rattle.elf_form.specs.ObjectParts.{ObjectParts}
use Rattle.elf_link.specs.Relocations.{reloc_cause}
use Rattle.elf_link.proofs.FirstLaws.{first_here, first_next, first_end, item, within, past, none_is}
use Rattle.elf_link.proofs.relocations.relocs_cause.Goals as goal

pub returns-then-is_some : goal.returns-then-is_some
returns-then-is_some c =
    let e : c.deref-reloc-items.result.now ≡ c.args.object.now.relocs =
    c.deref-reloc-items.ensures.value ∙ ap (λ (o : ObjectParts). o.relocs) c.object.view_is in
    sym (first_here (reloc_cause c.args.globals.now (c.args.number, c.args.object.now)) c.args.object.now.relocs c.loop-reloc.reloc-index _
    _ (within _ _ _ e c.loop-reloc-test.true) (item _ _ _ _ _ e c.loop-reloc-test.true refl) c.loop-reloc.invariant
    (sym c.in_ok-cause.ensures) (sym c.is_some.ensures ∙ c.if-is_some.true))

pub loop-reloc-preserved : goal.loop-reloc-preserved
loop-reloc-preserved c =
    let e : c.deref-reloc-items.result.now ≡ c.args.object.now.relocs =
    c.deref-reloc-items.ensures.value ∙ ap (λ (o : ObjectParts). o.relocs) c.object.view_is in
    first_next (reloc_cause c.args.globals.now (c.args.number, c.args.object.now)) c.args.object.now.relocs c.loop-reloc.reloc-index _
    (within _ _ _ e c.loop-reloc-test.true) (item _ _ _ _ _ e c.loop-reloc-test.true refl) c.loop-reloc.invariant
    (sym c.in_ok-cause.ensures ∙ none_is c.in_ok-cause.cause (sym c.is_some.ensures ∙ c.if-is_some.false))

pub returns : goal.returns
returns c =
    let e : c.deref-reloc-items.result.now ≡ c.args.object.now.relocs =
    c.deref-reloc-items.ensures.value ∙ ap (λ (o : ObjectParts). o.relocs) c.object.view_is in
    sym (first_end (reloc_cause c.args.globals.now (c.args.number, c.args.object.now)) c.args.object.now.relocs c.loop-reloc.reloc-index
    (past _ _ _ e c.loop-reloc-test.false) c.loop-reloc.invariant)
