use Rattle.std.proofs.Common.{ℕ, get_or, sym, ◌∙◌, arith, below_more, subst}
use Rattle.std.proofs.lemmas.List.{get_or_default}
use Rattle.elf_form.specs.ObjectParts.{ObjectParts}
use Rattle.elf_form.specs.Linkable.{IsLinkable}
use Rattle.elf_link.proofs.FirstLaws.{item, within, past}
use Rattle.elf_link.proofs.linkable.are_linkable.Goals as goal

pub loop-object-preserved : goal.loop-object-preserved
loop-object-preserved c =
    let e = c.deref-object-items.ensures.value in
    let lt = within _ _ _ e c.loop-object-test.true in
    let is = item _ _ _ _ _ e c.loop-object-test.true c.object-item.is in
    below_more (λ (k : ℕ). (d : ObjectParts) → IsLinkable (get_or c.args.objects.now.items k d)) c.loop-object.object-index
    c.loop-object.invariant
    (λ d. subst (λ (o : ObjectParts). IsLinkable o)
    (sym is ∙ get_or_default c.args.objects.now.items c.loop-object.object-index c.object-item.result d lt)
    (c.is_linkable.ensures.sound c.if-not-is_linkable.false))

pub returns-clause-sound : goal.returns-clause-sound
returns-clause-sound c =
    let end = past _ _ _ c.deref-object-items.ensures.value c.loop-object-test.false in
    λ _. (λ k d h. c.loop-object.invariant k (omega (arith, end)) d)
