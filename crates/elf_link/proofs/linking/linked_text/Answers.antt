use Rattle.std.proofs.Common.{◌++◌, ◌∷◌, [], List, ℕ, take, true, ap, ◌∙◌}
use Rattle.elf_link.specs.Layout.{text_end}
use Rattle.elf_link.specs.Linked.{padded, linked_text}
use Rattle.elf_link.proofs.FirstLaws.{item, within, past}
use Rattle.elf_link.proofs.JoinLaws.{joined-more, joined-all}
use Rattle.elf_link.proofs.linking.linked_text.Goals as goal

pub loop-i-preserved : goal.loop-i-preserved
loop-i-preserved c =
    let e = c.deref-object-items.ensures.value in
    joined-more c.args.objects.now.items 16 0x90 true c.loop-i.i c.object-item.result c.args.plan.now.bases.items c.args.plan.now.globals
    c.loop-i.out.items c.put_padded.new.out.items c.in_ok-text.text.items (within _ _ _ e c.loop-i-test.true)
    (item _ _ _ _ _ e c.loop-i-test.true c.object-item.is) c.requires.plan.bases c.requires.plan.globals c.loop-i.invariant
    c.in_ok-text.ensures
    (c.in_ok-put_padded.ensures ∙ ap (λ (bytes : List ℕ). c.loop-i.out.items ++ padded 16 0x90 bytes) c.deref.ensures.value)

pub returns : goal.returns
unfolding linked_text
returns c =
    let whole = c.loop-i.invariant ∙ joined-all c.args.objects.now.items 16 0x90 true c.loop-i.i
    (past _ _ _ c.deref-object-items.ensures.value c.loop-i-test.false) in
    c.in_ok-extend_from_slice.ensures.items
    ∙ ap (λ (bytes : List ℕ). bytes ++ (0xEB ∷ 0xFE ∷ []))
    (c.truncate.ensures.items
    ∙ (ap (λ (n : ℕ). take n c.loop-i.out.items) c.text_end.ensures ∙ ap (take (text_end c.args.objects.now.items)) whole))
