use Rattle.std.proofs.Common.{◌++◌, List, ℕ, take, false, ap, ◌∙◌}
use Rattle.elf_link.specs.Layout.{init_end}
use Rattle.elf_link.specs.Linked.{padded, linked_init}
use Rattle.elf_link.proofs.FirstLaws.{item, within, past}
use Rattle.elf_link.proofs.JoinLaws.{joined-more, joined-all}
use Rattle.elf_link.proofs.linking.linked_init.Goals as goal

pub loop-i-preserved : goal.loop-i-preserved
loop-i-preserved c =
    let e = c.deref-object-items.ensures.value in
    joined-more c.args.objects.now.items 4096 0 false c.loop-i.i c.object-item.result c.args.plan.now.bases.items c.args.plan.now.globals
    c.loop-i.out.items c.put_padded.new.out.items c.in_ok-init.init.items (within _ _ _ e c.loop-i-test.true)
    (item _ _ _ _ _ e c.loop-i-test.true c.object-item.is) c.requires.plan.bases c.requires.plan.globals c.loop-i.invariant
    c.in_ok-init.ensures
    (c.in_ok-put_padded.ensures ∙ ap (λ (bytes : List ℕ). c.loop-i.out.items ++ padded 4096 0 bytes) c.deref.ensures.value)

pub returns : goal.returns
unfolding linked_init
returns c =
    let whole = c.loop-i.invariant ∙ joined-all c.args.objects.now.items 4096 0 false c.loop-i.i
    (past _ _ _ c.deref-object-items.ensures.value c.loop-i-test.false) in
    c.truncate.ensures.items
    ∙ (ap (λ (n : ℕ). take n c.loop-i.out.items) c.init_end.ensures ∙ ap (take (init_end c.args.objects.now.items)) whole)
