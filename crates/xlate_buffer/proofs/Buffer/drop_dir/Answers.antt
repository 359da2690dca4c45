use Rattle.std.proofs.Common.{◌≡◌, ℕ, ap, sym, subst, ◌∙◌, ◌+◌, ◌<◌, set, Option, arith}
use Rattle.paging.specs.declared.entry.Entry.{Entry}
use Rattle.paging.specs.Uses.{without_dir}
use Rattle.xlate_buffer.proofs.Placing.{IsEmptied, emptied_none, emptied_more, emptied_all}
use Rattle.xlate_buffer.proofs.Buffer.drop_dir.Goals as goal

pub loop-k-init : goal.loop-k-init
loop-k-init c = emptied_none c.self.inside.places c.args.index c.self.invariant

pub loop-k-preserved : goal.loop-k-preserved
loop-k-preserved c =
    let xs = c.loop-k.self-inside.places in
    let small : c.loop-k.k < 64 = omega arith in
    subst (λ (v : Option Entry). IsEmptied c.self.inside.places (set xs c.loop-k.k v) (c.loop-k.k + 1) c.args.index) (sym c.outside.ensures)
    (emptied_more c.self.inside.places xs c.loop-k.k c.args.index small c.loop-k.invariant)

pub invariant_of-self : goal.invariant_of-self
invariant_of-self c = c.loop-k.invariant.placed

pub returns : goal.returns
returns c =
    let all : c.loop-k.k ≡ 64 = omega arith in
    emptied_all c.self.inside.places c.loop-k.self-inside.places c.args.index
    (subst (λ (k : ℕ). IsEmptied c.self.inside.places c.loop-k.self-inside.places k c.args.index) all c.loop-k.invariant)
    ∙ ap (λ m. without_dir m c.args.index) c.self.view_is
