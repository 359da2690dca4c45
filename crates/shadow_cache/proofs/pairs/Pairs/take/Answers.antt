use Rattle.std.proofs.Common.{◌≡◌, List, get_or, slice_get, remove, IsSome, sym, ap, ◌∙◌, subst, arith}
use Rattle.slab.specs.Slab.{get}
use Rattle.shadow_cache.specs.declared.pair.Pair.{Pair}
use Rattle.shadow_cache.proofs.Keys.{there-at, listed-at, default, within, removed}
use Rattle.shadow_cache.proofs.pairs.Pairs.take.Goals as goal

pub remove-key-requires : goal.remove-key-requires
remove-key-requires c =
    let l = within c.self.inside.slab c.self.inside.order.items c.args.self.now c.args.i c.self.invariant c.self.view_is c.requires in
    (omega arith, l)

pub remove-requires : goal.remove-requires
remove-requires c =
    let l = within c.self.inside.slab c.self.inside.order.items c.args.self.now c.args.i c.self.invariant c.self.view_is c.requires in
    let k = c.remove-key.ensures in
    let key : c.remove-key.result ≡ get_or c.self.inside.order.items c.args.i 0 =
    k.value ∙ default c.self.inside.order.items c.args.i c.remove-key.result 0 l in
    subst (λ x. IsSome (get c.self.inside.slab x)) (sym key)
    (there-at c.self.inside.slab c.self.inside.order.items c.args.i c.self.invariant.there l)

pub invariant_of-self : goal.invariant_of-self
invariant_of-self c =
    let l = within c.self.inside.slab c.self.inside.order.items c.args.self.now c.args.i c.self.invariant c.self.view_is c.requires in
    let k = c.remove-key.ensures in
    let key : c.remove-key.result ≡ get_or c.self.inside.order.items c.args.i 0 =
    k.value ∙ default c.self.inside.order.items c.args.i c.remove-key.result 0 l in
    let a = c.remove.ensures in
    let both = removed c.self.inside.slab c.remove.new.self c.self.inside.order.items c.remove-key.new.self.items c.args.i
    c.remove-key.result c.self.invariant l key a.updates a.len a.capacity k.items k.len in
    both.0

pub returns-clause-pair : goal.returns-clause-pair
returns-clause-pair c =
    let l = within c.self.inside.slab c.self.inside.order.items c.args.self.now c.args.i c.self.invariant c.self.view_is c.requires in
    let k = c.remove-key.ensures in
    let key : c.remove-key.result ≡ get_or c.self.inside.order.items c.args.i 0 =
    k.value ∙ default c.self.inside.order.items c.args.i c.remove-key.result 0 l in
    ap (λ (ps : List Pair). slice_get ps c.args.i) (sym c.self.view_is)
    ∙ listed-at c.self.inside.slab c.self.inside.order.items c.args.i c.self.invariant.there l
    ∙ ap (get c.self.inside.slab) (sym key)
    ∙ c.remove.ensures.value

pub returns-clause-rest : goal.returns-clause-rest
returns-clause-rest c =
    let l = within c.self.inside.slab c.self.inside.order.items c.args.self.now c.args.i c.self.invariant c.self.view_is c.requires in
    let k = c.remove-key.ensures in
    let key : c.remove-key.result ≡ get_or c.self.inside.order.items c.args.i 0 =
    k.value ∙ default c.self.inside.order.items c.args.i c.remove-key.result 0 l in
    let a = c.remove.ensures in
    let both = removed c.self.inside.slab c.remove.new.self c.self.inside.order.items c.remove-key.new.self.items c.args.i
    c.remove-key.result c.self.invariant l key a.updates a.len a.capacity k.items k.len in
    both.1 ∙ ap (λ (ps : List Pair). remove ps c.args.i) c.self.view_is
