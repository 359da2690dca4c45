use Rattle.std.proofs.Common.{ℕ, List, length, get_or, slice_get, IsSome, sym, ap, ◌∙◌, subst, arith}
use Rattle.slab.specs.Slab.{get}
use Rattle.shadow_cache.specs.declared.pair.Pair.{Pair}
use Rattle.shadow_cache.proofs.Keys.{there-at, listed-at, within}
use Rattle.shadow_cache.proofs.pairs.Pairs.at.Goals as goal

pub offset_bounds-deref-i : goal.offset_bounds-deref-i
offset_bounds-deref-i c =
    let l = within c.self.inside.slab c.self.inside.order.items c.args.self.now c.args.i c.self.invariant c.self.view_is c.requires in
    let e = ap (λ (xs : List ℕ). length xs) c.deref.ensures.0 in let t = c.deref.type_inv.1 in omega (arith, l, e, t)

pub bounds-deref-i : goal.bounds-deref-i
bounds-deref-i c =
    let l = within c.self.inside.slab c.self.inside.order.items c.args.self.now c.args.i c.self.invariant c.self.view_is c.requires in
    let e = ap (λ (xs : List ℕ). length xs) c.deref.ensures.0 in omega (arith, l, e)

pub index-requires : goal.index-requires
index-requires c =
    let l = within c.self.inside.slab c.self.inside.order.items c.args.self.now c.args.i c.self.invariant c.self.view_is c.requires in
    subst (λ (xs : List ℕ). IsSome (get c.self.inside.slab (get_or xs c.args.i 0))) (sym c.deref.ensures.0)
    (there-at c.self.inside.slab c.self.inside.order.items c.args.i c.self.invariant.there l)

pub returns : goal.returns
returns c =
    let l = within c.self.inside.slab c.self.inside.order.items c.args.self.now c.args.i c.self.invariant c.self.view_is c.requires in
    ap (λ (ps : List Pair). slice_get ps c.args.i) (sym c.self.view_is)
    ∙ listed-at c.self.inside.slab c.self.inside.order.items c.args.i c.self.invariant.there l
    ∙ ap (λ (xs : List ℕ). get c.self.inside.slab (get_or xs c.args.i 0)) (sym c.deref.ensures.0)
    ∙ c.index.ensures
