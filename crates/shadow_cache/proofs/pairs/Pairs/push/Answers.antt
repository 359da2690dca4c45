use Rattle.std.proofs.Common.{List, ◌∷◌, length, ap, ◌∙◌, arith}
use Rattle.shadow_cache.specs.declared.pair.Pair.{Pair}
use Rattle.shadow_cache.proofs.Keys.{listed-length, pushed}
use Rattle.shadow_cache.proofs.pairs.Pairs.push.Goals as goal

pub insert_reserved-key-requires : goal.insert_reserved-key-requires
insert_reserved-key-requires c =
    let n = listed-length c.self.inside.slab c.self.inside.order.items c.self.invariant.there in
    let e = ap (λ (ps : List Pair). length ps) c.self.view_is in let k = c.self.invariant.count in let r = c.self.invariant.room in
    let q = c.requires in omega (arith, n, e, k, r, q)

pub insert-requires : goal.insert-requires
insert-requires c =
    let n = listed-length c.self.inside.slab c.self.inside.order.items c.self.invariant.there in
    let e = ap (λ (ps : List Pair). length ps) c.self.view_is in let q = c.requires in
    (omega arith, (omega arith, omega (arith, n, e, q)))

pub invariant_of-self : goal.invariant_of-self
invariant_of-self c =
    let k = c.insert_reserved-key.ensures in
    (pushed c.self.inside.slab c.insert_reserved-key.new.self c.self.inside.order.items c.insert.new.self.items c.insert_reserved-key.result
    c.args.pair c.self.invariant k.was_vacant k.updates k.len k.capacity c.insert.ensures.items).0

pub returns : goal.returns
returns c =
    let k = c.insert_reserved-key.ensures in
    (pushed c.self.inside.slab c.insert_reserved-key.new.self c.self.inside.order.items c.insert.new.self.items c.insert_reserved-key.result
    c.args.pair c.self.invariant k.was_vacant k.updates k.len k.capacity c.insert.ensures.items).1
    ∙ ap (λ (ps : List Pair). c.args.pair ∷ ps) c.self.view_is
