use Rattle.std.proofs.Common.{List, length, sym, ap, ◌∙◌}
use Rattle.shadow_cache.specs.declared.pair.Pair.{Pair}
use Rattle.shadow_cache.proofs.Keys.{listed-length}
use Rattle.shadow_cache.proofs.pairs.Pairs.len.Goals as goal

pub returns : goal.returns
returns c = c.len.ensures.value ∙ sym (listed-length c.self.inside.slab c.self.inside.order.items c.self.invariant.there)
    ∙ ap (λ (ps : List Pair). length ps) c.self.view_is
