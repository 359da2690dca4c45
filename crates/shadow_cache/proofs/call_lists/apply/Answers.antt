use Rattle.std.proofs.Common.{[], ◌∷◌, ◌++◌, sym, subst}
use Rattle.shadow_cache.specs.Roots.{pairs_of}
use Rattle.shadow_cache.specs.Agreeing.{Agree}
use Rattle.shadow_cache.specs.declared.call_lists.RootsCall.{RootsCall}
use Rattle.shadow_cache.proofs.call_lists.apply.Goals as goal

pub returns-else-free-lt2-clause-law : goal.returns-else-free-lt2-clause-law
returns-else-free-lt2-clause-law c = λ done value calls a.
    subst (λ (x : RootsCall). Agree value (calls ++ x ∷ []) (pairs_of c.switch.new.self) c.switch.new.ram) (sym c.in-Switch.is)
    (c.switch.ensures.told value calls a)
