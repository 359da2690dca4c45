use Rattle.std.proofs.Common.{◌≡◌, ℕ, ◌<◌, slice_get, Some, false, eqb}
use Rattle.shadow_cache.specs.declared.pair.Pair.{Pair}
use Rattle.shadow_cache.proofs.others.find.Given as goal

abbrev pub invariant-loop-i : goal.invariant-loop-i
invariant-loop-i l = (k : ℕ) (p : Pair) → k < l.i → slice_get l.pairs k ≡ Some p → eqb p.cr3 l.cr3 ≡ false
