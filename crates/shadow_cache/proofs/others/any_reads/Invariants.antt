use Rattle.std.proofs.Common.{◌≡◌, ℕ, ◌<◌, slice_get, Some, false}
use Rattle.shadow_cache.specs.Pairs.{reads}
use Rattle.shadow_cache.specs.declared.pair.Pair.{Pair}
use Rattle.shadow_cache.proofs.others.any_reads.Given as goal

abbrev pub invariant-loop-i : goal.invariant-loop-i
invariant-loop-i l = (k : ℕ) (p : Pair) → k < l.i → slice_get l.pairs k ≡ Some p → reads p l.frame ≡ false
