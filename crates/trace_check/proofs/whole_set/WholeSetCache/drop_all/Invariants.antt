use Rattle.std.proofs.Common.{◌≡◌, ℕ, ◌<◌, ◌≤◌, ◌/◌, None}
use Rattle.std.specs.FinMap.{get}
use Rattle.trace_check.proofs.whole_set.WholeSetCache.drop_all.Given as goal

abbrev pub invariant-loop-index : goal.invariant-loop-index
invariant-loop-index l = record {
  gone : (page : ℕ) → page / 1024 < l.index → get l.self page ≡ None;
  behind : (page : ℕ) → 1048576 ≤ page → get l.self page ≡ None;
}
