use Rattle.std.proofs.Common.{◌≡◌, ℕ, ◌+◌, ◌*◌, ◌<◌, ◌≤◌, get_or, length}
use Rattle.trace_check.proofs.whole_set.clear_dir.Given as goal

abbrev pub invariant-loop-k : goal.invariant-loop-k
invariant-loop-k l = record {
  all : length l.words.items ≡ 1048576;
  clear : (page : ℕ) → 1024 * l.index ≤ page → page < 1024 * l.index + l.k → get_or l.words.items page 0 ≡ 0;
  others : (page : ℕ) → (1024 * l.index ≤ page → page < 1024 * l.index + l.k → ⊥)
      → get_or l.words.items page 0 ≡ get_or l.initial.words.items page 0;
}
