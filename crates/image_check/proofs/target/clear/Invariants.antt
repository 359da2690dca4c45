use Rattle.std.proofs.Common.{◌≡◌, ℕ, length, false, ◌&&◌}
use Rattle.std.specs.Prelude.{slice_index_or, not, nat_lt}
use Rattle.image_check.proofs.target.clear.Given as goal

abbrev pub invariant-loop-i : goal.invariant-loop-i
invariant-loop-i l = record {
  flags : (k : ℕ) → slice_index_or l.flags.items k false
      ≡ (slice_index_or l.fn.flags.items k false && not (nat_lt l.behind k && nat_lt k l.i));
  len : length l.flags.items ≡ length l.fn.flags.items;
}
