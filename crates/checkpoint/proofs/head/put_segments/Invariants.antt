use Rattle.std.proofs.Common.{◌≡◌, ℕ, ◌<◌, ◌^◌, ◌++◌, take}
use Rattle.std.specs.Prelude.{slice_index_or}
use Rattle.std.specs.List.{flat_map}
use Rattle.checkpoint.specs.Head.{segment_bytes}
use Rattle.checkpoint.specs.Ranges.{no_segment}
use Rattle.checkpoint.proofs.head.put_segments.Given as goal

abbrev pub invariant-loop-segment : goal.invariant-loop-segment
invariant-loop-segment l =
    (l.into.items ≡ l.initial.into.items ++ flat_map segment_bytes (take l.segment-index l.segments))
    × ((k : ℕ) → k < l.segment-index → (slice_index_or l.segments k no_segment).selector < 2 ^ 16)
