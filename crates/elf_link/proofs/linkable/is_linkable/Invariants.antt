use Rattle.std.proofs.Common.{ℕ, ◌<◌}
use Rattle.elf_link.proofs.RelocLaws.{HasRoomAt}
use Rattle.elf_link.proofs.linkable.is_linkable.Given as goal

abbrev pub invariant-loop-r : goal.invariant-loop-r
invariant-loop-r l = (k : ℕ) → k < l.r-index → HasRoomAt l.object k
