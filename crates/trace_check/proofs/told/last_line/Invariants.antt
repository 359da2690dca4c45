use Rattle.std.proofs.Common.{◌≡◌}
use Rattle.trace_check.proofs.LastLine.{ends_at}
use Rattle.trace_check.proofs.told.last_line.Given as goal

abbrev pub invariant-loop-i : goal.invariant-loop-i
invariant-loop-i l = ends_at l.i l.start l.text ≡ ends_at 0 0 l.text
