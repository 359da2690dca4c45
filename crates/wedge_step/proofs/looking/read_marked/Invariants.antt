use Rattle.std.proofs.Common.{◌≡◌, ◌+◌, ◌*◌, ◌%◌, ◌++◌}
use Rattle.guest_ram.specs.Bytes.{part}
use Rattle.native_steps.specs.Looking.{marked}
use Rattle.wedge_step.specs.Looked.{bytes_of}
use Rattle.wedge_step.specs.Clashing.{marks_of}
use Rattle.std.specs.Prelude.{length}
use Rattle.wedge_step.proofs.looking.read_marked.Given as goal

abbrev pub invariant-loop-i : goal.invariant-loop-i
invariant-loop-i l =
    (length l.into.items ≡ length l.fn.into.items + l.i)
    × (l.into.items ≡ l.fn.into.items ++ part (marked (marked (bytes_of l.view) (marks_of l.earlier)) (marks_of l.seen.marks))
    (4096 * l.seen.frame + l.at % 4096) l.i)
