use Rattle.std.specs.List.{FoldsTo}
use Rattle.ia32_exec.specs.Commit.{longs_to}
use Rattle.ia32_exec.specs.Readable.{AreAll}
use Rattle.ia32_exec.proofs.writing.write_eight.Given as goal

-- the first k numbers are written, and the range is writable still
abbrev pub invariant-loop-k : goal.invariant-loop-k
invariant-loop-k g l = record {
  stands : g.W.Writer.stands l.writer l.memory;
  written : FoldsTo (g.W.Writer.written l.writer) l.initial.memory (longs_to l.k l.at l.values) l.memory;
  open_still : AreAll (g.W.Writer.writable l.writer l.memory) l.at 32;
}
