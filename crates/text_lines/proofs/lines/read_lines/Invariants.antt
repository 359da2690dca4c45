use Rattle.std.proofs.Common.{◌≡◌, ◌≤◌, ◌+◌, [], length}
use Rattle.text_lines.specs.Cuts.{cut_at}
use Rattle.text_lines.specs.Lines.{lines_read}
use Rattle.text_lines.proofs.lines.read_lines.Given as goal

abbrev pub invariant-loop-items : goal.invariant-loop-items
invariant-loop-items g l = record {
  same : lines_read (g.R.LineReader.rule l.reader) l.number l.items.items (cut_at 10 l.rest) ≡ lines_read (g.R.LineReader.rule l.reader) 1
      [] (cut_at 10 l.fn.text);
  fits : g.R.LineReader.fits l.reader l.items.items;
  count : l.number + length l.rest ≤ length l.fn.text + 1;
}

abbrev pub decreases-loop-items : goal.decreases-loop-items
decreases-loop-items g l = length l.rest
