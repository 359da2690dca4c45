use Rattle.std.proofs.Common.{◌≡◌, ◌+◌, drop}
use Rattle.guest_sched.specs.Dues.{line_len, has_end}
use Rattle.guest_sched.proofs.tagged.first_line.Given as goal

abbrev pub invariant-loop-b : goal.invariant-loop-b
invariant-loop-b l = record {
  here : l.len ≡ l.b-index;
  len : line_len l.text ≡ l.len + line_len (drop l.b-index l.text);
  end : has_end l.text ≡ has_end (drop l.b-index l.text);
}
