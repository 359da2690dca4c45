use Rattle.std.proofs.Common.{◌≡◌, ◌+◌, ◌*◌, ◌++◌, length, take}
use Rattle.step_text.specs.Stored.{digits_of}
use Rattle.step_text.proofs.stored.put_bytes.Given as goal

abbrev pub invariant-loop-byte : goal.invariant-loop-byte
invariant-loop-byte l = record {
  text : l.line.items ≡ l.fn.line.items ++ digits_of (take l.byte-index l.bytes);
  len : length l.line.items ≡ length l.fn.line.items + 2 * l.byte-index;
}
