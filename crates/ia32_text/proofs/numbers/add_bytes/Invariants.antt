use Rattle.std.proofs.Common.{◌≡◌, ◌+◌, ◌*◌, ◌++◌, length, take}
use Rattle.ia32_text.specs.Numbers.{bytes_text}
use Rattle.ia32_text.proofs.numbers.add_bytes.Given as goal

abbrev pub invariant-loop-byte : goal.invariant-loop-byte
invariant-loop-byte l = record {
  text : l.line.items ≡ l.fn.line.items ++ bytes_text (take l.byte-index l.bytes);
  len : length l.line.items ≡ length l.fn.line.items + 3 * l.byte-index;
}
