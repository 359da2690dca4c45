use Rattle.std.proofs.Common.{◌≡◌, ◌++◌, take}
use Rattle.ia32_text.proofs.line.add.Given as goal

abbrev pub invariant-loop-byte : goal.invariant-loop-byte
invariant-loop-byte l = l.line.items ≡ l.fn.line.items ++ take l.byte-index l.text
