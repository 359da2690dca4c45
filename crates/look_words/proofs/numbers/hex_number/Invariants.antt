use Rattle.std.proofs.Common.{◌≡◌, drop}
use Rattle.look_words.specs.Numbers.{hex_said}
use Rattle.look_words.proofs.numbers.hex_number.Given as goal

abbrev pub invariant-loop-b : goal.invariant-loop-b
invariant-loop-b l = hex_said l.value (drop l.b-index l.digits) ≡ hex_said 0 l.digits
