-- The name is one of those from this place on exactly where it is one of all.
use Rattle.std.proofs.Common.{◌≡◌, drop}
use Rattle.asm_argument.specs.Among.{among}
use Rattle.asm_argument.proofs.register.is_among.Given as goal

abbrev pub invariant-loop-text : goal.invariant-loop-text
invariant-loop-text l = among (drop l.text-index l.names) l.name ≡ among l.names l.name
