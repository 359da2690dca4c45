use Rattle.std.proofs.Common.{◌≡◌, ◌++◌, take}
use Rattle.elf_form.specs.Output.{halves}
use Rattle.elf_form.proofs.output.put_halves.Given as goal

abbrev pub invariant-loop-n : goal.invariant-loop-n
invariant-loop-n l = l.out.items ≡ l.fn.out.items ++ halves (take l.n-index l.numbers)
