use Rattle.std.proofs.Common.{◌≡◌, ◌++◌, take}
use Rattle.elf_form.specs.Output.{longs}
use Rattle.elf_form.proofs.output.put_longs.Given as goal

abbrev pub invariant-loop-n : goal.invariant-loop-n
invariant-loop-n l = l.out.items ≡ l.fn.out.items ++ longs (take l.n-index l.numbers)
