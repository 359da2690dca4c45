use Rattle.std.proofs.Common.{◌≡◌, ℕ, ◌<◌, false, get_or}
use Rattle.elf_form.specs.declared.object.Symbol.{Symbol}
use Rattle.elf_form.proofs.object_writing.first_global.Given as goal

abbrev pub invariant-loop-i : goal.invariant-loop-i
invariant-loop-i l = (k : ℕ) (d : Symbol) → k < l.i → (get_or l.symbols k d).global ≡ false
