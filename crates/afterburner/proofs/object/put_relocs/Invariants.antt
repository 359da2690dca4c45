use Rattle.std.proofs.Common.{◌≡◌, ◌++◌, take}
use Rattle.std.specs.Prelude.{map}
use Rattle.afterburner.specs.Tables.{with_number}
use Rattle.afterburner.proofs.object.put_relocs.Given as goal

abbrev pub invariant-loop-reloc : goal.invariant-loop-reloc
invariant-loop-reloc l = l.out.items ≡ l.fn.out.items ++ map (with_number l.numbers) (take l.reloc-index l.relocs)
