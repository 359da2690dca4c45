use Rattle.std.proofs.Common.{◌≡◌, ◌++◌, take}
use Rattle.std.specs.Prelude.{map}
use Rattle.elf_link.specs.Sites.{moved}
use Rattle.elf_link.proofs.gathering.put_moved.Given as goal

abbrev pub invariant-loop-s : goal.invariant-loop-s
invariant-loop-s l = l.out.items ≡ l.fn.out.items ++ map (moved l.by) (take l.s-index l.sites)
