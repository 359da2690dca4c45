use Rattle.std.proofs.Common.{◌≡◌, ◌++◌, take}
use Rattle.elf_form.specs.Output.{longs}
use Rattle.elf_form.specs.SectionHeaders.{numbers_of}
use Rattle.elf_form.proofs.section_header.put_headers.Given as goal

abbrev pub invariant-loop-h : goal.invariant-loop-h
invariant-loop-h l = l.out.items ≡ l.fn.out.items ++ longs (numbers_of (take l.h-index l.headers))
