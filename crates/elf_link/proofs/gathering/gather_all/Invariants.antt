use Rattle.elf_link.proofs.GatherLaws.{Gathering}
use Rattle.elf_link.proofs.gathering.gather_all.Given as goal

abbrev pub invariant-loop-i : goal.invariant-loop-i
invariant-loop-i l = Gathering l.objects.items l.i l.all.totals l.all.globals l.all.sites.items
