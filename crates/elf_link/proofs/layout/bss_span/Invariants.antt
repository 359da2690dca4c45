use Rattle.elf_link.specs.Layout.{bss_size}
use Rattle.elf_link.proofs.SpanLaws.{Spans}
use Rattle.elf_link.proofs.layout.bss_span.Given as goal

abbrev pub invariant-loop-object : goal.invariant-loop-object
invariant-loop-object l = Spans bss_size l.objects.items l.object-index l.span
