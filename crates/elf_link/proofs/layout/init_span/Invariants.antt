use Rattle.elf_link.specs.Layout.{init_size}
use Rattle.elf_link.proofs.SpanLaws.{Spans}
use Rattle.elf_link.proofs.layout.init_span.Given as goal

abbrev pub invariant-loop-object : goal.invariant-loop-object
invariant-loop-object l = Spans init_size l.objects.items l.object-index l.span
