use Rattle.std.proofs.Common.{ℕ, ◌<◌, get_or}
use Rattle.elf_form.specs.ObjectParts.{ObjectParts}
use Rattle.elf_form.specs.Linkable.{IsLinkable}
use Rattle.elf_link.proofs.linkable.are_linkable.Given as goal

abbrev pub invariant-loop-object : goal.invariant-loop-object
invariant-loop-object l = (k : ℕ) → k < l.object-index → (d : ObjectParts) → IsLinkable (get_or l.objects.items k d)
