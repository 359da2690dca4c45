-- The relocations of each object tested in turn.
use Rattle.std.proofs.Common.{◌≡◌, ℕ, ◌+◌, ◌<◌, ◌≤◌, List, length, get_or, Option, Ok, ap, sym, ◌∙◌, subst, arith}
use Rattle.elf_form.specs.ObjectParts.{ObjectParts}
use Rattle.elf_link.specs.declared.target.Target.{Target}
use Rattle.elf_link.specs.declared.fault.LinkCause.{LinkCause}
use Rattle.elf_link.specs.declared.fault.LinkFault.{LinkFault}
use Rattle.elf_link.specs.Layout.{numbered}
use Rattle.elf_link.specs.Symbols.{globals}
use Rattle.elf_link.specs.Relocations.{reloc_cause}
use Rattle.elf_form.specs.Tables.{first_some}
use Rattle.elf_link.specs.Refusals.{Refused, refused, relocs_refusal}
use Rattle.elf_link.specs.Steps.{tested}
use Rattle.elf_link.specs.Answers.{Fails}
use Rattle.elf_link.proofs.FirstLaws.{Passed, first_next, first_end, fails_here, none_from_tested}
use Rattle.elf_link.proofs.BaseLaws.{numbered_at, length-numbered}

module _ (os : List ObjectParts) (i : ℕ) (o : ObjectParts) (gs : List (List ℕ × Target)) (cause : Option LinkCause) (lt : i < length os)
    (is : get_or os i o ≡ o) (passed : Passed (relocs_refusal os) (numbered os) i) (ge : gs ≡ globals os)
    (found : cause ≡ first_some (reloc_cause gs (i, o)) o.relocs) where
  refusal_is : refused i cause ≡ relocs_refusal os (i, o)
  refusal_is = ap (refused i) (found ∙ ap (λ (g : List (List ℕ × Target)). first_some (reloc_cause g (i, o)) o.relocs) ge)

  within_numbered : i < length (numbered os)
  within_numbered = subst (λ (n : ℕ). i < n) (sym (length-numbered os)) lt

  pub relocs_fail : (e : LinkFault) → Fails e (tested (refused i cause)) → Fails e (tested (first_some (relocs_refusal os) (numbered os)))
  relocs_fail e h = fails_here (relocs_refusal os) (numbered os) i (i, o) e within_numbered (numbered_at os i o lt is) passed
      (subst (λ (r : Option Refused). Fails e (tested r)) refusal_is h)

  pub relocs_next : tested (refused i cause) ≡ Ok tt → Passed (relocs_refusal os) (numbered os) (i + 1)
  relocs_next h = first_next (relocs_refusal os) (numbered os) i (i, o) within_numbered (numbered_at os i o lt is) passed
      (sym refusal_is ∙ none_from_tested (refused i cause) h)

pub relocs_end : (os : List ObjectParts) (i : ℕ) → length os ≤ i → Passed (relocs_refusal os) (numbered os) i
    → tested (first_some (relocs_refusal os) (numbered os)) ≡ Ok tt
relocs_end os i le passed = ap tested (first_end (relocs_refusal os) (numbered os) i (omega (arith, length-numbered os)) passed)
