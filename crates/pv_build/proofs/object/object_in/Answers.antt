use Rattle.std.proofs.Common.{◌≡◌, ℕ, List, Err, ap, subst, ◌∙◌}
use Rattle.elf_form.specs.Faults.{Fault}
use Rattle.elf_form.specs.ObjectReading.{object_in}
use Rattle.pv_build.specs.Lines.{object_place_line}
use Rattle.pv_build.proofs.Halts.{refused_here, refuses_as, line_is}
use Rattle.pv_build.proofs.object.object_in.Goals as goal

pub returns-clause-halted : goal.returns-clause-halted
returns-clause-halted g c =
    let fault : Fault = record { at = c.in-Err-At.at; cause = c.in-Err-At.cause } in
    let fails : object_in c.deref.result.now ≡ Err fault = rw c.in-Err-At.field-0-is at c.in-Err-At.ensures.exact in
    refused_here _ _ _ _ _ c.refused.result
    (refuses_as _ _ c.refused.result
    (λ line ok. (
      fault,
      (c.in_ok-file.file.items, c.in_ok-file.ensures.loaded, subst (λ (b : List ℕ). object_in b ≡ Err fault) c.deref.ensures.value fails),
      line_is _ line _ c.object_place_line.ensures ok ∙ ap (λ (n : ℕ). object_place_line n c.args.index c.in-Err-At.at)
          c.number_of_form-number.ensures,
    )) c.refused.ensures)
