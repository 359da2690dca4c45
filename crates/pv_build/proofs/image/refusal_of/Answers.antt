use Rattle.std.proofs.Common.{◌≡◌, ℕ, refl, sym, ap, subst, ◌∙◌}
use Rattle.elf_form.specs.declared.cause.ElfFault.{ElfFault}
use Rattle.image_check.specs.declared.fault.CheckFault.{CheckFault}
use Rattle.image_check.specs.declared.fault.CheckFault.TheVariants as faults
use Rattle.image_check.specs.Refusals.{Refusal, Form, Wrong}
use Rattle.image_check.specs.Answers.{Refuses}
use Rattle.pv_build.specs.Lines.{image_line, place_line}
use Rattle.pv_build.specs.Telling.{RefusesAs}
use Rattle.pv_build.proofs.Halts.{refuses_as, line_is}
use Rattle.pv_build.proofs.image.refusal_of.Goals as goal

pub returns-in-Elf : goal.returns-in-Elf
returns-in-Elf c =
    subst (λ (f : CheckFault). RefusesAs (λ line. (refusal : Refusal) × Refuses f refusal × (line ≡ image_line refusal))
    c.form_refusal.result) (sym c.in-Elf.is)
    (refuses_as _ _ c.form_refusal.result
    (λ line h. (Form h.0, subst (λ (e : ElfFault). Refuses (faults.Elf e) (Form h.0)) (sym h.1) refl, h.2)) c.form_refusal.ensures)

pub returns-in-At : goal.returns-in-At
returns-in-At c =
    subst (λ (f : CheckFault). RefusesAs (λ line. (refusal : Refusal) × Refuses f refusal × (line ≡ image_line refusal)) c.refused.result)
    (sym c.in-At.is)
    (refuses_as _ _ c.refused.result
    (λ line ok. (
      Wrong c.in-At.at c.in-At.cause,
      refl,
      line_is _ line _ c.place_line.ensures ok ∙ ap (λ (n : ℕ). place_line n c.in-At.at) c.number_of_check.ensures,
    )) c.refused.ensures)
