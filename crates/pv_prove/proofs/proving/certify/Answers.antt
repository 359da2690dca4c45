use Rattle.std.proofs.Common.{ℕ, List, length, refl, ap, subst, ◌∙◌}
use Rattle.std.proofs.lemmas.List.{length-map}
use Rattle.trace_check.specs.Form.{choices_bytes}
use Rattle.trace_check.specs.ChoicesTold.{choice_of, choices_of}
use Rattle.pv_tasks.specs.Beside.{beside}
use Rattle.pv_tasks.specs.Delivery.{Delivers, NoMemory}
use Rattle.pv_build.specs.declared.status.Status.TheVariants as status
use Rattle.pv_tasks.proofs.Faults.{puts_said, ends_none}
use Rattle.pv_prove.specs.CertificateLines.{certificate_line, no_certificate_line}
use Rattle.pv_prove.specs.Certifying.{Delivered}
use Rattle.pv_prove.proofs.ProveMeanings.{few}
use Rattle.pv_prove.proofs.proving.certify.Goals as goal

pub returns-in-Ok-clause-certified : goal.returns-in-Ok-clause-certified
returns-in-Ok-clause-certified g c = λ completed memory told kept.
    let said = c.in-Some.ensures.told told kept in
    let o = beside g.F.Files g.S.Sink (c.args.files.now, c.deliver.new.files) (c.args.out.now, c.deliver.new.out) completed memory in
    let file = c.in-Ok.ensures.file ∙ ap choices_bytes said.1 in
    let line = c.in-Ok.ensures.line ∙ ap (λ (n : ℕ). certificate_line n) (ap length said.1 ∙ length-map told choice_of) in
    Delivered (few told said.0)
    (subst (λ (l : List ℕ). Delivers c.args.name.now (choices_bytes (choices_of told)) l c.args.meant o c.deliver.result) line
    (subst (λ (b : List ℕ). Delivers c.args.name.now b c.in-Ok.made.line c.args.meant o c.deliver.result) file
    (c.deliver.ensures.delivers completed memory)))

pub returns-in-Err-clause-certified : goal.returns-in-Err-clause-certified
returns-in-Err-clause-certified g c =
    λ completed memory told kept. Delivered (few told (c.in-Some.ensures.told told kept).0) (NoMemory refl refl refl)

pub returns-in-None-clause-ends : goal.returns-in-None-clause-ends
returns-in-None-clause-ends g c =
    ends_none g.F.Files g.S.Sink c.args.files.now c.args.out.now c.tell_none.new.out c.tell_none.result
    (puts_said no_certificate_line c.args.meant _ _ _ _ c.tell_none.result c.tell_none.ensures)

pub returns-in-Err-clause-ends : goal.returns-in-Err-clause-ends
returns-in-Err-clause-ends g c = ends_none g.F.Files g.S.Sink c.args.files.now c.args.out.now c.args.out.now status.Memory (λ write. refl)
