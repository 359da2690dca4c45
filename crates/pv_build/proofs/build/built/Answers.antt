use Rattle.std.proofs.Common.{◌∙◌}
use Rattle.std.proofs.lemmas.Result.{err_from_is_err_and}
use Rattle.pv_build.proofs.Halts.{refuses_as}
use Rattle.pv_build.proofs.Builds.{refused_by, answers_ok, answers_err, no_text, no_object, from_object, from_image}
use Rattle.pv_build.proofs.build.built.Goals as goal

pub returns-in_err-source-clause-refused : goal.returns-in_err-source-clause-refused
returns-in_err-source-clause-refused c =
    let p = err_from_is_err_and c.from_residual-in_err-source.result c.from_residual-in_err-source.ensures.1 in
    rw (p.1, p.2)
    (refuses_as _ _ c.in_err-source.field-0.0 (λ line told. no_text _ _ line (c.deref.ensures.value ∙ c.in_ok-text.ensures) told)
    c.in_err-source.ensures.refused)

pub returns-in_err-object-clause-refused : goal.returns-in_err-object-clause-refused
returns-in_err-object-clause-refused c =
    let p = err_from_is_err_and c.from_residual-in_err-object.result c.from_residual-in_err-object.ensures.1 in
    rw (p.1, p.2)
    (refused_by c.in_err-object.field-0.0 _ _
    (λ line is. no_object _ _ line _ (c.deref.ensures.value ∙ c.in_ok-text.ensures) c.in_ok-source.ensures.source is)
    c.in_err-object.ensures.object)

pub returns-in_err-image-clause-refused : goal.returns-in_err-image-clause-refused
returns-in_err-image-clause-refused c =
    let p = err_from_is_err_and c.from_residual-in_err-image.result c.from_residual-in_err-image.ensures.1 in
    rw (p.1, p.2)
    (refused_by c.in_err-image.field-0.0 _ _
    (λ line is. from_object _ _ _ _ _ (c.deref.ensures.value ∙ c.in_ok-text.ensures) c.in_ok-source.ensures.source
    c.in_ok-object.ensures.object is) c.in_err-image.ensures.image)

pub returns-clause-image : goal.returns-clause-image
returns-clause-image c =
    answers_ok c.accepted.result _ _
    (λ image is. from_image _ _ _ _ _ _ (c.deref.ensures.value ∙ c.in_ok-text.ensures) c.in_ok-source.ensures.source
    c.in_ok-object.ensures.object c.in_ok-image.ensures.image is) c.accepted.ensures

pub returns-clause-refused : goal.returns-clause-refused
returns-clause-refused c =
    answers_err c.accepted.result _ _
    (λ line is. from_image _ _ _ _ _ _ (c.deref.ensures.value ∙ c.in_ok-text.ensures) c.in_ok-source.ensures.source
    c.in_ok-object.ensures.object c.in_ok-image.ensures.image is) c.accepted.ensures
