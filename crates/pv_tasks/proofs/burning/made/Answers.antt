use Rattle.std.proofs.Common.{ℕ, ap, ◌∙◌}
use Rattle.std.proofs.lemmas.Result.{err_from_is_err_and}
use Rattle.pv_build.specs.Lines.{refusal_at_line}
use Rattle.pv_build.proofs.Halts.{halts_as, refused_here, refuses_as, line_is}
use Rattle.pv_tasks.proofs.BurnMeanings.{no_source, not_burnt}
use Rattle.pv_build.proofs.Failures.{none_here}
use Rattle.pv_tasks.proofs.burning.made.Goals as goal

pub returns-in_err-source-clause-halted : goal.returns-in_err-source-clause-halted
returns-in_err-source-clause-halted g c =
    let p = err_from_is_err_and c.from_residual.result c.from_residual.ensures.1 in
    rw (p.1, p.2)
    (halts_as _ _ _ _ _ _ _ c.in_err-source.field-0.0 (λ line told object. no_source _ c.args.name.now object line told) (λ held. held)
    c.in_err-source.ensures.halted)

pub returns-clause-halted : goal.returns-clause-halted
returns-clause-halted g c =
    refused_here _ _ _ _ _ c.refused.result
    (refuses_as _ _ c.refused.result
    (λ line ok object. not_burnt _ c.args.name.now object line c.in_ok-source.source
    (record { line = c.in-Err-At.line; cause = c.in-Err-At.cause }) c.in_ok-source.ensures.source
    (rw c.in-Err-At.field-0-is at c.in-Err-At.ensures.exact)
    (line_is _ line _ c.refusal_at_line.ensures ok ∙ ap (λ (n : ℕ). refusal_at_line n c.in-Err-At.line) c.number.ensures))
    c.refused.ensures)

pub returns-clause-kept : goal.returns-clause-kept
returns-clause-kept g c = none_here _ _ c.refused.result c.in_ok-source.ensures.kept
