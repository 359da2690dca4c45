use Rattle.std.proofs.Common.{map, string_bytes}
use Rattle.std.proofs.lemmas.Result.{err_from_is_err_and}
use Rattle.pv_build.proofs.Halts.{halts_as, refused_here, refuses_as, line_is}
use Rattle.pv_tasks.proofs.LinkMeanings.{no_object, not_linked}
use Rattle.pv_build.proofs.Failures.{none_here}
use Rattle.pv_tasks.proofs.linking.made.Goals as goal

pub returns-in_err-objects-clause-halted : goal.returns-in_err-objects-clause-halted
returns-in_err-objects-clause-halted g c =
    let p = err_from_is_err_and c.from_residual.result c.from_residual.ensures.1 in
    rw (p.1, p.2)
    (halts_as _ _ _ _ _ _ _ c.in_err-objects.field-0.0 (λ line told image. no_object _ (map string_bytes c.args.names.now) image line told)
    (λ held. held) c.in_err-objects.ensures.halted)

pub returns-clause-halted : goal.returns-clause-halted
returns-clause-halted g c =
    refused_here _ _ _ _ _ c.refused.result
    (refuses_as _ _ c.refused.result
    (λ line ok image. not_linked _ (map string_bytes c.args.names.now) image line c.in_ok-objects.objects.items
    (record { object = c.in-Err-At.object; cause = c.in-Err-At.cause }) c.in_ok-objects.ensures.objects
    (rw c.in-Err-At.field-0-is at c.in-Err-At.ensures.exact) (line_is _ line _ c.link_line.ensures ok)) c.refused.ensures)

pub returns-clause-kept : goal.returns-clause-kept
returns-clause-kept g c = none_here _ _ c.refused.result c.in_ok-objects.ensures.kept
