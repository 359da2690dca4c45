use Rattle.std.proofs.Common.{◌≡◌, ◌<◌, ◌+◌, length, map, get_or, take, ap, sym, subst, ◌∙◌, arith, true, false}
use Rattle.std.specs.Prelude.{is_none, not}
use Rattle.std.proofs.lemmas.List.{length-set}
use Rattle.std.proofs.lemmas.Result.{err_from_is_err_and}
use Rattle.std.proofs.Math.Bool.{not-not}
use Rattle.pv_io.specs.Sink.{Appends}
use Rattle.run_trace.specs.Text.{end_line}
use Rattle.guest_sched.specs.Stages.{ended_of}
use Rattle.guest_sched.specs.Pieces.{bound_texts}
use Rattle.guest_sched.specs.Tags.{tag_of, tagged}
use Rattle.guest_sched.specs.declared.tenants.Tenant.{Tenant}
use Rattle.guest_sched.proofs.Finishing.{last_line_is, fails_there, goes_there, stays_there, ends_more, ended_is}
use Rattle.guest_sched.proofs.finish.finish.Goals as goal
use Rattle.guest_sched.proofs.finish.finish.Goals.{then-is_none+in_ok-put_last, else-is_none}

pub returns-in_err-put_last-clause-failed : goal.returns-in_err-put_last-clause-failed
returns-in_err-put_last-clause-failed g c =
    let p = err_from_is_err_and c.from_residual.result c.from_residual.ensures.1 in
    let l = c.loop-number in
    let ts = c.args.tenants.now.list.items in
    let d = c.index-tenant.result.now in
    let within : l.number < length ts = (let a = c.loop-number-test.true in let b = c.len-number-end.ensures in omega (arith, a, b)) in
    let e = c.end_of-end.ensures in
    let none : is_none d.stop ≡ true = ap not c.is_none.ensures ∙ not-not c.is_none.result ∙ c.if-is_none.true in
    rw p.1
    (fails_there (g.O.Sink.taken c.args.out.now) (g.O.Sink.taken l.out) (g.O.Sink.taken c.put_last.new.out) ts l.number d
    (tagged (tag_of l.number) (end_line c.end_of-end.result.steps c.end_of-end.result.end)) within
    (last_line_is ts l.number d c.end_of-end.result e.steps e.end none c.index-tenant.ensures) l.invariant.text
    c.in_err-put_last.ensures.failed)

pub loop-number-preserved : goal.loop-number-preserved
loop-number-preserved g c =
    let l = c.loop-number in
    let ts = c.args.tenants.now.list.items in
    let d = c.index-tenant.result.now in
    let within : l.number < length ts = (let a = c.loop-number-test.true in let b = c.len-number-end.ensures in omega (arith, a, b)) in
    let e = c.end_of-end.ensures in
    let end = ended_is c.end_of-end.result d e.steps e.fills e.end ∙ ap ended_of c.index-tenant.ensures in
    let more = ends_more ts l.ended.items l.number d c.end_of-end.result within l.invariant.len end l.invariant.ended in
    let len = length-set l.ended.items l.number c.end_of-end.result ∙ l.invariant.len in
    elim c.if-is_none.branch [
      | then-is_none+in_ok-put_last w ↦
          let none : is_none d.stop ≡ true = ap not c.is_none.ensures ∙ not-not c.is_none.result ∙ w.if-is_none.true in
          record {
            len = len;
            ended = more;
            text =
                subst (λ (o : g.row.O.Denot). Appends (g.O.Sink.taken c.args.out.now) (g.O.Sink.taken o)
                (bound_texts 0 (map ended_of (take (l.number + 1) ts)))) (sym w.out-is)
                (goes_there (g.O.Sink.taken c.args.out.now) (g.O.Sink.taken l.out) (g.O.Sink.taken w.put_last.new.out) ts l.number d
                (tagged (tag_of l.number) (end_line c.end_of-end.result.steps c.end_of-end.result.end)) within
                (last_line_is ts l.number d c.end_of-end.result e.steps e.end none c.index-tenant.ensures) l.invariant.text
                w.in_ok-put_last.ensures.ok);
            kept = ap g.O.Sink.faults w.out-is ∙ w.in_ok-put_last.ensures.kept ∙ l.invariant.kept;
          }
      | else-is_none w ↦
          let some : is_none (get_or ts l.number d).stop ≡ false = ap (λ (t : Tenant). is_none t.stop) (sym c.index-tenant.ensures)
          ∙ ap not c.is_none.ensures ∙ not-not c.is_none.result ∙ w.if-is_none.false in
          record {
            len = len;
            ended = more;
            text =
                subst (λ (o : g.row.O.Denot). Appends (g.O.Sink.taken c.args.out.now) (g.O.Sink.taken o)
                (bound_texts 0 (map ended_of (take (l.number + 1) ts)))) (sym w.out-is)
                (stays_there (g.O.Sink.taken c.args.out.now) (g.O.Sink.taken l.out) ts l.number d within some l.invariant.text);
            kept = ap g.O.Sink.faults w.out-is ∙ l.invariant.kept;
          }
    ]
