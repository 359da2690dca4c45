use Rattle.std.proofs.Common.{◌≡◌, sym, subst, ◌∙◌}
use Rattle.std.specs.Prelude.{OnOk}
use Rattle.pv_io.specs.Sink.{Appends, AppendsFront}
use Rattle.run_trace.specs.Pauses.{PutsAs}
use Rattle.run_trace.specs.Text.{end_line}
use Rattle.guest_sched.specs.Tags.{tag_of, tagged}
use Rattle.guest_sched.proofs.ToldPuts.{same_name, turn_failed, turn_all, no_faults, as_pause, line_puts, line_cause, line_ok}
use Rattle.guest_sched.proofs.turn.put_last.Goals as goal

pub returns-then-has_failed-clause-failed : goal.returns-then-has_failed-clause-failed
returns-then-has_failed-clause-failed g c =
    let t0 = c.new-tagged.result in
    let e0 = c.new-tagged.ensures in
    let t1 = c.put_end-result.new.out in
    let result = as_pause c.put_end-result.result in
    let given = end_line c.args.ended.now.steps c.args.ended.now.end in
    let tag = tag_of c.args.number in
    let was = g.O.Sink.taken c.args.out.now in
    let puts = line_puts given _ _ c.put_end-result.result c.put_end-result.ensures.ok c.put_end-result.ensures.failed in
    let name : t1.out.ghost_name ≡ t0.out.ghost_name = same_name t0.out.ghost_name t1.out.ghost_name tag t0.tag t1.tag t0.since.faults
    t1.since.faults was t0.since.taken t1.since.taken given t0.since.text t1.since.text e0.since.2 e0.tag e0.since.0 result puts in
    let same : c.out-1.given.0 ≡ t1.out.now = c.out-1.given.1 (sym e0.same_sink ∙ sym name) in
    subst (λ o. AppendsFront was (g.O.Sink.taken o) (tagged tag given)) (sym same)
    (turn_failed t0.out.ghost_name t1.out.ghost_name tag t0.tag t1.tag t0.since.faults t1.since.faults was t0.since.taken t1.since.taken
    given t0.since.text t1.since.text e0.since.2 e0.tag e0.since.0
    t1.begun t1.failed (g.O.Sink.taken t1.out.now) (g.O.Sink.faults t1.out.now) result puts
    (sym c.has_failed.ensures ∙ c.if-has_failed.true) t1.taken)

pub returns-clause-ok : goal.returns-clause-ok
returns-clause-ok g c =
    let t0 = c.new-tagged.result in
    let e0 = c.new-tagged.ensures in
    let t1 = c.put_end-result.new.out in
    let result = as_pause c.put_end-result.result in
    let given = end_line c.args.ended.now.steps c.args.ended.now.end in
    let tag = tag_of c.args.number in
    let was = g.O.Sink.taken c.args.out.now in
    let puts = line_puts given _ _ c.put_end-result.result c.put_end-result.ensures.ok c.put_end-result.ensures.failed in
    let name : t1.out.ghost_name ≡ t0.out.ghost_name = same_name t0.out.ghost_name t1.out.ghost_name tag t0.tag t1.tag t0.since.faults
    t1.since.faults was t0.since.taken t1.since.taken given t0.since.text t1.since.text e0.since.2 e0.tag e0.since.0 result puts in
    let same : c.out-1.given.0 ≡ t1.out.now = c.out-1.given.1 (sym e0.same_sink ∙ sym name) in
    let live : t1.failed ≡ _ = sym c.has_failed.ensures ∙ c.if-has_failed.false in
    let all : PutsAs (tagged tag given) was (g.O.Sink.taken t1.out.now) result =
    turn_all t0.out.ghost_name t1.out.ghost_name tag t0.tag t1.tag t0.since.faults t1.since.faults was t0.since.taken t1.since.taken given
    t0.since.text t1.since.text e0.since.2 e0.tag e0.since.0
    t1.begun t1.failed (g.O.Sink.taken t1.out.now) (g.O.Sink.faults t1.out.now) result _ _ puts live t1.taken
    (line_cause c.put_end-result.result _ c.put_end-result.ensures.cause) (no_faults t0.failed e0.failed) (no_faults t1.failed live) in
    subst (λ o. OnOk c.put_end-result.result (Appends was (g.O.Sink.taken o) (tagged tag given))) (sym same)
    (line_ok (tagged tag given) was (g.O.Sink.taken t1.out.now) c.put_end-result.result all)
