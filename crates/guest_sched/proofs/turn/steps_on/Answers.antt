use Rattle.std.proofs.Common.{◌≡◌, ℕ, sym, subst, ◌∙◌, Result, Err}
use Rattle.image_check.specs.Image.{Image}
use Rattle.pv_io.specs.Sink.{AppendsFront}
use Rattle.pv_io.specs.declared.answer.Failed.{Failed}
use Rattle.run_trace.specs.declared.pause.Pause.{Pause}
use Rattle.shadow_tables.specs.declared.shadows.Shadows as shadows
use Rattle.wedge_core.specs.Sliced.{SliceLeaves}
use Rattle.wedge_step.specs.Scene.{Scene}
use Rattle.run_trace.specs.Pauses.{PutsAs}
use Rattle.run_trace.specs.Text.{lines_of}
use Rattle.machine_model.specs.Run.{trace_of}
use Rattle.guest_sched.specs.Tags.{tag_of, tagged}
use Rattle.guest_sched.proofs.ToldPuts.{same_name, turn_failed, turn_all, unpaused, no_faults}
use Rattle.guest_sched.proofs.turn.steps_on.Goals as goal

-- where the sink has failed, the step reached isn't reported
unpaused_leaves : {S : Type 0} (s : shadows.Ghosts S) (image : Image) (bound : ℕ) (old new : Scene S) (result : Result Pause Failed)
    (failed : Failed) → SliceLeaves s image bound old new result
    → SliceLeaves s image bound old new (Err failed)
unpaused_leaves s image bound old new result failed h = record {
  reached = tt;
  held = tt;
  ready = tt;
  able = tt;
  counted = h.counted;
  stands = h.stands;
  pool = h.pool;
  few = h.few;
  filled = h.filled;
  frames = h.frames;
}

pub returns-then-has_failed-clause-leaves : goal.returns-then-has_failed-clause-leaves
returns-then-has_failed-clause-leaves g c = unpaused_leaves _ _ _ _ _ _ _ c.slice-pause.ensures.leaves

pub returns-then-has_failed-clause-own : goal.returns-then-has_failed-clause-own
returns-then-has_failed-clause-own g c =
    record { memory = tt; owns = c.slice-pause.ensures.own.owns; filled = c.slice-pause.ensures.own.filled }

pub returns-then-has_failed-clause-turn : goal.returns-then-has_failed-clause-turn
returns-then-has_failed-clause-turn g c =
    let s = c.slice-pause.ensures.slice in
    let t0 = c.new-tagged.result in
    let e0 = c.new-tagged.ensures in
    let t1 = c.slice-pause.new.out in
    let result = c.slice-pause.result in
    let given = lines_of (trace_of s.reports) in
    let tag = tag_of c.args.number in
    let was = g.O.Sink.taken c.args.out.now in
    let name : t1.out.ghost_name ≡ t0.out.ghost_name = same_name t0.out.ghost_name t1.out.ghost_name tag t0.tag t1.tag t0.since.faults
    t1.since.faults was t0.since.taken t1.since.taken given t0.since.text t1.since.text e0.since.2 e0.tag e0.since.0 result s.text in
    let same : c.out-1.given.0 ≡ t1.out.now = c.out-1.given.1 (sym e0.same_sink ∙ sym name) in
    let front : AppendsFront was (g.O.Sink.taken t1.out.now) (tagged tag given) =
    turn_failed t0.out.ghost_name t1.out.ghost_name tag t0.tag t1.tag t0.since.faults t1.since.faults was t0.since.taken t1.since.taken
    given t0.since.text t1.since.text e0.since.2 e0.tag e0.since.0
    t1.begun t1.failed (g.O.Sink.taken t1.out.now) (g.O.Sink.faults t1.out.now) result s.text
    (sym c.has_failed.ensures ∙ c.if-has_failed.true) t1.taken in (
      record {
        sets = s.sets;
        reports = s.reports;
        last = s.last;
        end = s.end;
        steps = s.steps;
        ends = unpaused _ _ s.last _ s.end result _ s.ends;
        text = subst (λ o. AppendsFront was (g.O.Sink.taken o) (tagged tag given)) (sym same) front;
        counts = s.counts;
        each_filled = s.each_filled;
      },
      record { kept = s.kept; left = λ past known. tt; carried = λ past known. tt },
    )

pub returns-clause-turn : goal.returns-clause-turn
returns-clause-turn g c =
    let s = c.slice-pause.ensures.slice in
    let t0 = c.new-tagged.result in
    let e0 = c.new-tagged.ensures in
    let t1 = c.slice-pause.new.out in
    let result = c.slice-pause.result in
    let given = lines_of (trace_of s.reports) in
    let tag = tag_of c.args.number in
    let was = g.O.Sink.taken c.args.out.now in
    let name : t1.out.ghost_name ≡ t0.out.ghost_name = same_name t0.out.ghost_name t1.out.ghost_name tag t0.tag t1.tag t0.since.faults
    t1.since.faults was t0.since.taken t1.since.taken given t0.since.text t1.since.text e0.since.2 e0.tag e0.since.0 result s.text in
    let same : c.out-1.given.0 ≡ t1.out.now = c.out-1.given.1 (sym e0.same_sink ∙ sym name) in
    let live : t1.failed ≡ _ = sym c.has_failed.ensures ∙ c.if-has_failed.false in
    let all : PutsAs (tagged tag given) was (g.O.Sink.taken t1.out.now) result =
    turn_all t0.out.ghost_name t1.out.ghost_name tag t0.tag t1.tag t0.since.faults t1.since.faults was t0.since.taken t1.since.taken given
    t0.since.text t1.since.text e0.since.2 e0.tag e0.since.0
    t1.begun t1.failed (g.O.Sink.taken t1.out.now) (g.O.Sink.faults t1.out.now) result _ _ s.text live t1.taken
    c.slice-pause.ensures.faults.cause (no_faults t0.failed e0.failed) (no_faults t1.failed live) in (
      record {
        sets = s.sets;
        reports = s.reports;
        last = s.last;
        end = s.end;
        steps = s.steps;
        ends = s.ends;
        text = subst (λ o. PutsAs (tagged tag given) was (g.O.Sink.taken o) result) (sym same) all;
        counts = s.counts;
        each_filled = s.each_filled;
      },
      record { kept = s.kept; left = s.left; carried = s.carried },
    )
