use Rattle.std.proofs.Common.{◌≡◌, ℕ, List, ◌+◌, ◌<◌, ◌∷◌, ◌++◌, [], inl, inr, length, map, get_or, take, refl, ap, sym, subst, ◌∙◌, arith}
use Rattle.std.proofs.lemmas.List.{take_all, take_more}
use Rattle.run_trace.specs.declared.items.Ended.{Ended}
use Rattle.wedge_core.specs.Slices.{Counts}
use Rattle.guest_sched.specs.Known.{AreKnown}
use Rattle.guest_sched.specs.Since.{none_since}
use Rattle.guest_sched.specs.Stages.{stage, ended_of}
use Rattle.guest_sched.specs.Pieces.{shared_text}
use Rattle.guest_sched.specs.Rounds.{AreRounds, GoesRound, HasGoneRound}
use Rattle.guest_sched.specs.Schedules.{SliceList}
use Rattle.guest_sched.specs.SharedRuns.{SharedRun, FailsInTurn}
use Rattle.guest_sched.specs.declared.schedule.Slice.{Slice}
use Rattle.guest_sched.proofs.Ends.{ends_shared, ends_put, ends_fail}
use Rattle.guest_sched.proofs.SharedEnds.{on_err, on_ok, is_next}
use Rattle.guest_sched.proofs.Takes.{rose_more}
use Rattle.guest_sched.proofs.Ready.{counts_same}
use Rattle.guest_sched.proofs.Rounding.{rounds_on}
use Rattle.guest_sched.proofs.shared.run_shared.Goals as goal
use Rattle.guest_sched.proofs.Wide.{IsBetween, StandsNext}

pub loop-slice-init : goal.loop-slice-init
loop-slice-init g c =
    let s = c.in_ok-tenants.tenants in
    let host = g.H.Host.bytes c.admit_all.new.host in
    let all = c.in_ok-tenants.ensures.admitted in
    let before : Counts = record { retired = g.H.Host.retired c.args.host.now; passed = g.H.Host.passed c.args.host.now } in
    let old = g.O.Sink.taken c.args.out.now in
    record {
      between = (
        [],
        none_since,
        record { first = stage s host; admitted = all.2; rounds = (refl, refl) },
        all.3,
        subst (λ (now : Counts). IsBetween c.args.kernels.now.items c.args.frames c.args.schedule.now.list [] [] s.list.items s.pool
            s.present host before now old old)
            (sym (counts_same (g.H.Host.retired c.admit_all.new.host) (g.H.Host.retired c.args.host.now)
            (g.H.Host.passed c.admit_all.new.host) (g.H.Host.passed c.args.host.now) c.in_ok-tenants.ensures.retired
            c.in_ok-tenants.ensures.passed))
            (all.4 c.args.schedule.now.list before old),
      );
      frames = all.1;
      started = c.in_ok-tenants.ensures.started;
      kept = refl;
    }

pub turn-requires-clause-next : goal.turn-requires-clause-next
turn-requires-clause-next g c =
    let l = c.loop-slice in
    let same : c.deref-slice-items.result.now ≡ c.args.schedule.now.list =
    c.deref-slice-items.ensures.value ∙ ap (λ (s : SliceList). s.list) c.schedule.view_is in
    let d : Slice = record { kernel = 0; steps = 0 } in
    subst (λ (n : ℕ). StandsNext c.args.kernels.now.items n (get_or c.deref-slice-items.result.now l.slice-index d) l.tenants.list.items
    l.tenants.pool l.tenants.present (g.H.Host.bytes l.host)
    (record { retired = g.H.Host.retired l.host; passed = g.H.Host.passed l.host }) (g.O.Sink.taken l.out)) (sym l.invariant.frames)
    (record {
      whole = c.args.schedule.now.list;
      done = take l.slice-index c.args.schedule.now.list;
      pieces = l.invariant.between.0;
      before = record { retired = g.H.Host.retired c.args.host.now; passed = g.H.Host.passed c.args.host.now };
      old = g.O.Sink.taken c.args.out.now;
      next = is_next (length c.args.kernels.now.items) c.args.schedule.now.list c.deref-slice-items.result.now l.slice-index d same
          c.loop-slice-test.true c.requires.schedule;
      between = l.invariant.between.4;
      few = c.requires.room;
    })

pub returns-then-is_err : goal.returns-then-is_err
returns-then-is_err g c =
    let l = c.loop-slice in
    let same : c.deref-slice-items.result.now ≡ c.args.schedule.now.list =
    c.deref-slice-items.ensures.value ∙ ap (λ (s : SliceList). s.list) c.schedule.view_is in
    let d : Slice = record { kernel = 0; steps = 0 } in
    let whole = c.args.schedule.now.list in
    let before : Counts = record { retired = g.H.Host.retired c.args.host.now; passed = g.H.Host.passed c.args.host.now } in
    let now : Counts = record { retired = g.H.Host.retired l.host; passed = g.H.Host.passed l.host } in
    let old = g.O.Sink.taken c.args.out.now in
    let next = is_next (length c.args.kernels.now.items) whole c.deref-slice-items.result.now l.slice-index d same c.loop-slice-test.true
    c.requires.schedule in
    let yes = sym c.is_err.ensures.value ∙ c.if-is_err.true in
    let between =
    subst (λ (n : ℕ). IsBetween c.args.kernels.now.items n whole (take l.slice-index whole) l.invariant.between.0 l.tenants.list.items
    l.tenants.pool l.tenants.present (g.H.Host.bytes l.host) before now old (g.O.Sink.taken l.out)) (sym l.invariant.frames)
    l.invariant.between.4 in
    let gone =
    subst (λ (n : ℕ). HasGoneRound c.args.kernels.now.items n (take l.slice-index whole) l.invariant.between.0
    (stage l.tenants (g.H.Host.bytes l.host)) l.invariant.between.1) (sym l.invariant.frames) l.invariant.between.2 in
    let fails = on_err c.turn.result yes c.turn.ensures.failed whole (take l.slice-index whole) l.invariant.between.0 before old
    next between l.invariant.between.1 gone in
    record {
      shared = (
        c.in_ok-tenants.ensures.admitted.0,
        inl (subst (λ (n : ℕ). FailsInTurn c.args.kernels.now.items whole n old (g.O.Sink.taken c.turn.new.out)) l.invariant.frames fails),
        rose_more (g.O.Sink.faults c.args.out.now) (g.O.Sink.faults l.out) (g.O.Sink.faults c.turn.new.out) l.invariant.kept
            (on_err c.turn.result yes c.turn.ensures.cause),
      );
    }

pub loop-slice-preserved : goal.loop-slice-preserved
loop-slice-preserved g c =
    let l = c.loop-slice in
    let same : c.deref-slice-items.result.now ≡ c.args.schedule.now.list =
    c.deref-slice-items.ensures.value ∙ ap (λ (s : SliceList). s.list) c.schedule.view_is in
    let d : Slice = record { kernel = 0; steps = 0 } in
    let whole = c.args.schedule.now.list in
    let before : Counts = record { retired = g.H.Host.retired c.args.host.now; passed = g.H.Host.passed c.args.host.now } in
    let now : Counts = record { retired = g.H.Host.retired l.host; passed = g.H.Host.passed l.host } in
    let then_ : Counts = record { retired = g.H.Host.retired c.turn.new.host; passed = g.H.Host.passed c.turn.new.host } in
    let old = g.O.Sink.taken c.args.out.now in
    let next = is_next (length c.args.kernels.now.items) whole c.deref-slice-items.result.now l.slice-index d same c.loop-slice-test.true
    c.requires.schedule in
    let no = sym c.is_err.ensures.value ∙ c.if-is_err.false in
    let between =
    subst (λ (n : ℕ). IsBetween c.args.kernels.now.items n whole (take l.slice-index whole) l.invariant.between.0 l.tenants.list.items
    l.tenants.pool l.tenants.present (g.H.Host.bytes l.host) before now old (g.O.Sink.taken l.out)) (sym l.invariant.frames)
    l.invariant.between.4 in
    let on = on_ok c.turn.result no c.turn.ensures.turned whole (take l.slice-index whole) l.invariant.between.0 before old next between in
    let went = l.invariant.between.2 in
    let goes = on.2 l.invariant.between.1
    (subst (λ (n : ℕ). AreKnown c.args.kernels.now.items n l.invariant.between.1 (stage l.tenants (g.H.Host.bytes l.host)))
    (sym l.invariant.frames) l.invariant.between.3) in
    let within : l.slice-index < length whole = (let a = c.loop-slice-test.true in let b = ap length same in omega (arith, a, b)) in
    let done : take l.slice-index whole ++ get_or c.deref-slice-items.result.now l.slice-index d ∷ [] ≡ take (l.slice-index + 1) whole =
    ap (λ (s : List Slice). take l.slice-index whole ++ get_or s l.slice-index d ∷ []) same
    ∙ sym (take_more whole l.slice-index d within) in
    record {
      between = (
        l.invariant.between.0 ++ on.0 ∷ [],
        goes.0,
        record {
          first = went.first;
          admitted = went.admitted;
          rounds =
              subst (λ (s : List Slice). AreRounds c.args.kernels.now.items c.args.frames s (l.invariant.between.0 ++ on.0 ∷ []) went.first
              (stage c.turn.new.tenants (g.H.Host.bytes c.turn.new.host)) none_since goes.0) done
              (rounds_on c.args.kernels.now.items c.args.frames (take l.slice-index whole) l.invariant.between.0
              (get_or c.deref-slice-items.result.now l.slice-index d) on.0 went.first (stage l.tenants (g.H.Host.bytes l.host))
              (stage c.turn.new.tenants (g.H.Host.bytes c.turn.new.host)) none_since l.invariant.between.1 goes.0 went.rounds
              (subst (λ (n : ℕ). GoesRound c.args.kernels.now.items n (get_or c.deref-slice-items.result.now l.slice-index d) on.0
              (stage l.tenants (g.H.Host.bytes l.host)) (stage c.turn.new.tenants (g.H.Host.bytes c.turn.new.host))
              l.invariant.between.1 goes.0) l.invariant.frames goes.1));
        },
        subst (λ (n : ℕ). AreKnown c.args.kernels.now.items n goes.0 (stage c.turn.new.tenants (g.H.Host.bytes c.turn.new.host)))
            l.invariant.frames goes.2,
        subst (λ (n : ℕ). IsBetween c.args.kernels.now.items n whole (take (l.slice-index + 1) whole) (l.invariant.between.0 ++ on.0 ∷ [])
            c.turn.new.tenants.list.items c.turn.new.tenants.pool c.turn.new.tenants.present (g.H.Host.bytes c.turn.new.host) before then_
            old (g.O.Sink.taken c.turn.new.out)) l.invariant.frames
            (subst (λ (s : List Slice). IsBetween c.args.kernels.now.items l.tenants.frames whole s (l.invariant.between.0 ++ on.0 ∷ [])
            c.turn.new.tenants.list.items c.turn.new.tenants.pool c.turn.new.tenants.present (g.H.Host.bytes c.turn.new.host) before then_
            old (g.O.Sink.taken c.turn.new.out)) done on.1),
      );
      frames = c.turn.ensures.frames ∙ l.invariant.frames;
      started = c.turn.ensures.started;
      kept = on_ok c.turn.result no c.turn.ensures.kept ∙ l.invariant.kept;
    }

pub returns-in-Ok : goal.returns-in-Ok
returns-in-Ok g c =
    let l = c.loop-slice in
    let whole = c.args.schedule.now.list in
    let same : c.deref-slice-items.result.now ≡ whole =
    c.deref-slice-items.ensures.value ∙ ap (λ (s : SliceList). s.list) c.schedule.view_is in
    let before : Counts = record { retired = g.H.Host.retired c.args.host.now; passed = g.H.Host.passed c.args.host.now } in
    let now : Counts = record { retired = g.H.Host.retired l.host; passed = g.H.Host.passed l.host } in
    let old = g.O.Sink.taken c.args.out.now in
    let ks = c.args.kernels.now.items in
    let ts = l.tenants.list.items in
    let host = g.H.Host.bytes l.host in
    let mid = g.O.Sink.taken l.out in
    let all : take l.slice-index whole ≡ whole =
    take_all l.slice-index whole (let a = c.loop-slice-test.false in let b = ap length same in omega (arith, a, b)) in
    let h = subst (λ (s : List Slice). IsBetween ks c.args.frames whole s l.invariant.between.0 ts l.tenants.pool l.tenants.present host
    before now old mid) all l.invariant.between.4 in
    let gone = subst (λ (s : List Slice). HasGoneRound ks c.args.frames s l.invariant.between.0 (stage l.tenants host)
    l.invariant.between.1) all l.invariant.between.2 in
    let text = shared_text l.invariant.between.0 (map ended_of ts) in
    record {
      shared = (
        text,
        subst (λ (e : List Ended). SharedRun ks whole c.args.frames before now host text e) (sym c.in-Ok.ensures.ended)
            (ends_shared ks c.args.frames whole l.invariant.between.0 ts l.tenants.pool l.tenants.present host before now old mid h
            l.invariant.between.1 gone),
        c.in_ok-tenants.ensures.admitted.0,
        ends_put ks c.args.frames whole l.invariant.between.0 ts l.tenants.pool l.tenants.present host before now old mid h
            (g.O.Sink.taken c.finish.new.out) c.in-Ok.ensures.ok,
        c.in-Ok.ensures.kept ∙ l.invariant.kept,
      );
    }

pub returns : goal.returns
returns g c =
    let l = c.loop-slice in
    let whole = c.args.schedule.now.list in
    let same : c.deref-slice-items.result.now ≡ whole =
    c.deref-slice-items.ensures.value ∙ ap (λ (s : SliceList). s.list) c.schedule.view_is in
    let before : Counts = record { retired = g.H.Host.retired c.args.host.now; passed = g.H.Host.passed c.args.host.now } in
    let now : Counts = record { retired = g.H.Host.retired l.host; passed = g.H.Host.passed l.host } in
    let old = g.O.Sink.taken c.args.out.now in
    let ks = c.args.kernels.now.items in
    let ts = l.tenants.list.items in
    let host = g.H.Host.bytes l.host in
    let mid = g.O.Sink.taken l.out in
    let all : take l.slice-index whole ≡ whole =
    take_all l.slice-index whole (let a = c.loop-slice-test.false in let b = ap length same in omega (arith, a, b)) in
    let h = subst (λ (s : List Slice). IsBetween ks c.args.frames whole s l.invariant.between.0 ts l.tenants.pool l.tenants.present host
    before now old mid) all l.invariant.between.4 in
    let gone = subst (λ (s : List Slice). HasGoneRound ks c.args.frames s l.invariant.between.0 (stage l.tenants host)
    l.invariant.between.1) all l.invariant.between.2 in
    record {
      shared = (
        c.in_ok-tenants.ensures.admitted.0,
        inr (ends_fail ks c.args.frames whole l.invariant.between.0 ts l.tenants.pool l.tenants.present host before now old mid h
            l.invariant.between.1 gone
            (g.O.Sink.taken c.finish.new.out) c.in-Err.ensures.failed),
        rose_more (g.O.Sink.faults c.args.out.now) (g.O.Sink.faults l.out) (g.O.Sink.faults c.finish.new.out) l.invariant.kept
            c.in-Err.ensures.cause,
      );
    }
