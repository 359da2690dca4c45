use Rattle.std.proofs.Common.{ℕ, ◌+◌, [], ◌∷◌, ◌++◌, Bool, subst, ◌∙◌, arith}
use Rattle.pv_io.specs.Sink.{Appends, AppendsFront}
use Rattle.pv_look.specs.Here.{swept}
use Rattle.pv_look.specs.Lines.{lines_with}
use Rattle.pv_look.specs.Sweeping.{Reached}
use Rattle.pv_look.proofs.Labelled.{is_labelled}
use Rattle.pv_look.proofs.Printed.{one_put, all_put, cut_within, cut_at_head}
use Rattle.pv_look.proofs.listing.put_all.Goals as goal

pub returns-in-Err-clause-failed : goal.returns-in-Err-clause-failed
returns-in-Err-clause-failed g c = cut_at_head c.args.image.now (g.S.Sink.taken c.args.out.now) _ c.in-Err.ensures.failed

pub returns-in-Err-put_one-clause-failed : goal.returns-in-Err-put_one-clause-failed
returns-in-Err-put_one-clause-failed g c =
    let image = c.args.image.now in
    let h = c.instruction_at-here.result in
    let n = c.loop-at.invariant.put in
    let more = c.instruction_at-here.ensures.next n.0 n.1 n.2 in
    let labelled = is_labelled image c.args.labels.now h c.loop-at.at c.instruction_at-here.ensures.place
    (omega (arith, c.loop-at-test.true, c.requires.len)) c.requires.labels in
    cut_within image h c.loop-at.at n.0 n.1 (g.S.Sink.taken c.args.out.now) (g.S.Sink.taken c.loop-at.out)
    (g.S.Sink.taken c.put_one.new.out) n.2 more n.3
    (subst (λ (b : Bool). AppendsFront (g.S.Sink.taken c.loop-at.out) (g.S.Sink.taken c.put_one.new.out) (lines_with image b (swept h)))
    labelled c.in-Err-put_one.ensures.failed)

pub loop-at-preserved : goal.loop-at-preserved
loop-at-preserved g c =
    let image = c.args.image.now in
    let h = c.instruction_at-here.result in
    let n = c.loop-at.invariant.put in
    let more = c.instruction_at-here.ensures.next n.0 n.1 n.2 in
    let place = c.instruction_at-here.ensures.place in
    let labelled =
    is_labelled image c.args.labels.now h c.loop-at.at place (omega (arith, c.loop-at-test.true, c.requires.len)) c.requires.labels in
    let line =
    subst (λ (b : Bool). Appends (g.S.Sink.taken c.loop-at.out) (g.S.Sink.taken c.put_one.new.out) (lines_with image b (swept h))) labelled
    c.in-Ok-put_one.ensures.ok in
    record {
      within = omega (arith, place, c.instruction_at-here.ensures.within);
      put = (
        n.0 ++ swept h ∷ [],
        more.more,
        subst (λ (k : ℕ). Reached image.text (k + h.len) (n.0 ++ swept h ∷ []) more.more) place more.on,
        one_put image (swept h) n.0 (g.S.Sink.taken c.args.out.now) (g.S.Sink.taken c.loop-at.out)
            (g.S.Sink.taken c.put_one.new.out) n.3 line,
      );
      kept = c.in-Ok-put_one.ensures.kept ∙ c.loop-at.invariant.kept;
    }

pub returns-clause-ok : goal.returns-clause-ok
returns-clause-ok g c =
    let n = c.loop-at.invariant.put in
    all_put c.args.image.now c.loop-at.at n.0 n.1 _ _ n.2 (omega (arith, c.loop-at-test.false, c.requires.len)) n.3
