use Rattle.std.proofs.Common.{◌≡◌, ◌<◌, ℕ, ◌+◌, [], ◌∷◌, ◌++◌, Option, length, subst, ap, arith}
use Rattle.std.specs.Prelude.{false, ◌||◌, slice_index_or}
use Rattle.pv_look.specs.Here.{swept}
use Rattle.pv_look.specs.Labels.{is_at}
use Rattle.pv_look.specs.Sweeping.{Reached}
use Rattle.pv_look.proofs.Labelled.{one_named, all_named}
use Rattle.pv_look.proofs.labels.named_labels.Goals as goal

pub loop-at-preserved : goal.loop-at-preserved
loop-at-preserved c =
    let image = c.args.image.now in
    let h = c.instruction_at-here.result in
    let n = c.loop-at.invariant.named in
    let g = c.instruction_at-here.ensures.next n.0 n.1 n.2 in
    let place = c.instruction_at-here.ensures.place in
    record {
      within = omega (arith, place, c.instruction_at-here.ensures.within);
      named = (
        n.0 ++ swept h ∷ [],
        g.more,
        subst (λ (k : ℕ). Reached image.text (k + h.len) (n.0 ++ swept h ∷ []) g.more) place g.on,
        one_named image (swept h) c.loop-at.labels.items c.mark.new.flags.items n.0 n.3
            (subst (λ (o : Option ℕ). (i : ℕ) → i < length c.loop-at.labels.items → slice_index_or c.mark.new.flags.items i false
            ≡ (slice_index_or c.loop-at.labels.items i false || is_at i o)) c.named_by.ensures c.mark.ensures.flags)
            c.mark.ensures.len,
      );
    }

pub returns-clause-labels : goal.returns-clause-labels
returns-clause-labels c =
    let n = c.loop-at.invariant.named in
    all_named c.args.image.now c.loop-at.labels.items c.loop-at.at n.0 n.1 n.2
    (omega (arith, c.loop-at-test.false, ap length c.text-len.ensures.text)) n.3
