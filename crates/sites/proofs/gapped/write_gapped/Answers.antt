use Rattle.std.proofs.Common.{refl, sym, ◌∙◌}
use Rattle.sites.specs.Spelling.{gapped}
use Rattle.sites.proofs.Gaps.{one_gap, no_more_gaps, gapped_here}
use Rattle.sites.proofs.gapped.write_gapped.Goals as goal

pub loop-s-preserved : goal.loop-s-preserved
loop-s-preserved c =
    let are = gapped_here c.loop-s.from c.args.sites.now c.loop-s.s-index _ c.loop-s-test.true c.loop-s.invariant.are in
    record {
      so_far =
          rw c.in_ok-put_gap.ensures (sym (one_gap c.loop-s.out.items c.loop-s.from c.args.sites.now c.loop-s.s-index _ c.loop-s-test.true)
          ∙ c.loop-s.invariant.so_far);
      are = are.5;
    }

pub returns : goal.returns
unfolding gapped
returns c =
    sym (no_more_gaps c.loop-s.out.items c.loop-s.from c.args.sites.now c.loop-s.s-index c.loop-s-test.false) ∙ c.loop-s.invariant.so_far

pub loop-s-init : goal.loop-s-init
loop-s-init c = record {
  so_far = rw (
    c.in_ok-extend_from_slice-2.ensures.items,
    c.in_ok-extend_from_slice.ensures.items,
    c.new-out.ensures.items,
    c.to_le_bytes.ensures,
  ) refl;
  are = c.requires.sites;
}

pub put_gap-requires-clause-rises : goal.put_gap-requires-clause-rises
put_gap-requires-clause-rises c =
    let are = gapped_here c.loop-s.from c.args.sites.now c.loop-s.s-index _ c.loop-s-test.true c.loop-s.invariant.are in
    are.0

pub put_gap-requires-clause-near : goal.put_gap-requires-clause-near
put_gap-requires-clause-near c =
    let are = gapped_here c.loop-s.from c.args.sites.now c.loop-s.s-index _ c.loop-s-test.true c.loop-s.invariant.are in
    are.1
