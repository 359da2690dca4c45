use Rattle.std.proofs.Common.{refl, sym, ◌∙◌, arith}
use Rattle.guest_ram.specs.Bytes.{part}
use Rattle.checkpoint.proofs.Changes.{change_past, change_at, no_change, change_end, part_more}
use Rattle.checkpoint.proofs.fitting.first_change.Goals as goal
use Rattle.checkpoint.proofs.fitting.first_change.Goals.{then-at-len-via-then-at-len, then-at-len-via-else-at-len+then-read8-b}

pub loop-i-init : goal.loop-i-init
unfolding part
loop-i-init c = (refl, refl)

pub returns-then-at-len-clause-place : goal.returns-then-at-len-clause-place
returns-then-at-len-clause-place c = elim c.then-at-len.branch [
  | then-at-len-via-then-at-len w ↦
      let count = c.len-len.ensures.count in
      let past = w.if-at-len.true in
      sym (change_past c.args.ram.now c.args.text.now c.loop-i.i c.loop-i-test.true (omega arith)) ∙ c.loop-i.invariant.0
  | then-at-len-via-else-at-len+then-read8-b w ↦
      let count = c.len-len.ensures.count in
      let near = w.if-at-len.false in
      sym (change_at c.args.ram.now c.args.text.now c.loop-i.i w.read8.result c.loop-i-test.true (omega arith) w.read8.ensures
      w.if-read8-b.true) ∙ c.loop-i.invariant.0
]

pub loop-i-preserved : goal.loop-i-preserved
loop-i-preserved c =
    let count = c.len-len.ensures.count in
    let near = c.if-at-len.false in (
      sym (no_change c.args.ram.now c.args.text.now c.loop-i.i c.read8.result c.loop-i-test.true (omega arith) c.read8.ensures
          c.if-read8-b.false) ∙ c.loop-i.invariant.0,
      part_more c.args.ram.now c.args.text.now c.loop-i.i c.read8.result c.loop-i-test.true (omega arith) c.read8.ensures c.if-read8-b.false
          c.loop-i.invariant.1,
    )

pub returns-clause-place : goal.returns-clause-place
returns-clause-place c = sym (change_end c.args.ram.now c.args.text.now c.loop-i.i c.loop-i-test.false) ∙ c.loop-i.invariant.0
