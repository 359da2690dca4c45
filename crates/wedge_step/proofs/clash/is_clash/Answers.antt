use Rattle.std.proofs.Common.{◌==◌, sym, ◌∙◌}
use Rattle.std.specs.FinMap.{get}
use Rattle.descriptors.specs.Controls.{wp_of}
use Rattle.shadow_tables.specs.Entries.{entries_of}
use Rattle.wedge_step.proofs.LookedUses.{clash_found, unused_passed, allowed_passed}
use Rattle.wedge_step.proofs.clash.is_clash.Goals as goal
use Rattle.wedge_step.proofs.clash.is_clash.Goals.{else-was_used-via-then-was_used+else-is_refused, else-was_used-via-else-was_used}

pub returns-then-is_refused : goal.returns-then-is_refused
returns-then-is_refused g c =
    clash_found (get (entries_of (g.S.Shadows.slots c.args.shadows.now c.args.ram.now))) (wp_of c.args.cpu.now) (c.args.cpu.now.cpl == 3)
    c.args.uses.now c.loop-i.i _ _ _
    c.loop-i-test.true c.loop-i.invariant c.by_level-access.ensures c.wp.ensures (sym c.was_used.ensures ∙ c.if-was_used.true)
    (sym c.is_refused.ensures ∙ c.if-is_refused.true)

pub loop-i-preserved : goal.loop-i-preserved
loop-i-preserved g c =
    elim c.else-was_used.branch [
      | else-was_used-via-then-was_used+else-is_refused w ↦
          allowed_passed (get (entries_of (g.S.Shadows.slots c.args.shadows.now c.args.ram.now))) (wp_of c.args.cpu.now)
          (c.args.cpu.now.cpl == 3) c.args.uses.now c.loop-i.i _ _ _
          c.loop-i-test.true c.loop-i.invariant c.by_level-access.ensures w.wp.ensures (sym c.was_used.ensures ∙ w.if-was_used.true)
          (sym w.is_refused.ensures ∙ w.if-is_refused.false)
      | else-was_used-via-else-was_used w ↦
          unused_passed (get (entries_of (g.S.Shadows.slots c.args.shadows.now c.args.ram.now))) (wp_of c.args.cpu.now)
          (c.args.cpu.now.cpl == 3) c.args.uses.now c.loop-i.i _
          c.loop-i-test.true c.loop-i.invariant (sym c.was_used.ensures ∙ w.if-was_used.false)
    ]
