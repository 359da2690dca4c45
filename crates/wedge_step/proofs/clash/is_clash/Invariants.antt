use Rattle.std.proofs.Common.{◌≡◌, ◌==◌, drop}
use Rattle.std.specs.FinMap.{get}
use Rattle.descriptors.specs.Controls.{wp_of}
use Rattle.machine_model.specs.Clash.{clash_behind, clash_in}
use Rattle.shadow_tables.specs.Entries.{entries_of}
use Rattle.wedge_step.specs.Clashing.{before, model_uses}
use Rattle.wedge_step.proofs.clash.is_clash.Given as goal

abbrev pub invariant-loop-i : goal.invariant-loop-i
invariant-loop-i g l =
    clash_in (get (entries_of (g.S.Shadows.slots l.shadows l.ram))) (wp_of l.cpu) (model_uses (l.cpu.cpl == 3) l.uses)
    ≡ clash_behind (get (entries_of (g.S.Shadows.slots l.shadows l.ram))) (wp_of l.cpu) (before l.uses l.i)
    (drop l.i (model_uses (l.cpu.cpl == 3) l.uses))
