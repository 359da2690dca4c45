use Rattle.std.proofs.Common.{◌≡◌, ◌+◌, ◌≤◌, drop, length}
use Rattle.shadow_tables.specs.Entries.{entries_of}
use Rattle.step_mem.specs.Changes.{changed}
use Rattle.wedge_mem.specs.Settled.{used}
use Rattle.wedge_mem.proofs.pages.count_used.Given as goal

abbrev pub invariant-loop-i : goal.invariant-loop-i
invariant-loop-i g l = let set = changed (entries_of (g.S.Shadows.slots l.shadows l.ram)) l.changes in record {
  counted : l.count + length (used set (drop l.i l.pages)) ≡ length (used set l.pages);
  few : l.count ≤ l.i;
}
