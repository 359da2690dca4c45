use Rattle.std.proofs.Common.{◌≡◌, ℕ, ◌+◌, ◌^◌, ◌<◌, ◌≤◌, length, drop, ◌&&◌, not, cond}
use Rattle.std.specs.FinMap.{get}
use Rattle.frame_pool.specs.Pool.{free_list}
use Rattle.frame_pool.specs.Held.{Moves}
use Rattle.shadow_tables.specs.Entries.{entries_of}
use Rattle.guest_ram.specs.Among.{is_among}
use Rattle.step_mem.specs.Changes.{changed}
use Rattle.wedge_mem.specs.Seen.{KeepsRest, OpensFor}
use Rattle.wedge_mem.specs.Settled.{filled_by, refilled, used}
use Rattle.wedge_mem.proofs.filling.fill_pages.Given as goal

abbrev pub invariant-loop-i : goal.invariant-loop-i
invariant-loop-i g l = let set = changed (entries_of (g.S.Shadows.slots l.fn.shadows l.fn.ram)) l.changes in record {
  stands : ∥ g.S.Shadows.stands l.shadows l.ram ∥₁;
  slots : (q : ℕ) → q < 2 ^ 20 → g.S.Shadows.slots l.shadows l.ram q
      ≡ cond (is_among q l.pages && not (is_among q (drop l.i l.pages)))
      (filled_by l.side l.wp (g.S.Shadows.write_protected l.fn.shadows) (get set q)) (g.S.Shadows.slots l.fn.shadows l.fn.ram q);
  rest : KeepsRest g.S.Shadows l.fn.shadows l.shadows l.fn.ram l.ram;
  has_tables_under : OpensFor g.S.Shadows l.pages l.fn.shadows l.shadows l.fn.ram l.ram;
  left : length (used set (drop l.i l.pages)) ≤ length (free_list l.pool l.ram);
  counted : l.count + length (refilled (g.S.Shadows.slots l.fn.shadows l.fn.ram) set l.changes l.side l.wp (drop l.i l.pages))
      ≡ length (refilled (g.S.Shadows.slots l.fn.shadows l.fn.ram) set l.changes l.side l.wp l.pages);
  few : l.count ≤ l.i;
  moves : Moves l.fn.pool l.pool l.fn.ram l.ram (g.S.Shadows.frames l.fn.shadows l.fn.ram) (g.S.Shadows.frames l.shadows l.ram);
}
