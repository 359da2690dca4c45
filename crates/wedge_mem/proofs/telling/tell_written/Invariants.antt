use Rattle.std.proofs.Common.{◌≡◌, ℕ, Bool, ◌≤◌, length, take}
use Rattle.frame_pool.specs.Pool.{free_list}
use Rattle.frame_pool.specs.Held.{Moves}
use Rattle.shadow_tables.specs.OtherRoot.{AreSame, all_spared}
use Rattle.shadow_tables.specs.Entries.{entries_of}
use Rattle.shadow_tables.specs.Slots.{SameSlots}
use Rattle.wedge_mem.specs.Seen.{KnowsWritten}
use Rattle.wedge_mem.proofs.telling.tell_written.Given as goal

abbrev pub invariant-loop-frame : goal.invariant-loop-frame
invariant-loop-frame g l = record {
  stands : ∥ g.S.Shadows.stands l.shadows l.ram ∥₁;
  slots : SameSlots (g.S.Shadows.slots l.fn.shadows l.fn.ram) (g.S.Shadows.slots l.shadows l.ram);
  entries : entries_of (g.S.Shadows.slots l.shadows l.ram) ≡ entries_of (g.S.Shadows.slots l.fn.shadows l.fn.ram);
  known : KnowsWritten g.S.Shadows (take l.frame-index l.wrote) l.fn.shadows l.shadows;
  has_tables_under : (indices : ℕ → Bool) → g.S.Shadows.has_tables_under l.fn.shadows l.fn.ram indices
      → g.S.Shadows.has_tables_under l.shadows l.ram indices;
  other_roots : AreSame (all_spared (take l.frame-index l.wrote) (g.S.Shadows.other_roots l.fn.shadows l.fn.ram))
      (g.S.Shadows.other_roots l.shadows l.ram);
  roots : (view : _) → g.S.Shadows.directory l.shadows view ≡ g.S.Shadows.directory l.fn.shadows view;
  fewer : length (free_list l.fn.pool l.fn.ram) ≤ length (free_list l.pool l.ram);
  moves : Moves l.fn.pool l.pool l.fn.ram l.ram (g.S.Shadows.frames l.fn.shadows l.fn.ram) (g.S.Shadows.frames l.shadows l.ram);
}
