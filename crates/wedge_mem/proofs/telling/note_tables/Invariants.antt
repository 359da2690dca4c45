use Rattle.std.proofs.Common.{◌≡◌, ℕ, Bool, take}
use Rattle.frame_pool.specs.Held.{Writes}
use Rattle.shadow_tables.specs.OtherRoot.{LoseWrites}
use Rattle.shadow_tables.specs.Entries.{entries_of}
use Rattle.wedge_mem.specs.Settled.{LosesSome}
use Rattle.wedge_mem.specs.Told.{guest_frames, read_by}
use Rattle.wedge_mem.proofs.telling.note_tables.Given as goal

abbrev pub invariant-loop-frame : goal.invariant-loop-frame
invariant-loop-frame g l = record {
  read_from : (frame : ℕ) → g.S.Shadows.read_from l.shadows frame ≡ read_by (g.S.Shadows.read_from l.fn.shadows)
      (take l.frame-index l.tables) frame;
  stale : g.S.Shadows.stale l.shadows ≡ g.S.Shadows.stale l.fn.shadows;
  cr3 : g.S.Shadows.cr3 l.shadows ≡ g.S.Shadows.cr3 l.fn.shadows;
  other_roots : LoseWrites (guest_frames (take l.frame-index l.tables)) (g.S.Shadows.other_roots l.fn.shadows l.fn.ram)
      (g.S.Shadows.other_roots l.shadows l.ram);
  stands : ∥ g.S.Shadows.stands l.shadows l.ram ∥₁;
  slots : LosesSome (guest_frames (take l.frame-index l.tables)) (g.S.Shadows.slots l.fn.shadows l.fn.ram)
      (g.S.Shadows.slots l.shadows l.ram);
  entries : entries_of (g.S.Shadows.slots l.shadows l.ram) ≡ entries_of (g.S.Shadows.slots l.fn.shadows l.fn.ram);
  roots : (view : _) → g.S.Shadows.directory l.shadows view ≡ g.S.Shadows.directory l.fn.shadows view;
  has_tables_under : (indices : ℕ → Bool) → g.S.Shadows.has_tables_under l.fn.shadows l.fn.ram indices
      → g.S.Shadows.has_tables_under l.shadows l.ram indices;
  frames : g.S.Shadows.frames l.shadows l.ram ≡ g.S.Shadows.frames l.fn.shadows l.fn.ram;
  memory : Writes (g.S.Shadows.frames l.fn.shadows l.fn.ram) l.fn.ram l.ram;
}
