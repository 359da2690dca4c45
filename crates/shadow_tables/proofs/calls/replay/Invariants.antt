use Rattle.std.proofs.Common.{◌≡◌, ℕ, ◌+◌, ◌≤◌, ◌<◌, ◌^◌, [], length, take}
use Rattle.frame_pool.specs.Pool.{free_list}
use Rattle.frame_pool.specs.Held.{Moves}
use Rattle.shadow_tables.specs.Seen.{after_calls}
use Rattle.shadow_tables.specs.Steps.{after}
use Rattle.shadow_tables.specs.Calls.{fills, IsWithin}
use Rattle.shadow_tables.proofs.calls.replay.Given as goal

abbrev pub invariant-loop-call : goal.invariant-loop-call
invariant-loop-call g l = record {
  count : l.count ≡ l.call-index;
  stands : ∥ g.S.Shadows.stands l.shadows l.ram ∥₁;
  moves : Moves l.fn.pool l.pool l.fn.ram l.ram (g.S.Shadows.frames l.fn.shadows l.fn.ram) (g.S.Shadows.frames l.shadows l.ram);
  left : length (free_list l.fn.pool l.fn.ram) ≤ length (free_list l.pool l.ram) + fills (take l.call-index l.calls);
  sight : g.S.Shadows.sight l.shadows l.ram ≡ after_calls (take l.call-index l.calls) (g.S.Shadows.sight l.fn.shadows l.fn.ram);
  within : (page : ℕ) → page < 2 ^ 20 → IsWithin (g.S.Shadows.slots l.shadows l.ram page)
      (after (take l.call-index l.calls) page (g.S.Shadows.slots l.fn.shadows l.fn.ram page));
  slots : ((s : _) → g.S.Shadows.write_protected s ≡ []) → (page : ℕ) → page < 2 ^ 20
      → g.S.Shadows.slots l.shadows l.ram page ≡ after (take l.call-index l.calls) page (g.S.Shadows.slots l.fn.shadows l.fn.ram page);
}
