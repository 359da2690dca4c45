-- Shadows that were dropped, all but their roots, whoever stands in the host's memory.
use Rattle.std.specs.Prelude.{◌≡◌, ℕ, ◌*◌, ◌^◌, ◌<◌, List, [], ◌++◌, None, length, take, drop}
use Rattle.std.specs.FinMap.{empty}
use Rattle.frame_pool.specs.declared.Pool.{Pool}
use Rattle.frame_pool.specs.Held.{Owns, Moves}
use Rattle.shadow_tables.specs.Entries.{entries_of}
use Rattle.shadow_cache.specs.Views as roots
use Rattle.wedge_core.specs.OfRoots.{of_roots}
use Rattle.shadow_cache.specs.declared.roots.Roots.{Roots}
use Rattle.wedge_step.specs.Filled.{WereFilled, pages_kept}
use Rattle.guest_sched.specs.Apart.{Seat}

-- Nothing is kept, for no value of CR3, and two frames are held.
pub record AllDropped (p p' : Pool) (host host' : List ℕ) (old new : Roots) (fills : ℕ) : Type 0 where
  pub stands : ∥ roots.stands new host' ∥₁
  pub owns : Owns p' host' (roots.frames new host')
  pub two : length (roots.frames new host') ≡ 2
  pub none : (page : ℕ) → page < 2 ^ 20 → roots.slots new host' page ≡ None
  pub entries : entries_of (roots.slots new host') ≡ empty
  pub other_roots : roots.other_roots new host' ≡ []
  pub same_cr3 : roots.cr3 new ≡ roots.cr3 old
  pub filled : WereFilled (pages_kept of_roots new host') fills
  pub moves : Moves p p' host host' (roots.frames old host) (roots.frames new host')

-- the kernel whose shadows these were
abbrev pub released : ℕ → List ℕ → Seat → Roots → Seat
released frames host s new =
    record s { running = record s.running { shadows = new; held = 2 }; memory = take (4096 * frames) s.memory ++ drop (4096 * frames) host }
