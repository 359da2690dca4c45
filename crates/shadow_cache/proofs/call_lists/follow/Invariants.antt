use Rattle.std.proofs.Common.{◌≡◌, ℕ, [], take}
use Rattle.frame_pool.specs.Held.{Moves}
use Rattle.shadow_cache.specs.Pairs.{frames_of}
use Rattle.shadow_cache.specs.Roots.{pairs_of, IsStanding}
use Rattle.shadow_cache.specs.Agreeing.{Agree}
use Rattle.shadow_cache.proofs.call_lists.follow.Given as goal

abbrev pub invariant-loop-call : goal.invariant-loop-call
invariant-loop-call l = record {
  count : l.count ≡ l.call-index;
  stands : ∥ IsStanding l.roots l.ram ∥₁;
  moves : Moves l.fn.pool l.pool l.fn.ram l.ram (frames_of (pairs_of l.fn.roots) l.fn.ram) (frames_of (pairs_of l.roots) l.ram);
  law : (value : ℕ) → Agree value [] (pairs_of l.fn.roots) l.fn.ram → Agree value (take l.call-index l.calls) (pairs_of l.roots) l.ram;
}
