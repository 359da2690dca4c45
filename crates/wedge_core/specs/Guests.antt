-- The guest that stands at the end of a patched run.
use Rattle.std.specs.Prelude.{◌≡◌, ℕ, List}
use Rattle.frame_pool.specs.declared.Pool.{Pool}
use Rattle.run_trace.specs.declared.items.End.{End}
use Rattle.run_trace.specs.declared.items.End.TheVariants.{Bound, Stopped}
use Rattle.machine_model.specs.State.{Setting, State}
use Rattle.machine_model.specs.Run.{Set, with_set}
use Rattle.wedge_core.specs.OfRoots.{of_roots}
use Rattle.shadow_cache.specs.declared.roots.Roots.{Roots}
use Rattle.wedge_step.specs.Standing.{IsHeld, ground, state_of}
use Rattle.wedge_step.specs.declared.running.Running.{Running}

-- Where all steps were done, a guest stands over the host's memory in the last state, keeps this set, and has filled so many
-- pages.
abbrev pub HasGuest : Setting → State → End → Set → ℕ → List ℕ → Type 0
HasGuest m last Bound set fills memory =
    (g : Running Roots) × (pool : Pool) × IsHeld of_roots (ground m.image m.frames) g pool memory
    × (state_of of_roots m g memory ≡ with_set last set) × (g.fills ≡ fills)
HasGuest m last (Stopped stop) set fills memory = Unit {0}
