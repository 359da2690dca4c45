-- Laws of several kernels in turns.
use Rattle.std.specs.Prelude.{◌≡◌, ℕ, ◌*◌, ◌≤◌, List, ◌∷◌, ◌++◌, Ok, length, drop, map}
use Rattle.ia32_types.specs.declared.stop.Stop.{Stop}
use Rattle.frame_pool.specs.Pool.{Stands}
use Rattle.frame_pool.specs.declared.Pool.{Pool}
use Rattle.run_trace.specs.declared.pause.Pause.TheVariants as pause
use Rattle.machine_model.specs.State.{Setting, State}
use Rattle.machine_model.specs.Step.{Report}
use Rattle.wedge_core.specs.Slices.{Filling, Outward}
use Rattle.wedge_step.specs.Pools.{Keeps}
use Rattle.guest_sched.specs.Legs.{HasRun, HasStopped}
use Rattle.guest_sched.specs.Turns.{TurnAs}
use Rattle.shadow_cache.specs.declared.roots.Roots.{Roots}
use Rattle.guest_sched.specs.Dropped.{AllDropped, released}
use Rattle.guest_sched.specs.Apart.{Seat, held_by, IsSeated, AreApart, behind_as}

-- a turn that made all its steps
abbrev pub TurnsJoin : Type 0
TurnsJoin =
    (m : Setting) (tag : List ℕ) (bound : ℕ) (old new : State) (out : Outward) (filling : Filling) (reports : List Report)
    → HasRun m reports filling.fills old → filling.pages ≤ filling.fills → filling.filled ≤ 128 * new.step
    → (t : TurnAs m tag bound old new out filling (Ok pause.Reached)) → HasRun m (reports ++ t.reports) filling.filled new
    × (new.step ≡ bound)

-- one that ended at a stop, before the bound of the kernel's run
abbrev pub TurnStops : Type 0
TurnStops =
    (m : Setting) (tag : List ℕ) (bound : ℕ) (old new : State) (out : Outward) (filling : Filling) (reports : List Report)
    → HasRun m reports filling.fills old → filling.pages ≤ filling.fills → filling.filled ≤ 128 * new.step → (n : ℕ)
    → bound ≤ n → (stop : Stop)
    → (t : TurnAs m tag bound old new out filling (Ok (pause.Stopped stop)))
    → HasStopped m n (reports ++ t.reports) filling.filled stop new.step

-- Kernels are apart where one of them has become another, over frames that moved between it and the free ones.
abbrev pub OneMoves : Type 0
OneMoves =
    (frames : ℕ) (p p' : Pool) (host host' : List ℕ) (before after : List Seat) (s s' : Seat) → AreApart frames p host (before ++ s ∷ after)
    → Keeps p p' host host' (held_by s) (held_by s') → Stands p' host' → IsSeated frames p' s' → length s'.memory ≡ length host'
    → drop (4096 * frames) s'.memory ≡ drop (4096 * frames) host'
    → AreApart frames p' host' (map (behind_as frames host') before ++ s' ∷ map (behind_as frames host') after)

-- so where its shadows were dropped
abbrev pub OneReleases : Type 0
OneReleases =
    (frames : ℕ) (p p' : Pool) (host host' : List ℕ) (before after : List Seat) (s : Seat) (new : Roots)
    → AreApart frames p host (before ++ s ∷ after)
    → AllDropped p p' host host' s.running.shadows new s.running.fills
    → AreApart frames p' host' (map (behind_as frames host') before ++ released frames host' s new ∷ map (behind_as frames host') after)
