-- What a guest's calls say of its filled pages, of the bytes outside its pool, and of its memory.
use Rattle.std.proofs.Common.{◌≡◌, ℕ, ◌+◌, ◌*◌, ◌<◌, ◌≤◌, ◌⊎◌, inl, inr, List, take, Result, Ok, Err, IfOk, arith}
use Rattle.frame_pool.specs.Pool.{base_of, count_of, free_list, SameOutside}
use Rattle.frame_pool.specs.declared.Pool.{Pool}
use Rattle.frame_pool.specs.Held.{times, Owns, Moves}
use Rattle.frame_pool.proofs.Lengths.{times-within, zero-or}
use Rattle.board.specs.Scripts.{Events}
use Rattle.pv_io.specs.declared.answer.Failed.{Failed}
use Rattle.image_check.specs.Image.{Image}
use Rattle.run_trace.specs.declared.pause.Pause.{Pause}
use Rattle.image_load.specs.declared.fault.StartFault.{StartFault}
use Rattle.wedge_core.specs.OfRoots.{of_roots}
use Rattle.machine_model.specs.State.{wedge}
use Rattle.native_steps.specs.Mirrors.{shown}
use Rattle.wedge_step.specs.Filled.{CountsFills, WereFilled, pages_kept}
use Rattle.wedge_core.specs.Promises.{with_patches}
use Rattle.run_trace.specs.Pauses.{IfReached}
use Rattle.wedge_step.specs.Standing.{IsHeld, ground}
use Rattle.wedge_core.specs.declared.guest.Guest.{Guest}
use Rattle.wedge_step.specs.declared.running.Running.{Running}
use Rattle.wedge_core.proofs.WholeRuns.{front_held}

not_between : (b n g : ℕ) (fs : List ℕ) → (g < b) ⊎ (b + n ≤ g) → ((f : ℕ) → 1 ≤ times f fs → (b ≤ f) × (f < b + n)) → times g fs ≡ 0
not_between b n g fs out h =
    elim (zero-or (times g fs)) [
      | inl none ↦ none
      | inr k ↦
          let here = h g k in
          let low = here.0 in
          let high = here.1 in
          absurd (elim out [ inl l ↦ omega (arith, l, low) | inr m ↦ omega (arith, m, high) ])
    ]

-- frames that were held and are given back lie in the pool
pub outside_of : (p p' : Pool) (m m' fs fs' : List ℕ) → Owns p m fs → Moves p p' m m' fs fs' → SameOutside (base_of p) (count_of p) m m'
outside_of p p' m m' fs fs' o v = record {
  size = v.size;
  others = λ g out. v.others g
      (not_between p.base p.count g (free_list p m) out
      (λ f k. let w = times-within p.base p.count f (free_list p m) o.stands.within k in (w.0, w.1)))
      (not_between p.base p.count g fs out (λ f k. ((o.out f k).low, (o.out f k).high)));
}

-- where each page that was kept had been filled, each that is kept was
pub still_filled : (old new before after : ℕ) → CountsFills old new before after → WereFilled old before → WereFilled new after
still_filled old new before after f h = let e = f.enough in omega (arith, e, h)

-- the host's first frames, where a slice has done its steps
pub front_after : (result : Result Pause Failed) (image : Image) (script : Events) (frames : ℕ)
    (g : Running Rattle.shadow_cache.specs.declared.roots.Roots.Roots) (pool : Pool) (memory : List ℕ)
    → IfReached result (IsHeld of_roots (ground image frames) g pool memory)
    → IfReached result (take (4096 * frames) memory ≡ with_patches image (shown (wedge image script frames) memory))
front_after (Ok pause) image script frames g pool memory h = front_held pause image script frames g pool memory h
front_after (Err failed) image script frames g pool memory h = tt

-- where none is kept, each was filled
pub none_kept : (pages fills : ℕ) → pages ≡ 0 → WereFilled pages fills
none_kept pages fills none = omega (arith, none)

pub none_kept_ok : (memory : List ℕ) (result : Result (Guest × Pool) StartFault)
    → IfOk result (λ started. pages_kept of_roots started.0.shadows memory ≡ 0)
    → IfOk result (λ started. WereFilled (pages_kept of_roots started.0.shadows memory) started.0.fills)
none_kept_ok memory (Ok started) none = none_kept (pages_kept of_roots started.0.shadows memory) started.0.fills none
none_kept_ok memory (Err fault) none = tt
