-- A checkpoint can be made of the state that a guest reaches.
use Rattle.std.proofs.Common.{◌≡◌, List, ℕ, ◌+◌, ◌*◌, ◌^◌, ◌≤◌, length, sym, subst, arith}
use Rattle.frame_pool.specs.declared.Pool.{Pool}
use Rattle.board.specs.Scripts.{Events}
use Rattle.image_check.specs.Image.{Image}
use Rattle.native_steps.specs.Mirrors.{shown}
use Rattle.shadow_cache.specs.declared.roots.Roots.{Roots}
use Rattle.machine_model.specs.Fit.{Fit}
use Rattle.machine_model.specs.State.{State, wedge}
use Rattle.wedge_step.specs.Leaves.{IsBetween}
use Rattle.wedge_step.specs.Scene.{Scene, free}
use Rattle.wedge_step.specs.Standing.{IsHeld, ground, state_of}
use Rattle.wedge_step.specs.declared.running.Running.{Running}
use Rattle.wedge_step.proofs.Memories.{text_within}
use Rattle.wedge_core.specs.OfRoots.{of_roots}
use Rattle.wedge_core.specs.Scenes.{IsHeldIn, IsReadyIn}
use Rattle.checkpoint.specs.Guests.{GoesOnFrom}
use Rattle.checkpoint.specs.InForm.{IsInForm}
use Rattle.checkpoint.specs.Moved.{kept_of}
use Rattle.checkpoint.proofs.Seats.{shown_long}

pub guest_size : (image : Image) (script : Events) (g : Running Roots) (pool : Pool) (memory : List ℕ)
    → IsHeld of_roots (ground image g.frames) g pool memory
    → length (state_of of_roots (wedge image script g.frames) g memory).ram ≡ 4096 * g.frames
unfolding shown
guest_size image script g pool memory h =
    let room = h.wedge.room in
    let within = text_within image in
    shown_long memory image.text g.frames h.host.room (omega (arith, room, within))

pub guest_form : (image : Image) (script : Events) (g : Running Roots) (pool : Pool) (memory : List ℕ)
    → IsHeld of_roots (ground image g.frames) g pool memory → Fit g.cpu → g.step ≤ 2 ^ 40
    → IsInForm (kept_of (state_of of_roots (wedge image script g.frames) g memory))
guest_form image script g pool memory h fit step =
    let low = h.size.0 in
    let high = h.size.1 in
    let long = guest_size image script g pool memory h in
    record { step = step; ram = (omega (arith, long, low), omega (arith, long, high), omega (arith, long)); fit = fit }

-- A guest that is held over so many frames is between two steps over its own.
pub between : (image : Image) (count : ℕ) (c : Scene Roots) → IsHeldIn of_roots (ground image count) c
    → IsReadyIn of_roots (ground image count) c
    → 16 ≤ free c + c.guest.held → IsBetween of_roots image c
between image count c held ready enough = record {
  held = subst (λ (k : ℕ). IsHeldIn of_roots (ground image k) c) (sym held.frames_are) held;
  ready = subst (λ (k : ℕ). IsReadyIn of_roots (ground image k) c) (sym held.frames_are) ready;
  enough = enough;
}

-- So is one that goes on from a state.
pub seated_between : (image : Image) (count : ℕ) (first : State) (c : Scene Roots) → GoesOnFrom image count first c
    → IsBetween of_roots image c
seated_between image count first c h = let all = h.free in between image count c h.held h.ready (omega (arith, all))
