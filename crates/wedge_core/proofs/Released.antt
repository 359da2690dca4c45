-- A guest whose shadows were dropped.
use Rattle.std.proofs.Common.{◌≡◌, ℕ, ◌%◌, ◌<◌, ◌^◌, List, length, None, sym, ap, ◌∙◌, arith}
use Rattle.std.specs.FinMap.{get, empty, get-empty}
use Rattle.std.specs.Ordering.{nat_cmp}
use Rattle.descriptors.specs.Controls.{wp_of}
use Rattle.frame_pool.specs.declared.Pool.{Pool}
use Rattle.frame_pool.specs.Held.{Owns, Moves}
use Rattle.image_check.specs.Image.{Image}
use Rattle.shadow_tables.specs.Entries.{entries_of}
use Rattle.shadow_cache.specs.Views as roots
use Rattle.wedge_core.specs.OfRoots.{of_roots}
use Rattle.shadow_cache.specs.declared.roots.Roots.{Roots}
use Rattle.machine_model.specs.Run.{Set}
use Rattle.wedge_step.specs.Standing.{IsHeld, ground}
use Rattle.wedge_step.specs.declared.running.Running.{Running}
use Rattle.wedge_step.proofs.Bools.{none_some}
use Rattle.wedge_step.proofs.Memories.{front_same, host_same, text_within}
use Rattle.wedge_step.proofs.Opening.{none_open}

pub held_on : (image : Image) (frames : ℕ) (g : Running Roots) (s : Roots) (p p' : Pool) (m m' : List ℕ)
    → ∥ roots.stands s m' ∥₁ → ((page : ℕ) → page < 2 ^ 20 → roots.slots s m' page ≡ None) → entries_of (roots.slots s m') ≡ empty
    → length (roots.frames s m') ≡ 2 → Owns p' m' (roots.frames s m')
    → Moves p p' m m' (roots.frames g.shadows m) (roots.frames s m') → IsHeld of_roots (ground image frames) g p m
    → IsHeld of_roots (ground image frames) (record g { shadows = s; held = 2 }) p' m'
held_on image frames g s p p' m m' stands none entries two owns moves h =
    let room = h.wedge.room in
    let within = text_within image in
    let front = front_same frames p p' m m' (roots.frames g.shadows m) (roots.frames s m') h.behind h.owns moves in
    let low = h.behind in
    let same = moves.same.0 in
    let few = h.few in
    let lengths = moves.lengths in
    record {
      wedge = h.wedge;
      frames_are = h.frames_are;
      size = h.size;
      host = host_same (ground image frames) m m' (omega (arith, room, within)) moves.size front h.host;
      whole = ap (λ (k : ℕ). k % 4096) moves.size ∙ h.whole;
      behind = omega (arith, low, same);
      stand = stands;
      owns = owns;
      counted = sym two;
      few = omega (arith, few, lengths);
      fills = h.fills;
      within = λ page x is. absurd (none_some x (sym (get-empty nat_cmp page) ∙ (ap (λ (set : Set). get set page) (sym entries) ∙ is)));
      open_to = none_open image (wp_of g.cpu) _ none;
    }
