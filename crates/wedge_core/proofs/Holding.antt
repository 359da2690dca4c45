-- What a guest holds stands whatever its board and count are.
use Rattle.std.proofs.Common.{◌≡◌, ℕ, ◌+◌, ◌≤◌, List, length, sym, subst, arith}
use Rattle.frame_pool.specs.Pool.{free_list}
use Rattle.frame_pool.specs.declared.Pool.{Pool}
use Rattle.board.specs.declared.devices.Board.{Board}
use Rattle.shadow_tables.specs.declared.shadows.Shadows as shadows
use Rattle.image_check.specs.Image.{Image}
use Rattle.machine_model.specs.State.{Setting}
use Rattle.wedge_step.specs.Pools.{Keeps}
use Rattle.wedge_step.specs.Standing.{IsHeld, ground}
use Rattle.wedge_step.specs.declared.running.Running.{Running}

module _ {S : Type 0} (shows : shadows.Ghosts S) where
  pub held_later : (m : Setting) (g : Running S) (board : Board) (step : ℕ) (pool : Pool) (memory : List ℕ) → g.step ≤ step
      → IsHeld shows m g pool memory → IsHeld shows m (record g { board = board; step = step }) pool memory
  held_later m g board step pool memory later h = record {
    wedge = h.wedge;
    frames_are = h.frames_are;
    size = h.size;
    host = h.host;
    whole = h.whole;
    behind = h.behind;
    stand = h.stand;
    owns = h.owns;
    counted = h.counted;
    few = h.few;
    fills = (let f = h.fills in omega (arith, later, f));
    within = h.within;
    open_to = h.open_to;
  }

  -- as many frames as were free or held still are
  pub enough_then : (m : Setting) (g now : Running S) (p q : Pool) (memory then : List ℕ) → IsHeld shows m g p memory
      → IsHeld shows m now q then
      → Keeps p q memory then (shows.frames g.shadows memory) (shows.frames now.shadows then) → 16 ≤ length (free_list p memory) + g.held
      → 16 ≤ length (free_list q then) + now.held
  enough_then m g now p q memory then a b k enough =
      let x = a.counted in
      let y = b.counted in
      let z = k.lengths in
      omega (arith, x, y, z, enough)

  -- with other events, and with frames that are as many
  pub held_given : (image : Image) (f n : ℕ) (g : Running S) (board : Board) (pool : Pool) (memory : List ℕ) → n ≡ f
      → IsHeld shows (ground image f) g pool memory → IsHeld shows (ground image n) (record g { board = board }) pool memory
  held_given image f n g board pool memory is h =
      subst (λ (k : ℕ). IsHeld shows (ground image k) (record g { board = board }) pool memory) (sym is)
      (held_later (ground image f) g board g.step pool memory (omega arith) h)

  pub held_at : (image : Image) (f n : ℕ) (g : Running S) (pool : Pool) (memory : List ℕ) → f ≡ n
      → IsHeld shows (ground image f) g pool memory → IsHeld shows (ground image n) g pool memory
  held_at image f n g pool memory is h = subst (λ (k : ℕ). IsHeld shows (ground image k) g pool memory) is h
