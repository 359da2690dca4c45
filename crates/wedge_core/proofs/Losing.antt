-- What a guest holds says nothing of what its last step lost.
use Rattle.std.proofs.Common.{ℕ, List}
use Rattle.frame_pool.specs.declared.Pool.{Pool}
use Rattle.shadow_tables.specs.declared.shadows.Shadows as shadows
use Rattle.machine_model.specs.State.{Setting}
use Rattle.wedge_step.specs.Standing.{IsHeld}
use Rattle.wedge_step.specs.declared.running.Lost.{Lost}
use Rattle.wedge_step.specs.declared.running.Running.{Running}

pub held_lost : {S : Type 0} (shows : shadows.Ghosts S) (m : Setting) (g : Running S) (pool : Pool) (memory : List ℕ) (lost : Lost)
    → IsHeld shows m g pool memory → IsHeld shows m (record g { lost = lost }) pool memory
held_lost shows m g pool memory lost h = record {
  wedge = h.wedge;
  frames_are = h.frames_are;
  size = h.size;
  host = h.host;
  whole = h.whole;
  behind = h.behind;
  stand = h.stand;
  owns = h.owns;
  counted = h.counted;
  few = h.few;
  fills = h.fills;
  within = h.within;
  open_to = h.open_to;
}
