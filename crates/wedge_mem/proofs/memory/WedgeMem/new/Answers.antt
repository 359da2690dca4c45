use Rattle.std.proofs.Common.{◌+◌, ◌*◌, ◌≤◌, ap, arith}
use Rattle.frame_pool.specs.Held.{Owns}
use Rattle.frame_pool.specs.Pool.{base_of}
use Rattle.shadow_tables.specs.Entries.{entries_of}
use Rattle.step_mem.specs.declared.state.StepState.{StepState}
use Rattle.wedge_mem.specs.Owned.{both}
use Rattle.wedge_mem.proofs.Plain.{going_first, room_first}
use Rattle.wedge_mem.proofs.memory.WedgeMem.new.Goals as goal

pub invariant_of-result : goal.invariant_of-result
invariant_of-result g c =
    let s = g.S.Shadows.slots in let f = g.S.Shadows.frames in
    let ram = c.args.ram.now in let pool = c.args.pool.now in let shadows = c.args.shadows.now in
    let room = room_first pool ram (f shadows ram) c.args.frames c.requires.owns c.requires.below in
    let p = c.new.result in let begins = c.new.ensures.state in let place = c.new.ensures.text in
    let among : p.first + p.count ≤ c.args.frames = omega (arith, place.0, place.1, c.requires.text) in
    record {
      laid = omega (arith, among, ap (λ (t : StepState). t.control.frames) begins);
      going = going_first (λ m. entries_of (s shadows m)) (4096 * base_of pool)
          (λ m. (∥ g.S.Shadows.stands shadows m ∥₁) × Owns pool m (f shadows m)) ram p _ begins
          room.0 room.1 among (both c.requires.stands c.requires.owns) c.requires.within;
    }
