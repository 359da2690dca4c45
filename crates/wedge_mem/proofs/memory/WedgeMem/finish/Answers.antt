use Rattle.std.proofs.Common.{◌≡◌, ◌+◌, ◌*◌, ◌≤◌, List, length, sym, ap, subst, arith}
use Rattle.std.specs.Prelude.{MatchOption}
use Rattle.std.specs.FinMap.{empty}
use Rattle.frame_pool.specs.Held.{Owns}
use Rattle.frame_pool.specs.Pool.{base_of}
use Rattle.shadow_tables.specs.Entries.{entries_of}
use Rattle.step_mem.specs.Changes.{AreToldIn, changed}
use Rattle.step_mem.specs.declared.changes.Change.{Change}
use Rattle.step_mem.specs.declared.state.StepState.{StepState}
use Rattle.wedge_mem.specs.Owned.{both, first}
use Rattle.wedge_mem.proofs.Plain.{going_first, left_within, room_left}
use Rattle.wedge_mem.proofs.memory.WedgeMem.finish.Goals as goal

pub invariant_of-self : goal.invariant_of-self
invariant_of-self g c =
    let old = c.args.self.now in let u = c.settle-filled.new in
    let s = g.S.Shadows.slots in let f = g.S.Shadows.frames in
    let before = entries_of (s old.shadows.now old.ram.now) in let after = entries_of (s u.shadows u.ram) in
    let frames = old.step.state.control.frames in
    let sound = old.going c.state-state.result.guard c.state-state.ensures.guards in
    let same = ap (λ (t : StepState). t.changes) c.state-state.ensures.state in
    let kept = subst (λ (cs : List Change). MatchOption c.settle-filled.result (after ≡ empty) (λ n. after ≡ changed before cs)) same
    c.settle-filled.ensures.settled.entries in
    let room = room_left old.pool.now u.pool old.ram.now u.ram (f old.shadows.now old.ram.now) (f u.shadows u.ram) frames
    c.settle-filled.ensures.moves sound.frames_in sound.below in
    let p = c.new-self.result in let begins = c.new-self.ensures.state in let place = c.new-self.ensures.text in
    let among : p.first + p.count ≤ frames = omega (arith, place.0, place.1, old.laid) in
    record {
      laid = omega (arith, among, ap (λ (t : StepState). t.control.frames) begins);
      going = going_first (λ m. entries_of (s u.shadows m)) (4096 * base_of u.pool)
          (λ m. (∥ g.S.Shadows.stands u.shadows m ∥₁) × Owns u.pool m (f u.shadows m)) u.ram p old.step.state.control begins
          room.0 room.1 among (both c.settle-filled.ensures.stands c.settle-filled.ensures.owns)
          (left_within c.settle-filled.result after (changed before old.step.state.changes) frames kept sound.within);
    }

pub entries_used-used-requires-clause-stands : goal.entries_used-used-requires-clause-stands
entries_used-used-requires-clause-stands g c =
    first (c.args.self.now.going c.state-state.result.guard c.state-state.ensures.guards).stands_now

pub entries_used-used-requires-clause-told : goal.entries_used-used-requires-clause-told
entries_used-used-requires-clause-told g c =
    let sound = c.args.self.now.going c.state-state.result.guard c.state-state.ensures.guards in
    subst (λ (t : StepState). AreToldIn t.visited t.changes) (sym c.state-state.ensures.state) sound.told

pub entries_used-used-requires-clause-few : goal.entries_used-used-requires-clause-few
entries_used-used-requires-clause-few g c =
    let sound = c.args.self.now.going c.state-state.result.guard c.state-state.ensures.guards in
    let visits = sound.visits in let few = sound.few in
    subst (λ (t : StepState). length t.visited ≤ 128) (sym c.state-state.ensures.state) (omega (arith, visits, few))

pub returns-in-Some-clause-count : goal.returns-in-Some-clause-count
returns-in-Some-clause-count g c = (
  rw c.state-state.ensures.state at c.entries_used-used.ensures,
  rw c.state-state.ensures.state at (rw c.in-Some.is at c.settle-filled.ensures.room),
)

pub returns-in-None-clause-count : goal.returns-in-None-clause-count
returns-in-None-clause-count g c = rw c.state-state.ensures.state at (rw c.in-None.is at c.settle-filled.ensures.room)

pub returns-in-Some-clause-settled : goal.returns-in-Some-clause-settled
returns-in-Some-clause-settled g c = let s = rw c.in-Some.is at c.settle-filled.ensures.settled in record {
  entries = rw c.state-state.ensures.state at s.entries;
  filled = rw c.state-state.ensures.state at s.filled;
  read_from = rw c.state-state.ensures.state at s.read_from;
  noted_only = rw c.state-state.ensures.state at s.noted_only;
  stale = rw c.state-state.ensures.state at s.stale;
  cr3 = s.cr3;
  other_roots = rw c.state-state.ensures.state at s.other_roots;
  unprotected = rw c.state-state.ensures.state at s.unprotected;
}

pub returns-in-None-clause-settled : goal.returns-in-None-clause-settled
returns-in-None-clause-settled g c = let s = rw c.in-None.is at c.settle-filled.ensures.settled in record {
  entries = s.entries;
  filled = s.filled;
  read_from = rw c.state-state.ensures.state at s.read_from;
  noted_only = rw c.state-state.ensures.state at s.noted_only;
  stale = s.stale;
  cr3 = s.cr3;
  other_roots = s.other_roots;
  unprotected = rw c.state-state.ensures.state at s.unprotected;
}
