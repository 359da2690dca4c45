use Rattle.std.proofs.Common.{◌≡◌, inl, inr, ℕ, ◌+◌, ◌*◌, false, List, length, take, refl, sym, ap, subst, ◌∙◌, arith}
use Rattle.frame_pool.specs.Pool.{free_list}
use Rattle.frame_pool.specs.declared.Pool.{Pool}
use Rattle.image_check.specs.Image.{Image}
use Rattle.shadow_cache.specs.Views as roots
use Rattle.wedge_core.specs.OfRoots.{of_roots}
use Rattle.shadow_cache.specs.declared.roots.Roots.{Roots}
use Rattle.machine_model.specs.Keeping.{Roomy}
use Rattle.machine_model.specs.State.{State, wedge}
use Rattle.machine_model.specs.Taken.{Taken}
use Rattle.native_steps.specs.Mirrors.{shown}
use Rattle.wedge_step.specs.Carried.{IsCarried}
use Rattle.wedge_step.specs.Filled.{CountsFills, pages_kept}
use Rattle.wedge_core.specs.Noted.{NotesOn}
use Rattle.wedge_core.specs.Calls.{GuestLeaves}
use Rattle.wedge_core.specs.Promises.{with_patches}
use Rattle.wedge_core.specs.Sliced.{BeginsKnown, SliceIn, SliceLeaves, noting, outward}
use Rattle.wedge_step.specs.Ready.{IsReady}
use Rattle.wedge_core.specs.Slices.{Counts, Knowing}
use Rattle.wedge_core.proofs.SlicedBy.{SliceAs}
use Rattle.run_trace.specs.Pauses.{IfReached}
use Rattle.wedge_step.specs.Leaves.{IsBetween}
use Rattle.wedge_step.specs.Scene.{AreAmple, scene}
use Rattle.wedge_step.specs.Standing.{IsHeld, ground, state_of}
use Rattle.wedge_step.specs.declared.running.Running.{Running}
use Rattle.wedge_step.proofs.Keeping.{keeps_join}
use Rattle.wedge_core.proofs.Owning.{keeps_owns}
use Rattle.wedge_core.proofs.Guests.{still_filled, front_after}
use Rattle.wedge_core.proofs.SliceStarts.{more_first, slice_begun, anew_carries, begun_carries}
use Rattle.wedge_core.proofs.guest.Guest.slice.Goals as goal

-- what holds of the guest as contracts see it holds of its fields
abbrev fields_between : (image : Image) (r now : Running Roots) (pool : Pool) (memory : List ℕ) → r ≡ now
    → IsBetween of_roots image (scene now pool memory) → IsBetween of_roots image (scene r pool memory)
fields_between image r now pool memory is = subst (λ (k : Running Roots). IsBetween of_roots image (scene k pool memory)) (sym is)

pub begin-requires-clause-held : goal.begin-requires-clause-held
begin-requires-clause-held g c = (c.args.image.now, (fields_between _ _ _ _ _ c.self.view_is c.requires.between).held)

abbrev same_frames : (old begun : Running Roots) → begun ≡ record old { shadows = begun.shadows } → begun.frames ≡ old.frames
same_frames old begun e = ap (λ (x : Running Roots). x.frames) e

abbrev same_fills : (old begun : Running Roots) → begun ≡ record old { shadows = begun.shadows } → begun.fills ≡ old.fills
same_fills old begun e = ap (λ (x : Running Roots). x.fills) e

pub steps_to-requires-clause-between : goal.steps_to-requires-clause-between
steps_to-requires-clause-between g c = record {
  held =
      let between = fields_between c.args.image.now c.self.inside.running c.args.self.now c.args.pool.now (g.H.Host.bytes c.args.host.now)
      c.self.view_is c.requires.between in
      let begun = c.begin.new.running in
      subst (λ (n : ℕ). IsHeld of_roots (ground c.args.image.now n) begun c.begin.new.pool (g.H.Host.bytes c.begin.new.host))
      (sym (same_frames c.self.inside.running begun c.begin.ensures.begins.running))
      (c.begin.ensures.begins.held c.args.image.now between.held);
  ready =
      let between = fields_between c.args.image.now c.self.inside.running c.args.self.now c.args.pool.now (g.H.Host.bytes c.args.host.now)
      c.self.view_is c.requires.between in
      let old = c.self.inside.running in
      let begun = c.begin.new.running in
      let ready = c.begin.ensures.begins.ready c.args.image.now between.ready in
      subst (λ (n : ℕ). IsReady of_roots (ground c.args.image.now n) begun.cpu begun.shadows (g.H.Host.bytes c.begin.new.host))
      (sym (same_frames old begun c.begin.ensures.begins.running)) ready;
  enough =
      let between = fields_between c.args.image.now c.self.inside.running c.args.self.now c.args.pool.now (g.H.Host.bytes c.args.host.now)
      c.self.view_is c.requires.between in
      let held_now = c.begin.ensures.begins.held c.args.image.now between.held in
      let count = between.held.counted in
      let count_now = held_now.counted in
      let lengths = c.begin.ensures.begins.keeps.lengths in
      let enough = between.enough in
      omega (arith, count, count_now, lengths, enough);
}

pub returns-clause-leaves : goal.returns-clause-leaves
returns-clause-leaves g c =
    subst (λ (r : Running Roots). SliceLeaves of_roots c.args.image.now (r.step + c.args.k)
    (scene r c.args.pool.now (g.H.Host.bytes c.args.host.now))
    (scene c.steps_to.new.running c.steps_to.new.pool (g.H.Host.bytes c.steps_to.new.host)) c.steps_to.result) c.self.view_is
    (record {
      reached = c.steps_to.ensures.leaves.reached;
      held =
          let old = c.self.inside.running in
          let begun = c.begin.new.running in
          subst (λ (n : ℕ). IfReached c.steps_to.result
          (IsHeld of_roots (ground c.args.image.now n) c.steps_to.new.running c.steps_to.new.pool (g.H.Host.bytes c.steps_to.new.host)))
          (same_frames old begun c.begin.ensures.begins.running) c.steps_to.ensures.leaves.held;
      ready =
          let old = c.self.inside.running in
          let begun = c.begin.new.running in
          let end = c.steps_to.new.running in
          subst (λ (n : ℕ). IfReached c.steps_to.result
          (IsReady of_roots (ground c.args.image.now n) end.cpu end.shadows (g.H.Host.bytes c.steps_to.new.host))) (same_frames old begun
          c.begin.ensures.begins.running) c.steps_to.ensures.leaves.ready;
      able = c.steps_to.ensures.leaves.able;
      counted = c.steps_to.ensures.leaves.counted;
      stands = c.steps_to.ensures.leaves.stands;
      pool =
          let old = c.self.inside.running in
          let begun = c.begin.new.running in
          let end = c.steps_to.new.running in
          let m0 = g.H.Host.bytes c.args.host.now in
          let m1 = g.H.Host.bytes c.begin.new.host in
          let m2 = g.H.Host.bytes c.steps_to.new.host in
          keeps_join c.args.pool.now c.begin.new.pool c.steps_to.new.pool m0 m1 m2 (roots.frames old.shadows m0)
          (roots.frames begun.shadows m1) (roots.frames end.shadows m2) c.begin.ensures.begins.keeps c.steps_to.ensures.leaves.pool;
      few = c.steps_to.ensures.leaves.few;
      filled =
          let old = c.self.inside.running in
          let begun = c.begin.new.running in
          let first = pages_kept of_roots begun.shadows (g.H.Host.bytes c.begin.new.host) in
          let pages = pages_kept of_roots old.shadows (g.H.Host.bytes c.args.host.now) in
          let last = pages_kept of_roots c.steps_to.new.running.shadows (g.H.Host.bytes c.steps_to.new.host) in
          subst (λ (n : ℕ). CountsFills pages last n c.steps_to.new.running.fills) (same_fills old begun c.begin.ensures.begins.running)
          (more_first first pages last begun.fills c.steps_to.new.running.fills c.begin.ensures.begins.fewer
          c.steps_to.ensures.leaves.filled);
      frames = c.steps_to.ensures.leaves.frames ∙ same_frames c.self.inside.running c.begin.new.running c.begin.ensures.begins.running;
    })

pub returns-clause-own : goal.returns-clause-own
returns-clause-own g c =
    subst (λ (r : Running Roots). GuestLeaves c.args.image.now c.args.script.now.list
    (scene r c.args.pool.now (g.H.Host.bytes c.args.host.now))
    (scene c.steps_to.new.running c.steps_to.new.pool (g.H.Host.bytes c.steps_to.new.host)) c.steps_to.result) c.self.view_is
    (record {
      memory =
          let old = c.self.inside.running in
          let begun = c.begin.new.running in
          subst (λ (n : ℕ). IfReached c.steps_to.result
          (take (4096 * n) (g.H.Host.bytes c.steps_to.new.host) ≡ with_patches c.args.image.now
          (shown (wedge c.args.image.now c.args.script.now.list n) (g.H.Host.bytes c.steps_to.new.host))))
          (same_frames old begun c.begin.ensures.begins.running)
          (front_after c.steps_to.result c.args.image.now c.args.script.now.list begun.frames c.steps_to.new.running c.steps_to.new.pool
          (g.H.Host.bytes c.steps_to.new.host) c.steps_to.ensures.leaves.held);
      owns =
          let between = fields_between c.args.image.now c.self.inside.running c.args.self.now c.args.pool.now
          (g.H.Host.bytes c.args.host.now) c.self.view_is c.requires.between in
          let h = c.begin.ensures.begins.held c.args.image.now between.held in
          keeps_owns _ _ _ _ _ _ h.owns c.steps_to.ensures.leaves.pool;
      filled =
          let old = c.self.inside.running in
          let begun = c.begin.new.running in
          let first = pages_kept of_roots begun.shadows (g.H.Host.bytes c.begin.new.host) in
          let pages = pages_kept of_roots old.shadows (g.H.Host.bytes c.args.host.now) in
          let last = pages_kept of_roots c.steps_to.new.running.shadows (g.H.Host.bytes c.steps_to.new.host) in
          still_filled pages last old.fills c.steps_to.new.running.fills
          (subst (λ (n : ℕ). CountsFills pages last n c.steps_to.new.running.fills) (same_fills old begun c.begin.ensures.begins.running)
          (more_first first pages last begun.fills c.steps_to.new.running.fills c.begin.ensures.begins.fewer
          c.steps_to.ensures.leaves.filled));
    })

pub returns-clause-silent : goal.returns-clause-silent
returns-clause-silent g c = c.steps_to.ensures.silent

pub returns-clause-faults : goal.returns-clause-faults
returns-clause-faults g c = c.steps_to.ensures.faults

pub returns-clause-started : goal.returns-clause-started
returns-clause-started g c = c.steps_to.ensures.started

pub returns-clause-slice : goal.returns-clause-slice
returns-clause-slice g c =
    let between = fields_between c.args.image.now c.self.inside.running c.args.self.now c.args.pool.now (g.H.Host.bytes c.args.host.now)
    c.self.view_is c.requires.between in
    let old = c.self.inside.running in
    let begun = c.begin.new.running in
    let end = c.steps_to.new.running in
    let image = c.args.image.now in
    let script = c.args.script.now.list in
    let m0 = g.H.Host.bytes c.args.host.now in
    let m1 = g.H.Host.bytes c.begin.new.host in
    let m2 = g.H.Host.bytes c.steps_to.new.host in
    let m = wedge image script old.frames in
    let bound = old.step + c.args.k in
    let after : Counts = record { retired = g.H.Host.retired c.steps_to.new.host; passed = g.H.Host.passed c.steps_to.new.host } in
    let mid : Counts = record { retired = g.H.Host.retired c.begin.new.host; passed = g.H.Host.passed c.begin.new.host } in
    let before : Counts = record { retired = g.H.Host.retired c.args.host.now; passed = g.H.Host.passed c.args.host.now } in
    let told = g.O.Sink.taken c.args.out.now in
    let tells = g.O.Sink.taken c.steps_to.new.out in
    let notes_wanted = g.L.Notes.wants c.args.notes.now in
    let on = NotesOn notes_wanted (g.L.Notes.tells c.args.notes.now) (g.L.Notes.tells c.steps_to.new.notes) in
    let first = pages_kept of_roots begun.shadows m1 in
    let pages = pages_kept of_roots old.shadows m0 in
    let Knows = λ (n : ℕ) (past : List Taken).
    (Roomy past → IsCarried of_roots (wedge image script n) past (state_of of_roots (wedge image script n) begun m1) begun.shadows m1)
    × AreAmple (length (free_list c.begin.new.pool m1)) begun.held × (notes_wanted ≡ false) in
    let knows : ℕ → Knowing = λ n. record {
      before = Knows n;
      after = λ steps. IsCarried of_roots (wedge image script n) steps (state_of of_roots (wedge image script n) end m2) end.shadows m2;
    } in
    let starts = BeginsKnown of_roots image script (scene old c.args.pool.now m0) notes_wanted in
    let by_frames =
    subst (λ (n : ℕ). SliceAs (wedge image script n) bound (state_of of_roots (wedge image script n) begun m1)
    (state_of of_roots (wedge image script n) end m2) mid after told tells first begun.fills end.fills notes_wanted on
    (knows n) c.steps_to.result)
    (same_frames old begun c.begin.ensures.begins.running) c.steps_to.ensures.slice in
    let by_fills = subst (λ (n : ℕ). SliceAs m bound (state_of of_roots m begun m1) (state_of of_roots m end m2) mid after told tells first
    n end.fills notes_wanted on (knows old.frames) c.steps_to.result)
    (same_fills old begun c.begin.ensures.begins.running) by_frames in
    let by_state =
    subst (λ (b : State). SliceAs m bound b (state_of of_roots m end m2) mid after told tells first old.fills end.fills notes_wanted on
    (knows old.frames) c.steps_to.result) (c.begin.ensures.begins.state m refl) by_fills in
    let by_counts =
    subst (λ (x : Counts). SliceAs m bound (state_of of_roots m old m0) (state_of of_roots m end m2) x after told tells first old.fills
    end.fills notes_wanted on (knows old.frames) c.steps_to.result)
    (λ i. record { retired = c.begin.ensures.counts.retired i; passed = c.begin.ensures.counts.passed i }) by_state in
    let held_now = c.begin.ensures.begins.held image between.held in
    subst (λ (r : Running Roots). SliceIn of_roots (wedge image script r.frames) (r.step + c.args.k) (scene r c.args.pool.now m0)
    (scene end c.steps_to.new.pool m2) (outward g.H.Host g.O.Sink c.args.host.now c.steps_to.new.host c.args.out.now c.steps_to.new.out)
    (noting g.L.Notes c.args.notes.now c.steps_to.new.notes) (BeginsKnown of_roots image script (scene r c.args.pool.now m0) notes_wanted)
    c.steps_to.result) c.self.view_is
    (slice_begun m bound (state_of of_roots m old m0) (state_of of_roots m end m2) before after told tells first pages old.fills end.fills
    notes_wanted on (knows old.frames) starts c.steps_to.result c.begin.ensures.begins.fewer
    (λ past s.
    let count = between.held.counted in
    let count_now = held_now.counted in
    let lengths = c.begin.ensures.begins.keeps.lengths in
    let sets = ap (λ (b : State). b.set) (c.begin.ensures.begins.state m refl) in
    elim s [
      | inl bare ↦
          let ample = bare.1.ample in (
            λ roomy. subst (λ (l : List Taken). IsCarried of_roots m l (state_of of_roots m begun m1) begun.shadows m1) (sym bare.0)
                (anew_carries of_roots c.carry_laws.ensures m (state_of of_roots m begun m1) begun.shadows m1 (sets ∙ bare.1.empty_set)
                (c.begin.ensures.begins.anew bare.1.two)),
            omega (arith, count, count_now, lengths, ample),
            bare.1.silent,
          )
      | inr known ↦
          let ample = known.1 in (
            λ roomy. begun_carries of_roots c.carry_laws.ensures m past (state_of of_roots m old m0)
                (state_of of_roots m begun m1) old.shadows
                begun.shadows m0 m1 (c.begin.ensures.begins.state m refl) sets c.begin.ensures.begins.beside c.begin.ensures.begins.tables
                (known.0 roomy),
            omega (arith, count, count_now, lengths, ample),
            known.2,
          )
    ]) by_counts)
