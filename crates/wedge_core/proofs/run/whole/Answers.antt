use Rattle.std.proofs.Common.{◌≡◌, inl, ℕ, ◌+◌, false, List, [], length, Ok, Err, refl, sym, subst, ap, arith}
use Rattle.frame_pool.specs.Pool.{free_list}
use Rattle.frame_pool.specs.declared.Pool.{Pool}
use Rattle.pv_io.specs.Sink.{Appends, AppendsFront}
use Rattle.board.specs.Scripts.{Events}
use Rattle.image_check.specs.Image.{Image}
use Rattle.run_trace.specs.declared.items.End.{End}
use Rattle.run_trace.specs.Notes.{Note}
use Rattle.run_trace.specs.Text.{end_line}
use Rattle.wedge_core.specs.OfRoots.{of_roots}
use Rattle.shadow_cache.specs.declared.roots.Roots.{Roots}
use Rattle.machine_model.specs.State.{Setting, State, boot, wedge}
use Rattle.wedge_step.specs.Filled.{pages_kept}
use Rattle.wedge_core.specs.Noted.{NotesOn}
use Rattle.wedge_core.proofs.AnsweredBy.{WedgeAnswers}
use Rattle.run_trace.specs.Pauses.{end_of}
use Rattle.wedge_core.specs.Sliced.{BeginsKnown, knowing}
use Rattle.wedge_core.specs.Slices.{Counts, Knowing}
use Rattle.wedge_core.proofs.SlicedBy.{SliceAs}
use Rattle.wedge_step.specs.Scene.{scene}
use Rattle.wedge_step.specs.Standing.{state_of}
use Rattle.wedge_step.specs.declared.running.Running.{Running}
use Rattle.wedge_core.proofs.WholeRuns.{whole_put, whole_unput, whole_front, front_held, guest_held}
use Rattle.wedge_core.proofs.run.whole.Given.{Over}
use Rattle.wedge_core.proofs.run.whole.Goals as goal

-- what is claimed of notes that are not wanted
abbrev no_notes : List Note → Type 0
no_notes notes = NotesOn false (λ so_far. ⊥) (λ so_far. ⊥) notes

-- how the slice begins
module _ (g : Over) where
  abbrev pool_in : Pool → Running Roots → List ℕ → ℕ
  pool_in pool r memory = length (free_list pool memory) + r.held

  abbrev knows_in : Image → Events → Pool → Running Roots → List ℕ → Pool → Running Roots → List ℕ → Knowing
  knows_in image script pool r memory after new then =
      knowing of_roots (wedge image script r.frames) (scene new after then) (BeginsKnown of_roots image script (scene r pool memory) false)

  begins_in : (image : Image) (script : Events) (m : Setting) (pool : Pool) (r : Running Roots) (memory : List ℕ)
      → state_of of_roots m r memory ≡ boot m → r.held ≡ 2 → pool_in pool r memory ≡ 512
      → BeginsKnown of_roots image script (scene r pool memory) false []
  begins_in image script m pool r memory first two all =
      inl (refl, record { empty_set = ap (λ (b : State). b.set) first; two = two; ample = omega (arith, all); silent = refl })

pub slice-requires-clause-bound : goal.slice-requires-clause-bound
slice-requires-clause-bound g c =
    let begun = ap (λ (b : State). b.step) c.requires.first in
    let few = c.requires.bound in
    omega (arith, begun, few)

pub returns-in-Err : goal.returns-in-Err
returns-in-Err g c =
    let fills = c.args.guest.now.fills in
    let pages = pages_kept of_roots c.args.guest.now.shadows (g.H.Host.bytes c.args.host.now) in
    let filled = c.slice.new.self.fills in
    let begun = ap (λ (b : State). b.step) c.requires.first in
    let is : c.args.guest.now.step + c.args.n ≡ c.args.n = omega (arith, begun) in
    let f = c.args.guest.now.frames in
    let m = wedge c.args.image.now c.args.script.now.list f in
    let before : Counts = record { retired = g.H.Host.retired c.args.host.now; passed = g.H.Host.passed c.args.host.now } in
    let after : Counts = record { retired = g.H.Host.retired c.slice.new.host; passed = g.H.Host.passed c.slice.new.host } in
    let old = state_of of_roots m c.args.guest.now (g.H.Host.bytes c.args.host.now) in
    let new = state_of of_roots m c.slice.new.self (g.H.Host.bytes c.slice.new.host) in
    let h = subst (λ (n : ℕ). SliceAs m n old new before after (g.O.Sink.taken c.args.out.now) (g.O.Sink.taken c.slice.new.out) pages fills
    filled false no_notes (knows_in g c.args.image.now c.args.script.now.list c.args.pool.now c.args.guest.now
    (g.H.Host.bytes c.args.host.now)
    c.slice.new.pool c.slice.new.self (g.H.Host.bytes c.slice.new.host)) (Err c.in-Err.field-0)) is
    c.in-Err.ensures.slice in
    record {
      whole = whole_front c.args.image.now c.args.script.now.list f c.args.n
          (pool_in g c.args.pool.now c.args.guest.now (g.H.Host.bytes c.args.host.now)) old new before after _ _ pages fills filled false
          no_notes (knows_in g c.args.image.now c.args.script.now.list c.args.pool.now c.args.guest.now (g.H.Host.bytes c.args.host.now)
          c.slice.new.pool c.slice.new.self (g.H.Host.bytes c.slice.new.host)) c.in-Err.field-0 _ _
          (g.H.Host.bytes c.slice.new.host) c.requires.fits c.requires.first h c.in-Err.ensures.faults.cause;
    }

pub returns-in-Err-put_end : goal.returns-in-Err-put_end
returns-in-Err-put_end g c =
    let fills = c.args.guest.now.fills in
    let pages = pages_kept of_roots c.args.guest.now.shadows (g.H.Host.bytes c.args.host.now) in
    let filled = c.slice.new.self.fills in
    let begun = ap (λ (b : State). b.step) c.requires.first in
    let is : c.args.guest.now.step + c.args.n ≡ c.args.n = omega (arith, begun) in
    let f = c.args.guest.now.frames in
    let image = c.args.image.now in
    let script = c.args.script.now.list in
    let m = wedge image script f in
    let pause = c.in-Ok.pause in
    let memory = g.H.Host.bytes c.slice.new.host in
    let before : Counts = record { retired = g.H.Host.retired c.args.host.now; passed = g.H.Host.passed c.args.host.now } in
    let after : Counts = record { retired = g.H.Host.retired c.slice.new.host; passed = g.H.Host.passed c.slice.new.host } in
    let old = state_of of_roots m c.args.guest.now (g.H.Host.bytes c.args.host.now) in
    let new = state_of of_roots m c.slice.new.self memory in
    let h = subst (λ (n : ℕ). SliceAs m n old new before after (g.O.Sink.taken c.args.out.now) (g.O.Sink.taken c.slice.new.out) pages fills
    filled false no_notes (knows_in g c.args.image.now c.args.script.now.list c.args.pool.now c.args.guest.now
    (g.H.Host.bytes c.args.host.now)
    c.slice.new.pool c.slice.new.self (g.H.Host.bytes c.slice.new.host)) (Ok pause)) is
    c.in-Ok.ensures.slice in
    let has = front_held pause image script f c.slice.new.self c.slice.new.pool memory c.in-Ok.ensures.leaves.held in
    let put =
    subst (λ (k : ℕ). AppendsFront (g.O.Sink.taken c.slice.new.out) (g.O.Sink.taken c.put_end.new.out) (end_line k (end_of pause)))
    c.step.ensures
    (subst (λ (x : End). AppendsFront (g.O.Sink.taken c.slice.new.out) (g.O.Sink.taken c.put_end.new.out) (end_line c.step.result x))
    c.end_of.ensures c.in-Err-put_end.ensures.failed) in
    record {
      whole = whole_unput c.kept_on.ensures.before image script f c.args.n
          (pool_in g c.args.pool.now c.args.guest.now (g.H.Host.bytes c.args.host.now)) old new before after _ _ _ pages fills filled false
          no_notes (knows_in g c.args.image.now c.args.script.now.list c.args.pool.now c.args.guest.now (g.H.Host.bytes c.args.host.now)
          c.slice.new.pool c.slice.new.self (g.H.Host.bytes c.slice.new.host)) pause _ (g.O.Sink.faults c.slice.new.out)
          _ memory c.requires.fits c.requires.first has h put c.in-Ok.ensures.faults.kept c.in-Err-put_end.ensures.cause;
    }

pub returns-in-Ok-put_end : goal.returns-in-Ok-put_end
returns-in-Ok-put_end g c =
    let fills = c.args.guest.now.fills in
    let pages = pages_kept of_roots c.args.guest.now.shadows (g.H.Host.bytes c.args.host.now) in
    let filled = c.slice.new.self.fills in
    let begun = ap (λ (b : State). b.step) c.requires.first in
    let is : c.args.guest.now.step + c.args.n ≡ c.args.n = omega (arith, begun) in
    let f = c.args.guest.now.frames in
    let image = c.args.image.now in
    let script = c.args.script.now.list in
    let m = wedge image script f in
    let pause = c.in-Ok.pause in
    let memory = g.H.Host.bytes c.slice.new.host in
    let before : Counts = record { retired = g.H.Host.retired c.args.host.now; passed = g.H.Host.passed c.args.host.now } in
    let after : Counts = record { retired = g.H.Host.retired c.slice.new.host; passed = g.H.Host.passed c.slice.new.host } in
    let old = state_of of_roots m c.args.guest.now (g.H.Host.bytes c.args.host.now) in
    let new = state_of of_roots m c.slice.new.self memory in
    let h = subst (λ (n : ℕ). SliceAs m n old new before after (g.O.Sink.taken c.args.out.now) (g.O.Sink.taken c.slice.new.out) pages fills
    filled false no_notes (knows_in g c.args.image.now c.args.script.now.list c.args.pool.now c.args.guest.now
    (g.H.Host.bytes c.args.host.now)
    c.slice.new.pool c.slice.new.self (g.H.Host.bytes c.slice.new.host)) (Ok pause)) is
    c.in-Ok.ensures.slice in
    let has = front_held pause image script f c.slice.new.self c.slice.new.pool memory c.in-Ok.ensures.leaves.held in
    let put = subst (λ (k : ℕ). Appends (g.O.Sink.taken c.slice.new.out) (g.O.Sink.taken c.put_end.new.out) (end_line k (end_of pause)))
    c.step.ensures
    (subst (λ (x : End). Appends (g.O.Sink.taken c.slice.new.out) (g.O.Sink.taken c.put_end.new.out) (end_line c.step.result x))
    c.end_of.ensures c.in-Ok-put_end.ensures.ok) in
    let done = whole_put c.kept_on.ensures.before image script f c.args.n
    (pool_in g c.args.pool.now c.args.guest.now (g.H.Host.bytes c.args.host.now)) old new before after _ _ _ pages fills filled false
    no_notes (knows_in g c.args.image.now c.args.script.now.list c.args.pool.now c.args.guest.now (g.H.Host.bytes c.args.host.now)
    c.slice.new.pool c.slice.new.self (g.H.Host.bytes c.slice.new.host)) pause _ (g.O.Sink.faults c.slice.new.out) _
    memory c.requires.fits c.requires.first
    (begins_in g image script m c.args.pool.now c.args.guest.now (g.H.Host.bytes c.args.host.now) c.requires.first c.requires.two)
    c.requires.none
    c.requires.unfilled c.in-Ok.ensures.leaves.few has
    (guest_held pause image script f c.slice.new.self c.slice.new.pool memory c.in-Ok.ensures.leaves.held) h put c.in-Ok.ensures.faults.kept
    c.in-Ok-put_end.ensures.kept in
    record {
      whole =
          subst (λ (k : ℕ). WedgeAnswers image script f c.args.n
          (pool_in g c.args.pool.now c.args.guest.now (g.H.Host.bytes c.args.host.now)) (g.O.Sink.taken c.args.out.now)
          (g.O.Sink.taken c.put_end.new.out) (g.O.Sink.faults c.args.out.now) (g.O.Sink.faults c.put_end.new.out) before after memory
          (Ok (record { steps = k; end = c.end_of.result; fills = c.fills.result }))) (sym c.step.ensures)
          (subst (λ (x : End). WedgeAnswers image script f c.args.n
          (pool_in g c.args.pool.now c.args.guest.now (g.H.Host.bytes c.args.host.now)) (g.O.Sink.taken c.args.out.now)
          (g.O.Sink.taken c.put_end.new.out) (g.O.Sink.faults c.args.out.now) (g.O.Sink.faults c.put_end.new.out) before after memory
          (Ok (record { steps = c.slice.new.self.step; end = x; fills = c.fills.result }))) (sym c.end_of.ensures)
          (subst (λ (k : ℕ). WedgeAnswers image script f c.args.n
          (pool_in g c.args.pool.now c.args.guest.now (g.H.Host.bytes c.args.host.now)) (g.O.Sink.taken c.args.out.now)
          (g.O.Sink.taken c.put_end.new.out) (g.O.Sink.faults c.args.out.now) (g.O.Sink.faults c.put_end.new.out) before after memory
          (Ok (record { steps = c.slice.new.self.step; end = end_of pause; fills = k }))) (sym c.fills.ensures) done));
    }
