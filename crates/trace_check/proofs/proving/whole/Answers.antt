use Rattle.std.proofs.Common.{◌≡◌, ℕ, ◌+◌, true, List, Ok, Err, sym, subst, ap, arith}
use Rattle.pv_io.specs.Sink.{Appends, AppendsFront}
use Rattle.run_trace.specs.declared.items.End.{End}
use Rattle.run_trace.specs.Notes.{Note}
use Rattle.run_trace.specs.Pauses.{end_of}
use Rattle.run_trace.specs.Text.{end_line}
use Rattle.wedge_core.specs.OfRoots.{of_roots}
use Rattle.machine_model.specs.State.{State, wedge}
use Rattle.wedge_step.specs.Filled.{pages_kept}
use Rattle.wedge_step.specs.Scene.{scene}
use Rattle.wedge_step.specs.Standing.{state_of}
use Rattle.wedge_core.specs.Noted.{NotesOn}
use Rattle.wedge_core.specs.Counts.{Counts}
use Rattle.wedge_core.specs.Sliced.{BeginsKnown, knowing}
use Rattle.wedge_core.proofs.SlicedBy.{SliceAs}
use Rattle.wedge_core.proofs.WholeRuns.{guest_held, whole_unput, whole_front}
use Rattle.trace_check.specs.NotesKept.{KeptChoices, AreKept}
use Rattle.trace_check.specs.Noted.{NotedAnswers}
use Rattle.trace_check.proofs.NotedRuns.{around_of, noted_put}
use Rattle.trace_check.proofs.proving.whole.Goals as goal

abbrev notes_of : KeptChoices → KeptChoices → List Note → Type 0
notes_of kept kept_after notes = NotesOn true (AreKept kept) (AreKept kept_after) notes

pub slice-requires-clause-bound : goal.slice-requires-clause-bound
slice-requires-clause-bound g c =
    let begun = ap (λ (b : State). b.step) c.requires.first in
    let few = c.requires.bound in
    omega (arith, begun, few)

pub returns-in-Err : goal.returns-in-Err
returns-in-Err g c =
    let r = c.args.guest.now in
    let memory = g.H.Host.bytes c.args.host.now in
    let begun = ap (λ (b : State). b.step) c.requires.first in
    let is : r.step + c.args.n ≡ c.args.n = omega (arith, begun) in
    let m = wedge c.args.image.now c.args.script.now.list r.frames in
    let before : Counts = record { retired = g.H.Host.retired c.args.host.now; passed = g.H.Host.passed c.args.host.now } in
    let after : Counts = record { retired = g.H.Host.retired c.slice.new.host; passed = g.H.Host.passed c.slice.new.host } in
    let old = state_of of_roots m r memory in
    let new = state_of of_roots m c.slice.new.self (g.H.Host.bytes c.slice.new.host) in
    let notes_on = notes_of c.args.notes.now c.slice.new.notes in
    let knows = knowing of_roots m (scene c.slice.new.self c.slice.new.pool (g.H.Host.bytes c.slice.new.host))
    (BeginsKnown of_roots c.args.image.now c.args.script.now.list (scene r c.args.pool.now memory) true) in
    let h =
    subst (λ (n : ℕ). SliceAs m n old new before after (g.O.Sink.taken c.args.out.now) (g.O.Sink.taken c.slice.new.out)
    (pages_kept of_roots r.shadows memory) r.fills c.slice.new.self.fills true notes_on knows (Err c.in-Err.field-0)) is
    c.in-Err.ensures.slice in
    record {
      whole = whole_front c.args.image.now c.args.script.now.list r.frames c.args.n 0 old new before after _ _
          (pages_kept of_roots r.shadows memory) r.fills c.slice.new.self.fills true notes_on knows c.in-Err.field-0 _ _
          (g.H.Host.bytes c.slice.new.host) c.requires.fits c.requires.first h c.in-Err.ensures.faults.cause;
    }

pub returns-in-Err-put_end : goal.returns-in-Err-put_end
returns-in-Err-put_end g c =
    let r = c.args.guest.now in
    let memory = g.H.Host.bytes c.args.host.now in
    let memory2 = g.H.Host.bytes c.slice.new.host in
    let begun = ap (λ (b : State). b.step) c.requires.first in
    let is : r.step + c.args.n ≡ c.args.n = omega (arith, begun) in
    let m = wedge c.args.image.now c.args.script.now.list r.frames in
    let pause = c.in-Ok.pause in
    let before : Counts = record { retired = g.H.Host.retired c.args.host.now; passed = g.H.Host.passed c.args.host.now } in
    let after : Counts = record { retired = g.H.Host.retired c.slice.new.host; passed = g.H.Host.passed c.slice.new.host } in
    let old = state_of of_roots m r memory in
    let new = state_of of_roots m c.slice.new.self memory2 in
    let notes_on = notes_of c.args.notes.now c.slice.new.notes in
    let knows = knowing of_roots m (scene c.slice.new.self c.slice.new.pool (g.H.Host.bytes c.slice.new.host))
    (BeginsKnown of_roots c.args.image.now c.args.script.now.list (scene r c.args.pool.now memory) true) in
    let h =
    subst (λ (n : ℕ). SliceAs m n old new before after (g.O.Sink.taken c.args.out.now) (g.O.Sink.taken c.slice.new.out)
    (pages_kept of_roots r.shadows memory) r.fills c.slice.new.self.fills true notes_on knows (Ok pause)) is c.in-Ok.ensures.slice in
    let put =
    subst (λ (k : ℕ). AppendsFront (g.O.Sink.taken c.slice.new.out) (g.O.Sink.taken c.put_end.new.out) (end_line k (end_of pause)))
    c.step.ensures
    (subst (λ (x : End). AppendsFront (g.O.Sink.taken c.slice.new.out) (g.O.Sink.taken c.put_end.new.out) (end_line c.step.result x))
    c.end_of.ensures c.in-Err-put_end.ensures.failed) in
    record {
      whole = whole_unput c.kept_on.ensures.before c.args.image.now c.args.script.now.list r.frames c.args.n 0 old new before after _
          _ _ (pages_kept of_roots r.shadows memory) r.fills c.slice.new.self.fills true notes_on knows pause _
          (g.O.Sink.faults c.slice.new.out) _ memory2 c.requires.fits c.requires.first c.in-Ok.ensures.own.memory h put
          c.in-Ok.ensures.faults.kept c.in-Err-put_end.ensures.cause;
    }

pub returns-in-Ok-put_end : goal.returns-in-Ok-put_end
returns-in-Ok-put_end g c =
    let image = c.args.image.now in
    let script = c.args.script.now.list in
    let r = c.args.guest.now in
    let memory = g.H.Host.bytes c.args.host.now in
    let memory2 = g.H.Host.bytes c.slice.new.host in
    let begun = ap (λ (b : State). b.step) c.requires.first in
    let is : r.step + c.args.n ≡ c.args.n = omega (arith, begun) in
    let m = wedge image script r.frames in
    let pause = c.in-Ok.pause in
    let before : Counts = record { retired = g.H.Host.retired c.args.host.now; passed = g.H.Host.passed c.args.host.now } in
    let after : Counts = record { retired = g.H.Host.retired c.slice.new.host; passed = g.H.Host.passed c.slice.new.host } in
    let old = state_of of_roots m r memory in
    let new = state_of of_roots m c.slice.new.self memory2 in
    let notes_on = notes_of c.args.notes.now c.slice.new.notes in
    let knows = knowing of_roots m (scene c.slice.new.self c.slice.new.pool (g.H.Host.bytes c.slice.new.host))
    (BeginsKnown of_roots c.args.image.now c.args.script.now.list (scene r c.args.pool.now memory) true) in
    let h =
    subst (λ (n : ℕ). SliceAs m n old new before after (g.O.Sink.taken c.args.out.now) (g.O.Sink.taken c.slice.new.out)
    (pages_kept of_roots r.shadows memory) r.fills c.slice.new.self.fills true notes_on knows (Ok pause)) is c.in-Ok.ensures.slice in
    let put = subst (λ (k : ℕ). Appends (g.O.Sink.taken c.slice.new.out) (g.O.Sink.taken c.put_end.new.out) (end_line k (end_of pause)))
    c.step.ensures
    (subst (λ (x : End). Appends (g.O.Sink.taken c.slice.new.out) (g.O.Sink.taken c.put_end.new.out) (end_line c.step.result x))
    c.end_of.ensures c.in-Ok-put_end.ensures.ok) in
    let done = noted_put image script r.frames c.args.n old new before after _ _ _ (pages_kept of_roots r.shadows memory) r.fills
    c.slice.new.self.fills c.args.notes.now c.slice.new.notes knows pause _ (g.O.Sink.faults c.slice.new.out) _ memory2
    c.notes_are_judged.ensures.judged c.notes_are_judged.ensures.form c.requires.bound c.requires.untold c.requires.fits c.requires.first
    c.requires.none c.requires.unfilled c.in-Ok.ensures.leaves.few c.in-Ok.ensures.own.memory
    (guest_held pause image script r.frames c.slice.new.self c.slice.new.pool memory2 c.in-Ok.ensures.leaves.held) h put
    c.in-Ok.ensures.faults.kept c.in-Ok-put_end.ensures.kept in
    let here = around_of (g.O.Sink.taken c.args.out.now) (g.O.Sink.taken c.put_end.new.out) (g.O.Sink.faults c.args.out.now)
    (g.O.Sink.faults c.put_end.new.out) before after in
    record {
      whole =
          subst (λ (k : ℕ). NotedAnswers image script r.frames c.args.n c.slice.new.notes here memory2
          (Ok (record { steps = k; end = c.end_of.result; fills = c.fills.result }))) (sym c.step.ensures)
          (subst (λ (x : End). NotedAnswers image script r.frames c.args.n c.slice.new.notes here memory2
          (Ok (record { steps = c.slice.new.self.step; end = x; fills = c.fills.result }))) (sym c.end_of.ensures)
          (subst (λ (k : ℕ). NotedAnswers image script r.frames c.args.n c.slice.new.notes here memory2
          (Ok (record { steps = c.slice.new.self.step; end = end_of pause; fills = k }))) (sym c.fills.ensures) done));
    }
