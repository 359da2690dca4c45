use Rattle.std.proofs.Common.{ℕ, List, [], ◌++◌, refl, sym, ap, subst, ◌∙◌}
use Rattle.std.proofs.lemmas.List.{append-nil}
use Rattle.pv_io.specs.Sink.{Appends, AppendsFront}
use Rattle.pv_io.proofs.Pieces.{appends_both, appends_none, front_of}
use Rattle.run_trace.specs.declared.items.Item.{Item}
use Rattle.machine_model.specs.Step.{items_at}
use Rattle.machine_step.specs.Worked.{whats}
use Rattle.run_trace.specs.Text.{lines_of}
use Rattle.image_check.specs.Image.{Image}
use Rattle.look_words.specs.View.{only_view}
use Rattle.bare_machine.specs.Machine.{state_of}
use Rattle.bare_machine.specs.Settings.{bare}
use Rattle.step_trace.specs.Lines.{line_if_printed}
use Rattle.step_trace.specs.Answers.{Within, AtStop}
use Rattle.step_trace.proofs.Found.{line_same, stop_same}
use Rattle.step_trace.proofs.step.printed_step.Goals as goal

pub returns-in-Ok-put_stop-clause-puts : goal.returns-in-Ok-put_stop-clause-puts
returns-in-Ok-put_stop-clause-puts g c = λ image.
    let m = bare image c.args.script.now.list c.args.machine.now.frames in
    let once = c.in-Err.ensures.once image in
    let found = c.requires.found image in
    let same = stop_same m c.args.from (state_of g.C.Cache.entries c.args.machine.now) _ _ _ c.in-Err.stopped.raised c.in-Err.stopped.page
    found.step found.does found.cpu once.raised once.page in (
      once.halts,
      once.count,
      subst (λ (l : List ℕ). Appends (g.O.Sink.taken c.args.out.now) (g.O.Sink.taken c.put_stop.new.out) l) same
          c.in-Ok-put_stop.ensures.ok,
    )

pub returns-in-Err-put_stop-clause-puts : goal.returns-in-Err-put_stop-clause-puts
returns-in-Err-put_stop-clause-puts g c = λ image.
    let m = bare image c.args.script.now.list c.args.machine.now.frames in
    let once = c.in-Err.ensures.once image in
    let found = c.requires.found image in
    let same = stop_same m c.args.from (state_of g.C.Cache.entries c.args.machine.now) _ _ _ c.in-Err.stopped.raised c.in-Err.stopped.page
    found.step found.does found.cpu once.raised once.page in
    AtStop c.in-Err.stopped.stop once.halts
    (subst (λ (l : List ℕ). AppendsFront (g.O.Sink.taken c.args.out.now) (g.O.Sink.taken c.put_stop.new.out) l) same
    c.in-Err-put_stop.ensures.failed)

pub returns-in-Ok-put_seen-clause-puts : goal.returns-in-Ok-put_seen-clause-puts
returns-in-Ok-put_seen-clause-puts g c = λ image.
    let m = bare image c.args.script.now.list c.args.machine.now.frames in
    let e = g.C.Cache.entries in
    let once = c.in-Ok.ensures.once image in
    let items = ap (λ (n : ℕ). items_at n (whats c.in-Ok.done.seen)) c.step-step.ensures ∙ once.items in
    let old = g.O.Sink.taken c.args.out.now in
    let mid = g.O.Sink.taken c.put_line.new.out in
    let new = g.O.Sink.taken c.put_seen.new.out in
    let b = state_of e c.args.machine.now in
    let after = state_of e c.step_once.new.self in
    let same = line_same m c.args.from (only_view c.args.only.now) b after c.args.before.now c.in-Ok.done.raised
    (c.requires.found image) once.raised in
    record {
      report = once.report;
      went = once.kept;
      text = appends_both old mid new (line_if_printed m c.args.from (only_view c.args.only.now) b after) (lines_of (once.report).items)
          (subst (λ (l : List ℕ). Appends old mid l) same c.in-Ok-put_line.ensures.ok)
          (subst (λ (l : List Item). Appends mid new (lines_of l)) items c.in-Ok-put_seen.ensures.ok);
    }

pub returns-in-Err-put_line-clause-puts : goal.returns-in-Err-put_line-clause-puts
returns-in-Err-put_line-clause-puts g c = λ image.
    let m = bare image c.args.script.now.list c.args.machine.now.frames in
    let e = g.C.Cache.entries in
    let once = c.in-Ok.ensures.once image in
    let items = ap (λ (n : ℕ). items_at n (whats c.in-Ok.done.seen)) c.step-step.ensures ∙ once.items in
    let old = g.O.Sink.taken c.args.out.now in
    let new = g.O.Sink.taken c.put_line.new.out in
    let b = state_of e c.args.machine.now in
    let after = state_of e c.step_once.new.self in
    let same = line_same m c.args.from (only_view c.args.only.now) b after c.args.before.now c.in-Ok.done.raised
    (c.requires.found image) once.raised in
    Within once.report once.kept
    (front_of old old new [] (line_if_printed m c.args.from (only_view c.args.only.now) b after) (lines_of (once.report).items)
    _ (appends_none old)
    (subst (λ (l : List ℕ). AppendsFront old new l) same c.in-Err-put_line.ensures.failed) refl)

pub returns-in-Err-put_seen-clause-puts : goal.returns-in-Err-put_seen-clause-puts
returns-in-Err-put_seen-clause-puts g c = λ image.
    let m = bare image c.args.script.now.list c.args.machine.now.frames in
    let e = g.C.Cache.entries in
    let once = c.in-Ok.ensures.once image in
    let items = ap (λ (n : ℕ). items_at n (whats c.in-Ok.done.seen)) c.step-step.ensures ∙ once.items in
    let old = g.O.Sink.taken c.args.out.now in
    let mid = g.O.Sink.taken c.put_line.new.out in
    let new = g.O.Sink.taken c.put_seen.new.out in
    let b = state_of e c.args.machine.now in
    let after = state_of e c.step_once.new.self in
    let line = line_if_printed m c.args.from (only_view c.args.only.now) b after in
    let same = line_same m c.args.from (only_view c.args.only.now) b after c.args.before.now c.in-Ok.done.raised
    (c.requires.found image) once.raised in
    Within once.report once.kept
    (front_of old mid new line (lines_of (once.report).items) [] _
    (subst (λ (l : List ℕ). Appends old mid l) same c.in-Ok-put_line.ensures.ok)
    (subst (λ (l : List Item). AppendsFront mid new (lines_of l)) items c.in-Err-put_seen.ensures.failed)
    (ap (λ (l : List ℕ). line ++ l) (sym (append-nil (lines_of (once.report).items)))))

-- the count is the same over any image
some_image : Image
some_image = record { text = []; init = []; bss = 0; entry = 0; sites = []; format = 0 }

pub returns-in-Ok-put_seen-clause-count : goal.returns-in-Ok-put_seen-clause-count
returns-in-Ok-put_seen-clause-count g c = (c.in-Ok.ensures.once some_image).count
