use Rattle.std.proofs.Common.{ℕ, List, [], ◌++◌, sym, ap, subst, ◌∙◌}
use Rattle.pv_io.specs.Sink.{Appends, AppendsFront}
use Rattle.run_trace.specs.declared.items.Item.{Item}
use Rattle.machine_model.specs.Step.{items_at}
use Rattle.machine_step.specs.Worked.{whats}
use Rattle.run_trace.specs.Text.{lines_of}
use Rattle.image_check.specs.Image.{Image}
use Rattle.bare_machine.specs.Machine.{state_of}
use Rattle.bare_machine.specs.Settings.{bare}
use Rattle.step_trace.specs.Answers.{Within, AtStop}
use Rattle.step_trace.proofs.Found.{no_line, stop_same}
use Rattle.step_trace.proofs.step.unprinted_step.Goals as goal

pub returns-in-Ok-put_stop-clause-puts : goal.returns-in-Ok-put_stop-clause-puts
returns-in-Ok-put_stop-clause-puts g c = λ image only unprinted.
    let once = c.in-Err.ensures.once image in
    let same = stop_same (bare image c.args.script.now.list c.args.machine.now.frames) c.args.from
    (state_of g.C.Cache.entries c.args.machine.now) _ _ _ c.in-Err.stopped.raised c.in-Err.stopped.page
    (c.step-step.ensures) (c.told.ensures ∙ c.requires.told image) (c.cpu.ensures ∙ once.cpu) once.raised once.page in (
      once.halts,
      once.count,
      subst (λ (l : List ℕ). Appends (g.O.Sink.taken c.args.out.now) (g.O.Sink.taken c.put_stop.new.out) l) same
          c.in-Ok-put_stop.ensures.ok,
    )

pub returns-in-Err-put_stop-clause-puts : goal.returns-in-Err-put_stop-clause-puts
returns-in-Err-put_stop-clause-puts g c = λ image only unprinted.
    let once = c.in-Err.ensures.once image in
    let same = stop_same (bare image c.args.script.now.list c.args.machine.now.frames) c.args.from
    (state_of g.C.Cache.entries c.args.machine.now) _ _ _ c.in-Err.stopped.raised c.in-Err.stopped.page
    (c.step-step.ensures) (c.told.ensures ∙ c.requires.told image) (c.cpu.ensures ∙ once.cpu) once.raised once.page in
    AtStop c.in-Err.stopped.stop once.halts
    (subst (λ (l : List ℕ). AppendsFront (g.O.Sink.taken c.args.out.now) (g.O.Sink.taken c.put_stop.new.out) l) same
    c.in-Err-put_stop.ensures.failed)

pub returns-in-Ok-put_seen-clause-puts : goal.returns-in-Ok-put_seen-clause-puts
returns-in-Ok-put_seen-clause-puts g c = λ image only unprinted.
    let m = bare image c.args.script.now.list c.args.machine.now.frames in
    let once = c.in-Ok.ensures.once image in
    let items = ap (λ (n : ℕ). items_at n (whats c.in-Ok.done.seen)) c.step-step.ensures ∙ once.items in
    let old = g.O.Sink.taken c.args.out.now in
    let new = g.O.Sink.taken c.put_seen.new.out in
    let none = no_line m c.args.from only (state_of g.C.Cache.entries c.args.machine.now)
    (state_of g.C.Cache.entries c.step_once.new.self) unprinted in
    record {
      report = once.report;
      went = once.kept;
      text = subst (λ (l : List ℕ). Appends old new (l ++ lines_of (once.report).items)) (sym none)
          (subst (λ (l : List Item). Appends old new (lines_of l)) items c.in-Ok-put_seen.ensures.ok);
    }

pub returns-in-Err-put_seen-clause-puts : goal.returns-in-Err-put_seen-clause-puts
returns-in-Err-put_seen-clause-puts g c = λ image only unprinted.
    let m = bare image c.args.script.now.list c.args.machine.now.frames in
    let once = c.in-Ok.ensures.once image in
    let items = ap (λ (n : ℕ). items_at n (whats c.in-Ok.done.seen)) c.step-step.ensures ∙ once.items in
    let old = g.O.Sink.taken c.args.out.now in
    let new = g.O.Sink.taken c.put_seen.new.out in
    let none = no_line m c.args.from only (state_of g.C.Cache.entries c.args.machine.now)
    (state_of g.C.Cache.entries c.step_once.new.self) unprinted in
    Within once.report once.kept
    (subst (λ (l : List ℕ). AppendsFront old new (l ++ lines_of (once.report).items)) (sym none)
    (subst (λ (l : List Item). AppendsFront old new (lines_of l)) items c.in-Err-put_seen.ensures.failed))

-- the count is the same over any image
some_image : Image
some_image = record { text = []; init = []; bss = 0; entry = 0; sites = []; format = 0 }

pub returns-in-Ok-put_seen-clause-count : goal.returns-in-Ok-put_seen-clause-count
returns-in-Ok-put_seen-clause-count g c = (c.in-Ok.ensures.once some_image).count
