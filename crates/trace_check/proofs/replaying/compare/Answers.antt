use Rattle.std.proofs.Common.{◌≡◌, ℕ, List, Option, sym, ap, ◌∙◌}
use Rattle.ia32_types.specs.declared.stop.Stop.{Stop}
use Rattle.run_trace.specs.Text.{lines_of, end_line}
use Rattle.machine_model.specs.Run.{trace_of}
use Rattle.bare_machine.specs.Machine.{state_of}
use Rattle.bare_machine.specs.Settings.{bare}
use Rattle.trace_check.specs.Matches.{line_behind}
use Rattle.trace_check.specs.Courses.{course}
use Rattle.trace_check.specs.Begins.{whole_entries, end_verdict, verdict_on}
use Rattle.trace_check.specs.Judged.{unless_differs}
use Rattle.trace_check.proofs.Comparing.{whole_from, then_from, failed_from}
use Rattle.trace_check.proofs.Judging.{whole_ended, before_ended, bad_either, failed_either}
use Rattle.trace_check.proofs.replaying.compare.Goals as goal

pub returns-in-BadAt : goal.returns-in-BadAt
returns-in-BadAt c = λ image.
    let m = c.args.machine.now in
    let all = course (bare image c.args.script.now.list m.frames) c.args.list.now c.args.bound (state_of whole_entries m) in
    let h = c.in-Ok.ensures.follows image in
    bad_either c.args.text.now c.args.told all c.in-BadAt.at (h.0 ∙ c.in-BadAt.is)

pub returns-in-None : goal.returns-in-None
returns-in-None c = λ image.
    let m = c.args.machine.now in
    let text = c.args.text.now in
    let all = course (bare image c.args.script.now.list m.frames) c.args.list.now c.args.bound (state_of whole_entries m) in
    let h = c.in-Ok.ensures.follows image in
    let known = then_from text (lines_of (trace_of all.reports)) (end_line c.step.result c.in-Ended.end) c.new-out.result c.follow.new.out
    c.put_end.new.out c.put_end.result c.new-out.ensures h.2 c.put_end.ensures.ok c.put_end.ensures.failed c.put_end.ensures.cause
    c.difference.ensures.matched in
    c.unless_differs.ensures
    ∙ whole_ended text all c.in-Ended.end c.step.result c.put_end.new.out c.difference.result (h.0 ∙ c.in-Ended.is)
    (h.1 ∙ sym c.step.ensures) known c.difference.ensures.difference
    ∙ ap (λ (told : Option Stop). verdict_on text told all) (sym c.in-None.is)

pub returns-in-Some : goal.returns-in-Some
returns-in-Some c = λ image.
    let m = c.args.machine.now in
    let text = c.args.text.now in
    let all = course (bare image c.args.script.now.list m.frames) c.args.list.now c.args.bound (state_of whole_entries m) in
    let h = c.in-Ok.ensures.follows image in
    let known = whole_from text (lines_of (trace_of all.reports)) c.new-out.result c.follow.new.out c.new-out.ensures h.2 in
    let said = before_ended c.in-Some.stop text all c.in-Ended.end c.follow.new.out c.difference-in-Some.result (h.0 ∙ c.in-Ended.is) known
    c.difference-in-Some.ensures.difference in
    let verdict : c.end_verdict-verdict.result ≡ end_verdict c.in-Ended.end c.in-Some.stop (line_behind text) =
    c.end_verdict-verdict.ensures ∙ ap (end_verdict c.in-Ended.end c.in-Some.stop) c.line_behind.ensures in
    c.unless_differs-in-Some.ensures ∙ ap (unless_differs c.difference-in-Some.result) verdict ∙ said
    ∙ ap (λ (told : Option Stop). verdict_on text told all) (sym c.in-Some.is)

pub returns-in-Some-difference : goal.returns-in-Some-difference
returns-in-Some-difference c = λ image.
    let m = c.args.machine.now in
    let all = course (bare image c.args.script.now.list m.frames) c.args.list.now c.args.bound (state_of whole_entries m) in
    let h = c.in-Err.ensures.follows image in
    let known = λ (rest : List ℕ). failed_from c.args.text.now (lines_of (trace_of all.reports)) rest c.new-out.result c.follow.new.out
    c.new-out.ensures h c.in-Err.ensures.cause c.in-Some-difference.ensures.matched in
    failed_either c.args.text.now c.args.told all c.in-Some-difference.line c.follow.new.out known c.in-Some-difference.ensures.difference
