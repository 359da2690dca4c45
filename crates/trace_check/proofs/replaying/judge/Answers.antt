use Rattle.std.proofs.Common.{Ok, Err, subst}
use Rattle.bare_machine.specs.Machine.{state_of}
use Rattle.trace_check.specs.Courses.{Course}
use Rattle.trace_check.specs.Begins.{ComparesAs, whole_entries}
use Rattle.trace_check.proofs.Judging.{course_from, bad_judged}
use Rattle.trace_check.proofs.replaying.judge.Goals as goal

pub returns-in-Ok : goal.returns-in-Ok
returns-in-Ok c =
    let start = c.in_ok-machine.ensures in
    let m = c.in_ok-machine.machine in
    let image = c.args.image.now in
    let script = c.args.script.now.list in
    let same =
    course_from image script c.args.frames m.frames c.args.bound c.args.list.now (state_of whole_entries m) start.1 (start.4 script) in
    (start.0, subst (λ (all : Course). ComparesAs c.args.text.now c.args.told all (Ok c.in-Ok.verdict)) same (c.in-Ok.ensures image))

pub returns : goal.returns
returns c =
    let start = c.in_ok-machine.ensures in
    let m = c.in_ok-machine.machine in
    let image = c.args.image.now in
    let script = c.args.script.now.list in
    let same =
    course_from image script c.args.frames m.frames c.args.bound c.args.list.now (state_of whole_entries m) start.1 (start.4 script) in
    let is = subst (λ (all : Course). ComparesAs c.args.text.now c.args.told all (Err c.in-Err.line)) same (c.in-Err.ensures image) in
    bad_judged image script c.args.frames c.args.bound c.args.list.now c.args.text.now c.args.told c.in-Err.line c.differs_unless_bad.result
    is c.differs_unless_bad.ensures
