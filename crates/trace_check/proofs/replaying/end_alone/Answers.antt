use Rattle.std.proofs.Common.{Ok, None}
use Rattle.bare_machine.specs.Machine.{state_of}
use Rattle.trace_check.specs.Begins.{whole_entries}
use Rattle.trace_check.proofs.Judging.{follows_from}
use Rattle.trace_check.proofs.replaying.end_alone.Goals as goal

pub returns : goal.returns
returns c =
    let start = c.in_ok-machine.ensures in
    let m = c.in_ok-machine.machine in
    let h = follows_from c.args.image.now c.args.script.now.list c.args.frames m.frames c.args.bound c.args.list.now
    (state_of whole_entries m) c.follow.new.machine.step None None (Ok c.in-Ok.end) start.1 (start.4 c.args.script.now.list)
    (c.in-Ok.ensures.follows c.args.image.now) in
    (start.0, h.0)
