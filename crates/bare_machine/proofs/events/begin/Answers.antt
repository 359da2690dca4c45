use Rattle.std.proofs.Common.{◌+◌, ◌≤◌, arith}
use Rattle.bare_machine.proofs.NextEvents.{never, until}
use Rattle.bare_machine.proofs.events.begin.Goals as goal

pub returns-in-None-clause-none : goal.returns-in-None-clause-none
returns-in-None-clause-none c = never c.steps_are_quiet.ensures c.begin.new.self c.args.script.now.list c.args.step _ c.in-None.ensures

pub returns-in-Some-clause-none : goal.returns-in-Some-clause-none
returns-in-Some-clause-none c =
    let within : c.saturating_add.result ≤ c.args.step + c.in-Some.steps = omega (arith, c.saturating_add.ensures) in
    until c.steps_are_quiet.ensures c.begin.new.self c.args.script.now.list c.args.step c.in-Some.steps c.saturating_add.result
    c.in-Some.ensures within
