use Rattle.std.proofs.Common.{◌≡◌, false, Option, subst}
use Rattle.descriptors.specs.declared.cpu.Cpu.{Cpu}
use Rattle.ia32_exec.specs.declared.access.Range.{Range}
use Rattle.look_words.specs.View.{only_view}
use Rattle.bare_machine.specs.Machine.{state_of}
use Rattle.bare_machine.specs.Settings.{bare}
use Rattle.step_text.specs.declared.activity.Activity.{Activity}
use Rattle.step_trace.specs.Wanted.{wants}
use Rattle.step_trace.proofs.Found.{passed, unprinted}
use Rattle.step_trace.proofs.step.step_on.Goals as goal

pub returns-in-None-clause-puts : goal.returns-in-None-clause-puts
returns-in-None-clause-puts g c = λ image.
    c.unprinted_step-in-None.ensures.puts image (only_view c.args.only.now)
    (unprinted (bare image c.args.script.now.list c.args.machine.now.frames) c.args.from (only_view c.args.only.now)
    (state_of g.C.Cache.entries c.args.machine.now)
    c.activity_of-does.result (c.activity_of-does.ensures image) c.in-None.ensures.none)

pub returns-in-Some-clause-puts : goal.returns-in-Some-clause-puts
returns-in-Some-clause-puts g c = λ image.
    c.unprinted_step.ensures.puts image (only_view c.args.only.now)
    (passed (bare image c.args.script.now.list c.args.machine.now.frames) c.args.from (only_view c.args.only.now)
    (state_of g.C.Cache.entries c.args.machine.now)
    (subst (λ (cpu : Cpu). (does : Activity) (written : Option Range) → wants (only_view c.args.only.now) does cpu.regs.eip written ≡ false)
    c.cpu.ensures
    (c.is_passed_by.ensures c.if-is_passed_by.true)))
