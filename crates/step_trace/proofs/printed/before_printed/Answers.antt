use Rattle.std.proofs.Common.{◌≡◌, nat_le, Bool, false, Option, sym, ap, ◌∙◌}
use Rattle.descriptors.specs.declared.cpu.Cpu.{Cpu}
use Rattle.ia32_exec.specs.declared.access.Range.{Range}
use Rattle.look_words.specs.View.{only_view}
use Rattle.look_words.specs.Words.{Only}
use Rattle.step_text.specs.declared.activity.Activity.{Activity}
use Rattle.step_trace.specs.Doing.{range_of}
use Rattle.step_trace.specs.Wanted.{wants}
use Rattle.step_trace.proofs.Found.{not_wanted, nor}
use Rattle.step_trace.proofs.printed.before_printed.Goals as goal

asked : (only : Only) (does : Activity) (cpu c : Cpu) (range : Option Range) (b : Bool) → c ≡ cpu → range ≡ range_of does c.regs
    → b ≡ wants only does c.regs.eip range → b ≡ false → wants only does cpu.regs.eip (range_of does cpu.regs) ≡ false
asked only does cpu c range b cpu_is range_is b_is f =
    sym (ap (λ (x : Cpu). wants only does x.regs.eip (range_of does x.regs)) cpu_is)
    ∙ (sym (ap (λ (r : Option Range). wants only does c.regs.eip r) range_is) ∙ (sym b_is ∙ f))

pub returns-then-not-wants-clause-none : goal.returns-then-not-wants-clause-none
returns-then-not-wants-clause-none g c = λ raised.
    let only = only_view c.args.only.now in
    let does = c.args.does in
    let cpu = c.args.machine.now.cpu in
    nor (nat_le c.args.from c.args.machine.now.step) _
    (not_wanted only does cpu.regs.eip (range_of does cpu.regs) raised
    (asked only does cpu _ _ _ c.cpu-cpu.ensures c.range_of-range.ensures.range c.wants.ensures c.if-not-wants.true))
