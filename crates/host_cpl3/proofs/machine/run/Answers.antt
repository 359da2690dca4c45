use Rattle.std.proofs.Common.{◌≡◌, ◌+◌, ◌-◌, refl, sym, ap, ◌∙◌, arith}
use Rattle.ia32_types.specs.declared.flags.Regs.{Regs}
use Rattle.host_cpl3.specs.declared.exit.Ending.{Ending}
use Rattle.host_cpl3.specs.Reaches.{completion}
use Rattle.host_cpl3.specs.HostRun.{host_run}
use Rattle.host_cpl3.specs.Hosts.{standing}
use Rattle.host_cpl3.proofs.Runs.{run_on, run_enters, run_exits, run_ends}
use Rattle.host_cpl3.proofs.machine.run.Goals as goal

pub returns-in-Ok-Entered-clause-runs : goal.returns-in-Ok-Entered-clause-runs
returns-in-Ok-Entered-clause-runs c =
    let l = c.loop-done in
    let regs = c.host_step.new.regs in
    l.invariant.run ∙ run_enters c.args.view.now c.args.k l._done (standing l.regs l.ram l.retired l.passed)
    (completion c.in-Ok-Entered.field-0 regs) regs c.host_step.new.ram c.loop-done-test.true
    c.in-Ok-Entered.ensures.gives (ap (λ (e : Ending). completion e regs) c.in-Ok-Entered.field-0-is)

pub returns-in-Err-clause-runs : goal.returns-in-Err-clause-runs
returns-in-Err-clause-runs c =
    let l = c.loop-done in
    let gives = c.in-Err.ensures.gives in
    l.invariant.run ∙ run_exits c.args.view.now c.args.k l._done (standing l.regs l.ram l.retired l.passed) c.in-Err.exit
    c.host_step.new.ram c.loop-done-test.true gives.0 gives.2
    ∙ ap (λ (r : Regs). (c.in-Err.exit, standing r c.host_step.new.ram l.retired l.passed)) (sym gives.1)

pub loop-done-init : goal.loop-done-init
loop-done-init c =
    let a = c.args in
    let all : a.k ≡ a.k - 0 = omega arith in
    record {
      run = ap (λ k. host_run a.view.now k (standing a.regs.now a.ram.now a.retired.now a.passed.now)) all;
      len = refl;
      count = omega arith;
      kept = c.forget.ensures.kept a.ram.now a.view.now.root;
    }

pub loop-done-preserved : goal.loop-done-preserved
loop-done-preserved c =
    let l = c.loop-done in
    let regs = c.host_step.new.regs in
    record {
      run =
          l.invariant.run ∙ run_on c.args.view.now c.args.k l._done (standing l.regs l.ram l.retired l.passed)
          (completion c.in-Ok-Completed.field-0 regs) regs c.host_step.new.ram c.loop-done-test.true
          c.in-Ok-Completed.ensures.gives (ap (λ (e : Ending). completion e regs) c.in-Ok-Completed.field-0-is)
          ∙ ap (λ p. host_run c.args.view.now (c.args.k - (l._done + 1)) (standing regs c.host_step.new.ram (l.retired + 1) p))
          (sym c.digest.ensures);
      len = c.in-Ok-Completed.ensures.len ∙ l.invariant.len;
      count = omega (arith, l.invariant.count);
      kept = c.in-Ok-Completed.ensures.kept;
    }

pub returns-clause-runs : goal.returns-clause-runs
returns-clause-runs c =
    let l = c.loop-done in
    l.invariant.run ∙ run_ends c.args.view.now c.args.k l._done (standing l.regs l.ram l.retired l.passed) (omega arith)
