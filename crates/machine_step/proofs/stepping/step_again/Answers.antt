use Rattle.std.proofs.Common.{◌≡◌, false, subst}
use Rattle.paging.specs.Space.{Space}
use Rattle.step_mem.specs.Guard.{mode_of}
use Rattle.step_mem.specs.Shown.{shown}
use Rattle.step_mem.specs.Sound.{space}
use Rattle.machine_model.specs.Step.{by_interrupt, interrupt_of, unheld}
use Rattle.machine_step.specs.Worked.{ComesTo, answer_of}
use Rattle.std.specs.Prelude.{IfOk, ◌==◌}
use Rattle.machine_model.specs.UsedPages.{Uses}
use Rattle.machine_step.specs.Left.{left_unless}
use Rattle.machine_step.specs.Raised.{raised_unless}
use Rattle.machine_step.proofs.stepping.step_again.Goals as goal

pub returns-clause-step : goal.returns-clause-step
returns-clause-step g c = λ s b k.
    let a = c.args in
    let m = record s { mode = mode_of a.guard; frames = a.frames } in
    let here = record b {
      cpu = a.worked.now.cpu;
      ram = shown a.guard a.frames a.ram.now;
      set = g.B.Translations.entries a.kept.now a.ram.now;
      board = a.board.now;
    } in
    subst (λ (x : Space). ComesTo (by_interrupt m (interrupt_of a.worked.now.cpu a.board.now) (unheld here) x) b
    (answer_of c.step_at.result c.step_at.new.worked) c.step_at.new.board
    (space g.B.Translations a.kept.now c.step_at.new.ram c.step_at.new.state))
    c.begin_again.ensures.space (c.step_at.ensures.step m here k)

pub returns-clause-uses : goal.returns-clause-uses
returns-clause-uses g c =
    subst (λ (x : Space). IfOk c.step_at.result
    (λ _. Uses (c.args.worked.now.cpu.cpl == 3) x (space g.B.Translations c.args.kept.now c.step_at.new.ram c.step_at.new.state)))
    c.begin_again.ensures.space c.step_at.ensures.uses

pub returns-clause-raised : goal.returns-clause-raised
returns-clause-raised g c = λ s b k.
    let a = c.args in
    let m = record s { mode = mode_of a.guard; frames = a.frames } in
    subst (λ (x : Space). c.step_at.new.worked.raised ≡ raised_unless m (interrupt_of a.worked.now.cpu a.board.now)
    (record a.worked.now.cpu { held = false }) x)
    c.begin_again.ensures.space (c.step_at.ensures.raised m k)

pub returns-clause-leaves : goal.returns-clause-leaves
returns-clause-leaves g c = λ s b k.
    let a = c.args in
    let m = record s { mode = mode_of a.guard; frames = a.frames } in
    let left : Space = space g.B.Translations a.kept.now c.step_at.new.ram c.step_at.new.state in
    subst (λ (x : Space). left ≡ left_unless m (interrupt_of a.worked.now.cpu a.board.now) (record a.worked.now.cpu { held = false }) x)
    c.begin_again.ensures.space (c.step_at.ensures.leaves m k)
