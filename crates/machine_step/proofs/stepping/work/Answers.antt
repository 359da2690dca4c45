use Rattle.std.proofs.Common.{refl, sym, ap, subst, ◌∙◌}
use Rattle.std.specs.Prelude.{◌==◌}
use Rattle.machine_model.specs.Step as steps
use Rattle.machine_model.specs.Step.{after_fetch}
use Rattle.machine_step.specs.Worked.{ComesTo, answer_of}
use Rattle.machine_step.proofs.Fetched.{works_on}
use Rattle.machine_step.proofs.Used.{if_ok_on, on_err}
use Rattle.machine_step.specs.Raised.{raised_by_fetch}
use Rattle.machine_step.specs.Left.{left_by_fetch}
use Rattle.machine_step.proofs.Leaving.{leaves_on, leaves_nowhere, leaves_halted}
use Rattle.machine_step.proofs.Raising.{raises_on, raises_nowhere, raises_halted}
use Rattle.machine_step.proofs.stepping.work.Goals as goal

pub returns-in-Insn-clause-uses : goal.returns-in-Insn-clause-uses
returns-in-Insn-clause-uses g c =
    let s = g.M.GuestMem.space c.args.mem.now in
    let t = g.M.GuestMem.space c.fetch_into.new.mem in
    let u = g.M.GuestMem.space c.carry_out_at.new.mem in
    if_ok_on (c.args.worked.now.cpu.cpl == 3) s t u c.carry_out_at.result c.in-Ok.ensures.uses c.carry_out_at.ensures.uses

pub returns-in-Err-clause-uses : goal.returns-in-Err-clause-uses
returns-in-Err-clause-uses g c =
    let s = g.M.GuestMem.space c.args.mem.now in
    c.refuse_at.ensures.goes_on s c.in-Err.ensures.refused

pub returns-in-Insn-clause-step : goal.returns-in-Insn-clause-step
returns-in-Insn-clause-step g c = λ m b k.
    let here = record b { cpu = c.args.worked.now.cpu; board = c.args.board.now } in
    let s = g.M.GuestMem.space c.args.mem.now in
    let goes = works_on m here s c.if-worked.false (sym (c.stands_well-well.ensures m k) ∙ c.if-not-well.false)
    ∙ ap (after_fetch m here) (rw c.in-Insn.is at c.in-Ok.ensures.fetched) in
    subst (λ (r : steps.Result). ComesTo r b (answer_of c.carry_out_at.result c.carry_out_at.new.worked) c.carry_out_at.new.board
    (g.M.GuestMem.space c.carry_out_at.new.mem)) (sym goes)
    (c.carry_out_at.ensures.step m here k)

pub returns-in-Err-clause-step : goal.returns-in-Err-clause-step
returns-in-Err-clause-step g c = λ m b k.
    let here = record b { cpu = c.args.worked.now.cpu; board = c.args.board.now } in
    let s = g.M.GuestMem.space c.args.mem.now in
    let goes = works_on m here s c.if-worked.false (sym (c.stands_well-well.ensures m k) ∙ c.if-not-well.false)
    ∙ ap (after_fetch m here) c.in-Err.ensures.fetched in
    subst (λ (r : steps.Result). ComesTo r b (answer_of c.refuse_at.result c.refuse_at.new.worked) c.args.board.now
    (g.M.GuestMem.space c.refuse_at.new.mem)) (sym goes)
    (c.refuse_at.ensures.step m here k)

pub returns-in-Err-clause-stopped : goal.returns-in-Err-clause-stopped
returns-in-Err-clause-stopped g c = on_err c.refuse_at.result refl

pub carry_out_at-requires-clause-spelled : goal.carry_out_at-requires-clause-spelled
carry_out_at-requires-clause-spelled g c = rw c.in-Insn.is at c.in-Ok.ensures.spelled

pub returns-in-Insn-clause-raised : goal.returns-in-Insn-clause-raised
returns-in-Insn-clause-raised g c = λ m k.
    let cpu = c.args.worked.now.cpu in
    let goes =
    raises_on m cpu (g.M.GuestMem.space c.args.mem.now) c.if-worked.false (sym (c.stands_well-well.ensures m k) ∙ c.if-not-well.false)
    ∙ ap (raised_by_fetch cpu) (rw c.in-Insn.is at c.in-Ok.ensures.fetched) in
    c.carry_out_at.ensures.raised ∙ sym goes

pub returns-in-Err-clause-raised : goal.returns-in-Err-clause-raised
returns-in-Err-clause-raised g c = λ m k.
    let cpu = c.args.worked.now.cpu in
    let goes =
    raises_on m cpu (g.M.GuestMem.space c.args.mem.now) c.if-worked.false (sym (c.stands_well-well.ensures m k) ∙ c.if-not-well.false)
    ∙ ap (raised_by_fetch cpu) c.in-Err.ensures.fetched in
    c.refuse_at.ensures.raised ∙ sym goes

pub returns-then-worked-clause-raised : goal.returns-then-worked-clause-raised
returns-then-worked-clause-raised g c = λ m k.
    c.requires.fresh ∙ sym (raises_halted m c.args.worked.now.cpu (g.M.GuestMem.space c.args.mem.now) c.if-worked.true)

pub returns-then-not-well-clause-raised : goal.returns-then-not-well-clause-raised
returns-then-not-well-clause-raised g c = λ m k.
    c.requires.fresh
    ∙ sym (raises_nowhere m c.args.worked.now.cpu (g.M.GuestMem.space c.args.mem.now) c.if-worked.false
    (sym (c.stands_well-well.ensures m k) ∙ c.if-not-well.true))

pub returns-in-Insn-clause-leaves : goal.returns-in-Insn-clause-leaves
returns-in-Insn-clause-leaves g c = λ m k.
    let cpu = c.args.worked.now.cpu in
    let goes =
    leaves_on m cpu (g.M.GuestMem.space c.args.mem.now) c.if-worked.false (sym (c.stands_well-well.ensures m k) ∙ c.if-not-well.false)
    ∙ ap (left_by_fetch cpu) (rw c.in-Insn.is at c.in-Ok.ensures.fetched) in
    c.carry_out_at.ensures.leaves ∙ sym goes

pub returns-in-Err-clause-leaves : goal.returns-in-Err-clause-leaves
returns-in-Err-clause-leaves g c = λ m k.
    let cpu = c.args.worked.now.cpu in
    let goes =
    leaves_on m cpu (g.M.GuestMem.space c.args.mem.now) c.if-worked.false (sym (c.stands_well-well.ensures m k) ∙ c.if-not-well.false)
    ∙ ap (left_by_fetch cpu) c.in-Err.ensures.fetched in
    c.refuse_at.ensures.leaves ∙ sym goes

pub returns-then-worked-clause-leaves : goal.returns-then-worked-clause-leaves
returns-then-worked-clause-leaves g c =
    λ m k. sym (leaves_halted m c.args.worked.now.cpu (g.M.GuestMem.space c.args.mem.now) c.if-worked.true)

pub returns-then-not-well-clause-leaves : goal.returns-then-not-well-clause-leaves
returns-then-not-well-clause-leaves g c = λ m k.
    sym (leaves_nowhere m c.args.worked.now.cpu (g.M.GuestMem.space c.args.mem.now) c.if-worked.false
    (sym (c.stands_well-well.ensures m k) ∙ c.if-not-well.true))
