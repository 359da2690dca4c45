use Rattle.std.proofs.Common.{◌≡◌, ◌&&◌, refl, sym, ap, subst}
use Rattle.ia32_types.specs.declared.insn.Op.{Op}
use Rattle.machine_model.specs.Step.{by_op}
use Rattle.machine_step.specs.Worked.{ComesTo, answer_of}
use Rattle.machine_step.proofs.Used.{on_err}
use Rattle.machine_model.specs.Taken.{is_write, is_control_3}
use Rattle.machine_step.specs.Left.{left_by_op}
use Rattle.machine_step.specs.Raised.{raised_by_op}
use Rattle.machine_step.proofs.instruction.carry_out_at.Goals as goal

pub returns-in-Int-clause-step : goal.returns-in-Int-clause-step
returns-in-Int-clause-step g c = λ m b k.
    let here = record b { cpu = c.args.worked.now.cpu; board = c.args.board.now } in
    subst (λ (o : Op). ComesTo (by_op m o here c.args.insn.now c.args.len (g.M.GuestMem.space c.args.mem.now)) b
    (answer_of c.enter_at.result c.enter_at.new.worked) c.args.board.now (g.M.GuestMem.space c.enter_at.new.mem))
    (sym c.in-Int.is) (c.enter_at.ensures.step m here k)

pub returns-in-Int3-clause-step : goal.returns-in-Int3-clause-step
returns-in-Int3-clause-step g c = λ m b k.
    let here = record b { cpu = c.args.worked.now.cpu; board = c.args.board.now } in
    subst (λ (o : Op). ComesTo (by_op m o here c.args.insn.now c.args.len (g.M.GuestMem.space c.args.mem.now)) b
    (answer_of c.enter_at-in-Int3.result c.enter_at-in-Int3.new.worked) c.args.board.now (g.M.GuestMem.space c.enter_at-in-Int3.new.mem))
    (sym c.in-Int3.is) (c.enter_at-in-Int3.ensures.step m here k)

pub enter_at-requires-clause-no_load : goal.enter_at-requires-clause-no_load
enter_at-requires-clause-no_load g c = ap (λ (o : Op). is_write o && is_control_3 c.args.insn.now.a) c.in-Int.is

pub enter_at-requires-in-Int3-clause-no_load : goal.enter_at-requires-in-Int3-clause-no_load
enter_at-requires-in-Int3-clause-no_load g c = ap (λ (o : Op). is_write o && is_control_3 c.args.insn.now.a) c.in-Int3.is

pub returns-in-Int-clause-stopped : goal.returns-in-Int-clause-stopped
returns-in-Int-clause-stopped g c = on_err c.enter_at.result refl

pub returns-in-Int3-clause-stopped : goal.returns-in-Int3-clause-stopped
returns-in-Int3-clause-stopped g c = on_err c.enter_at-in-Int3.result refl

pub returns-in-Int-clause-raised : goal.returns-in-Int-clause-raised
returns-in-Int-clause-raised g c =
    let a = c.args in
    subst (λ (o : Op). c.enter_at.new.worked.raised ≡ raised_by_op o a.worked.now.cpu a.insn.now a.len (g.M.GuestMem.space a.mem.now))
    (sym c.in-Int.is) c.enter_at.ensures.raised

pub returns-in-Int3-clause-raised : goal.returns-in-Int3-clause-raised
returns-in-Int3-clause-raised g c =
    let a = c.args in
    subst (λ (o : Op). c.enter_at-in-Int3.new.worked.raised ≡ raised_by_op o a.worked.now.cpu a.insn.now a.len
    (g.M.GuestMem.space a.mem.now))
    (sym c.in-Int3.is) c.enter_at-in-Int3.ensures.raised

pub returns-in-Int-clause-leaves : goal.returns-in-Int-clause-leaves
returns-in-Int-clause-leaves g c =
    let a = c.args in
    let s = g.M.GuestMem.space a.mem.now in
    subst (λ (o : Op). g.M.GuestMem.space c.enter_at.new.mem ≡ left_by_op o a.worked.now.cpu a.insn.now a.len s) (sym c.in-Int.is)
    c.enter_at.ensures.leaves

pub returns-in-Int3-clause-leaves : goal.returns-in-Int3-clause-leaves
returns-in-Int3-clause-leaves g c =
    let a = c.args in
    let s = g.M.GuestMem.space a.mem.now in
    subst (λ (o : Op). g.M.GuestMem.space c.enter_at-in-Int3.new.mem ≡ left_by_op o a.worked.now.cpu a.insn.now a.len s) (sym c.in-Int3.is)
    c.enter_at-in-Int3.ensures.leaves
