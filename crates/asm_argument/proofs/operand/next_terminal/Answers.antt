use Rattle.std.proofs.Common.{sym, ◌∙◌}
use Rattle.asm_argument.proofs.Operands.{next_default}
use Rattle.asm_argument.proofs.operand.next_terminal.Goals as goal

pub returns-in_default : goal.returns-in_default
returns-in_default c =
    let n = c.in_default in
    c.address_step.ensures
    ∙ sym (next_default c.args.shape c.args.so_far c.args.terminal n.not-Nothing n.not-Absent n.not-Percent n.not-Dollar n.not-Minus
    n.not-Name n.not-Sign n.not-SignMinus n.not-Number)
