-- RET, and jumps and calls through an operand: the registers after each by its target, at every level. Intel SDM
-- volume 2, RET, JMP and CALL.
use Rattle.std.specs.Prelude.{ℕ, ◌+◌}
use Rattle.ia32_types.specs.declared.flags.Regs.{Regs}
use Rattle.ia32_exec.specs.Registers.{eip_past}
use Rattle.ia32_exec.specs.Stack.{with_push, with_pop}

-- JMP through an operand: at its target
abbrev pub gone_to : ℕ → Regs → Regs
gone_to target r = record r { eip = target }

-- RET to a target, which drops a number of bytes besides
abbrev pub ret : (target more : ℕ) → Regs → Regs
ret target more r = gone_to target (with_pop (4 + more) r)

-- CALL of a target, and the number that it pushes: EIP after it
abbrev pub call : ℕ → Regs → Regs
call target r = gone_to target (with_push r)

abbrev pub return_address : ℕ → Regs → ℕ
return_address len r = (eip_past len r).eip
