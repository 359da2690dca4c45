use Rattle.std.proofs.Common.{◌∙◌, sym}
use Rattle.host_cpl3.proofs.Nothing.{accesses_none}
use Rattle.host_cpl3.proofs.registers.accesses_nothing.Goals as goal

pub returns : goal.returns
returns c = λ t. accesses_none c.args.insn.now (sym c.is_by_operands.ensures ∙ c.if-not-is_by_operands.false)
    (sym c.is_memory.ensures ∙ c.if-is_memory.false) (sym c.is_memory-else-is_memory.ensures ∙ c.if-is_memory-2.false)
