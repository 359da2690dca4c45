use Rattle.ia32_exec.specs.declared.outcome.Outcome.TheVariants.{Done}
use Rattle.ia32_exec.specs.Effect.{ranges_of}
use Rattle.ia32_exec.proofs.Within.{within}
use Rattle.step_exec.specs.Ready.{IsWritableAt}
use Rattle.step_exec.proofs.Ready.{made_writable}
use Rattle.step_exec.proofs.instruction.complete_in.Goals as goal

-- what the instruction writes lies in its write range
pub store_all-requires : goal.store_all-requires
store_all-requires g c =
    let s = g.M.GuestMem.space c.args.mem.now in
    within (IsWritableAt s) c.args.insn.now c.args.len c.args.cpu.now.regs _ (Done c.in-Done.regs c.in-Done.stores) c.in-Done.ensures
    (made_writable (ranges_of c.args.insn.now c.args.cpu.now.regs) s c.requires.made)
