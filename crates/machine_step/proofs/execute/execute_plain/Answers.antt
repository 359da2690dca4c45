use Rattle.ia32_rows.proofs.ShapeLaws.{shaped}
use Rattle.machine_step.proofs.execute.execute_plain.Goals as goal

pub plain-requires-clause-shape : goal.plain-requires-clause-shape
plain-requires-clause-shape g c = shaped c.requires.spelled.0 c.args.insn.now c.requires.spelled.1

pub returns-in-Err-clause-told : goal.returns-in-Err-clause-told
returns-in-Err-clause-told g c =
    rw c.in-Err.ensures.does (rw c.in-Err.ensures.refused at (c.refused.ensures.told (g.M.GuestMem.space c.plain.new.mem)))
