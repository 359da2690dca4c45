use Rattle.ia32_rows.proofs.ShapeLaws.{shaped}
use Rattle.host_cpl3.proofs.step.work.Goals as goal

pub finish-requires-clause-shape : goal.finish-requires-clause-shape
finish-requires-clause-shape c = shaped c.requires.spelled.0 c.args.insn.now c.requires.spelled.1
