use Rattle.ia32_decode.proofs.Fronts.{spelled_by}
use Rattle.host_cpl3.proofs.step.host_step.Goals as goal

pub fetch_whole-requires-clause-spelled : goal.fetch_whole-requires-clause-spelled
fetch_whole-requires-clause-spelled c = spelled_by _ c.decode-begun.result c.decode-begun.ensures.insn
