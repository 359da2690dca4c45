use Rattle.ia32_decode.proofs.Fronts.{spelled_by}
use Rattle.ia32_decode.proofs.bytes.decode_joined_into.Goals as goal

pub returns-clause-spelled : goal.returns-clause-spelled
returns-clause-spelled c = spelled_by _ c.decode_into.new.found c.decode_into.ensures.insn
