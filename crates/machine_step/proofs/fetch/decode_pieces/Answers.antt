use Rattle.ia32_decode.proofs.Fronts.{spelled_by}
use Rattle.machine_step.proofs.fetch.decode_pieces.Goals as goal

pub returns-then-is_empty-clause-spelled : goal.returns-then-is_empty-clause-spelled
returns-then-is_empty-clause-spelled c = spelled_by _ c.decode_into.new.found c.decode_into.ensures.insn

pub returns-then-is_empty-2-clause-spelled : goal.returns-then-is_empty-2-clause-spelled
returns-then-is_empty-2-clause-spelled c = spelled_by _ c.decode_into-then-is_empty-2.new.found c.decode_into-then-is_empty-2.ensures.insn
