use Rattle.ia32_text.proofs.Branches.{jmp_again, call_again, jcc_again}
use Rattle.ia32_text.proofs.laws.branches_again.Goals as goal

pub returns : goal.returns
returns c = record { jmp = jmp_again; call = call_again; jcc = jcc_again }
