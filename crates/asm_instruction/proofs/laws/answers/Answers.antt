use Rattle.asm_instruction.proofs.Answered.{answer_right, answer_chosen, answer_branch}
use Rattle.asm_instruction.proofs.laws.answers.Goals as goal

pub returns-clause-right : goal.returns-clause-right
returns-clause-right c = answer_right

pub returns-clause-branches : goal.returns-clause-branches
returns-clause-branches c = answer_branch

pub returns-clause-chosen : goal.returns-clause-chosen
returns-clause-chosen c = answer_chosen
