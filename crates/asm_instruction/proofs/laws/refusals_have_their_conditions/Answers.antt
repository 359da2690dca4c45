use Rattle.asm_instruction.specs.declared.assembled.Refusal.TheVariants as refusal
use Rattle.asm_instruction.proofs.Refusing.{told_exactly}
use Rattle.asm_instruction.proofs.laws.refusals_have_their_conditions.Goals as goal

pub returns : goal.returns
returns c = record {
  unknown = λ rep name args. told_exactly rep name args refusal.UnknownInstruction;
  refused = λ rep name args. told_exactly rep name args refusal.RefusedInstruction;
  operands = λ rep name args. told_exactly rep name args refusal.Operands;
  range = λ rep name args. told_exactly rep name args refusal.ValueRange;
}
