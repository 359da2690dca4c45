use Rattle.asm_instruction.specs.declared.assembled.Refusal.TheVariants as refusal
use Rattle.asm_instruction.proofs.Whole.{right_spelled, right_short, right_fields, right_order}
use Rattle.asm_instruction.proofs.Refusing.{told_of}
use Rattle.asm_instruction.proofs.assembling.assemble.Goals as goal

pub returns : goal.returns
returns c =
    let args = c.args.arguments.now in
    let made = c.by_name.result in
    let right = c.by_name.ensures.right in
    let exact = c.by_name.ensures.exact in
    record {
      exact = exact;
      spelled = right_spelled args made right;
      short = right_short args made right;
      fields = right_fields args made right;
      order = right_order args made right;
      refused = told_of c.args.rep c.args.name.now args made exact refusal.RefusedInstruction;
      unknown = told_of c.args.rep c.args.name.now args made exact refusal.UnknownInstruction;
      operands = told_of c.args.rep c.args.name.now args made exact refusal.Operands;
      range = told_of c.args.rep c.args.name.now args made exact refusal.ValueRange;
    }
