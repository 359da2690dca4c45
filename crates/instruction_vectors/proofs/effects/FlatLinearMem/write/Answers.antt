use Rattle.std.proofs.Common.{ap, ◌∙◌, arith}
use Rattle.instruction_vectors.specs.Flat.{byte_at}
use Rattle.instruction_vectors.proofs.FlatRules.{put_stored, lies_in}
use Rattle.instruction_vectors.proofs.effects.FlatLinearMem.write.Goals as goal

pub returns-clause-written : goal.returns-clause-written
returns-clause-written c =
    let bs = c.args.self.now.bytes in
    let within = lies_in c.args.size c.args.at c.requires in
    ap byte_at c.put.ensures ∙ put_stored c.args.size bs c.args.at c.args.value within.0 (omega (arith, within.1))
