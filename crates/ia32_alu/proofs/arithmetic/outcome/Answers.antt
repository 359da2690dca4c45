use Rattle.ia32_alu.proofs.Small.{and_small, or_small, xor_small}
use Rattle.std.proofs.Common.{rules}
use Rattle.ia32_alu.proofs.arithmetic.outcome.Goals as goal

pub returns-in-Inc-clause-all : goal.returns-in-Inc-clause-all
returns-in-Inc-clause-all c = search (rules, or_small, xor_small, and_small)
