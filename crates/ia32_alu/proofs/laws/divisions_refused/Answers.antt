use Rattle.ia32_alu.proofs.QuotientRules.{refused, upper_refused, signed_refused}
use Rattle.ia32_alu.proofs.laws.divisions_refused.Goals as goal

pub returns : goal.returns
returns c = record {
  unsigned = refused;
  upper_half = upper_refused;
  signed = signed_refused;
}
