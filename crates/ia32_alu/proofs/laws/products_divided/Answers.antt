use Rattle.ia32_alu.proofs.InverseRules.{product_divided}
use Rattle.ia32_alu.proofs.laws.products_divided.Goals as goal

pub returns : goal.returns
returns c = product_divided
