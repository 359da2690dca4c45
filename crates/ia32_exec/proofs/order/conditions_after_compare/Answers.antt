use Rattle.ia32_types.specs.declared.insn.Op.TheVariants.{Cmp}
use Rattle.ia32_types.specs.Bits.{low}
use Rattle.ia32_alu.specs.Arithmetic.{alu}
use Rattle.ia32_alu.proofs.CompareRules.{low_small}
use Rattle.ia32_exec.proofs.OrderRules.{tells_condition}
use Rattle.ia32_exec.proofs.order.conditions_after_compare.Goals as goal

pub returns : goal.returns
returns c = λ number s a b f.
    tells_condition number s (low s a) (low s b) (alu Cmp s a b f).1 (low_small s a) (low_small s b) (c.comparisons.ensures s a b f)
