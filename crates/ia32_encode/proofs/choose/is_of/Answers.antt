-- The derived comparison of the names says whether they are one.
use Rattle.std.proofs.Common.{rules, sym, ◌∙◌}
use Rattle.std.proofs.lemmas.Bool.{true_from_ne_false}
use denote.Enum.Bare.{same_true, same_false, sameb}
use Rattle.ia32_types.specs.contracts.insn.Op.{the_type}
use Rattle.ia32_encode.proofs.choose.is_of.Goals as goal

pub returns : goal.returns
returns c = (
  λ t. same_true the_type (search rules) _ _ (sym c.eq.ensures ∙ t),
  λ e. c.eq.ensures ∙ true_from_ne_false (sameb the_type c.args.row.now.op c.args.insn.now.op) (λ h. same_false the_type _ _ h e),
)
