use Rattle.std.proofs.Common.{refl}
use Rattle.ia32_rows.proofs.Readers.{AreBytes-take}
use Rattle.ia32_encode.proofs.Laid.{chosen_spells, chosen_back, none_spells}
use Rattle.ia32_encode.proofs.Function.{chosen_is, none_is, chosen_placed}
use Rattle.ia32_encode.proofs.choose.encode.Goals as goal

pub returns-in-Ok-clause-spells : goal.returns-in-Ok-clause-spells
returns-in-Ok-clause-spells c = chosen_spells c.args.wide c.args.insn.now _ c.in-Ok.ensures.0 (AreBytes-take _ _ c.in-Ok.ensures.1)

pub returns-in-Ok-clause-read_back : goal.returns-in-Ok-clause-read_back
returns-in-Ok-clause-read_back c = chosen_back c.args.wide c.args.insn.now _ c.in-Ok.ensures.0 (AreBytes-take _ _ c.in-Ok.ensures.1)

pub returns-in-Ok-clause-no_form : goal.returns-in-Ok-clause-no_form
returns-in-Ok-clause-no_form c = (
  λ e. absurd cc,
  λ f. absurd (f _ (chosen_spells c.args.wide c.args.insn.now _ c.in-Ok.ensures.0 (AreBytes-take _ _ c.in-Ok.ensures.1))),
)

pub returns-in-Err-clause-no_form : goal.returns-in-Err-clause-no_form
returns-in-Err-clause-no_form c = (λ e. none_spells c.args.wide c.args.insn.now c.in-Err.ensures, λ f. refl)

pub returns-in-Ok-clause-exact : goal.returns-in-Ok-clause-exact
returns-in-Ok-clause-exact c = chosen_is c.args.wide c.args.insn.now _ c.in-Ok.ensures.0

pub returns-in-Err-clause-exact : goal.returns-in-Err-clause-exact
returns-in-Err-clause-exact c = none_is c.args.wide c.args.insn.now c.in-Err.ensures

pub returns-in-Ok-clause-placed : goal.returns-in-Ok-clause-placed
returns-in-Ok-clause-placed c = chosen_placed c.args.wide c.args.insn.now _ c.in-Ok.ensures.0 (AreBytes-take _ _ c.in-Ok.ensures.1)
