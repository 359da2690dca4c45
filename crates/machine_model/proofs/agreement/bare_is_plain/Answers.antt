use Rattle.std.proofs.Common.{refl}
use Rattle.machine_model.proofs.Owned.{bare_owns_front, bare_owns_back}
use Rattle.machine_model.proofs.agreement.bare_is_plain.Goals as goal

pub returns : goal.returns
returns c = record {
  anywhere = λ m cpu. refl;
  any_flags = λ cpu after. refl;
  no_front = bare_owns_front;
  no_back = bare_owns_back;
}
