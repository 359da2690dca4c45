use Rattle.std.proofs.Common.{◌≡◌, ◌-◌, true, arith}
use Rattle.std.specs.Prelude.{nat_le}
use Rattle.std.proofs.lemmas.Bool.Decides.{nat_tests}
use Rattle.image_check.specs.Places as places
use Rattle.image_check.proofs.Lookups.{start_test}
use Rattle.machine_step.proofs.rules.is_start.Goals as goal

pub returns : goal.returns
unfolding places.is_start
returns c =
    let le : nat_le 0x10000000 c.args.eip ≡ true = grind (arith, nat_tests) in
    rw le (start_test c.args.image.now.text (c.args.eip - 0x10000000) c.is_start.result c.is_start.ensures)
