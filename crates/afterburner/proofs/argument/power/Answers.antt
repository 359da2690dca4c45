use Rattle.std.proofs.Common.{◌≤◌, ◌^◌, arith}
use Rattle.std.proofs.Math.Nat.{pow-le-pow_right}
use Rattle.afterburner.proofs.argument.power.Goals as goal

pub returns-else-exponent-gt12-clause-most : goal.returns-else-exponent-gt12-clause-most
returns-else-exponent-gt12-clause-most c =
    let at_most : 2 ^ c.args.exponent ≤ 2 ^ 12 = pow-le-pow_right {n = 2} (omega arith) {i = c.args.exponent} {j = 12} (omega arith) in
    omega (arith, at_most)
