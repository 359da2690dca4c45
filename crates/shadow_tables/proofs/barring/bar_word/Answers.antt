use Rattle.std.proofs.Common.{◌≡◌, ◌/◌, ◌%◌, arith}
use Rattle.shadow_tables.proofs.Bars.{some-table}
use Rattle.shadow_tables.proofs.barring.bar_word.Goals as goal

pub set-requires-clause-some : goal.set-requires-clause-some
set-requires-clause-some c = some-table c.args.ram.now c.args.root c.args.page
    (λ z. (let e = c.look-word.ensures in let x : c.look-word.result / 2 % 2 ≡ 1 = omega arith in absurd (omega (arith, x, e, z))))
