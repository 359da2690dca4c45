use Rattle.std.proofs.Common.{ap, ◌∙◌, SFits, w64, rules}
use Rattle.std.proofs.Math.Facts.{to_z-of_z}
use Rattle.asm_source.specs.declared.tree.Argument.{Argument}
use Rattle.afterburner.specs.Arguments.{number_in}
use Rattle.afterburner.specs.Values.{value_bytes}
use Rattle.afterburner.proofs.Pieces.{one_more}
use Rattle.afterburner.proofs.data.put_values.Goals as goal

pub loop-argument-preserved : goal.loop-argument-preserved
loop-argument-preserved c =
    let fits : SFits w64 c.number.result = search rules in
    one_more (λ (a : Argument). value_bytes c.args.size (number_in a.form)) c.args.out.now.items c.loop-argument.out.items
    c.put_value.new.out.items
    _ c.args.arguments.now c.loop-argument.argument-index c.argument-item.result c.loop-argument-test.true c.argument-item.is
    (ap (value_bytes c.args.size) (to_z-of_z fits ∙ c.number.ensures)) c.loop-argument.invariant c.in_ok-put_value.ensures
