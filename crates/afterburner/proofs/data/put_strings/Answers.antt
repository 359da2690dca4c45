use Rattle.std.proofs.Common.{refl}
use Rattle.afterburner.specs.Directives.{string_bytes}
use Rattle.afterburner.proofs.Pieces.{one_more}
use Rattle.afterburner.proofs.data.put_strings.Goals as goal

pub loop-argument-preserved : goal.loop-argument-preserved
loop-argument-preserved c =
    one_more (string_bytes c.args.ended) c.args.out.now.items c.loop-argument.out.items c.put_string.new.out.items
    (string_bytes c.args.ended c.argument-item.result) c.args.arguments.now c.loop-argument.argument-index c.argument-item.result
    c.loop-argument-test.true c.argument-item.is
    refl c.loop-argument.invariant c.in_ok-put_string.ensures
