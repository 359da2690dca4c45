use Rattle.std.proofs.Common.{append_assoc}
use Rattle.std.proofs.lemmas.List.Elements.{filter-append}
use Rattle.afterburner.specs.ObjectSoFar.{undefined}
use Rattle.afterburner.proofs.Ordering.{seen_more}
use Rattle.afterburner.proofs.object.put_symbols.Goals as goal

pub loop-number-preserved : goal.loop-number-preserved
loop-number-preserved c =
    let m = seen_more c.args.names.now c.args.definitions.now c.loop-number.number c.name_at.result.now undefined c.loop-number-test.true
    c.name_at.ensures in
    rw (m, filter-append, ← append_assoc, ← c.loop-number.invariant) c.in_ok-put_symbol.ensures
