use Rattle.std.proofs.Common.{sym, ◌∙◌}
use Rattle.checkpoint.proofs.AllMet.{counts_from_none}
use Rattle.checkpoint.proofs.Files.{if_none}
use Rattle.checkpoint.proofs.reading.fault_of.Goals as goal

pub misses-requires : goal.misses-requires
misses-requires c = (counts_from_none c.args.there c.args.head.now c.if-there-lt8.false (sym c.bad_field.ensures ∙ c.in_default.is)).1

pub returns-clause-frames : goal.returns-clause-frames
returns-clause-frames c =
    if_none c.misses.result (counts_from_none c.args.there c.args.head.now c.if-there-lt8.false (sym c.bad_field.ensures ∙ c.in_default.is))
