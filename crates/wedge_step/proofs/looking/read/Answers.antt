use Rattle.std.proofs.Common.{◌++◌, ap, ◌∙◌, arith}
use Rattle.wedge_step.proofs.looking.read.Goals as goal

pub append-requires : goal.append-requires
append-requires c = let long =
    c.in-Some.ensures.len in let few = c.requires.few in let room = c.requires.room in omega (arith, long, few, room)

pub returns-in-Some : goal.returns-in-Some
returns-in-Some c = c.append.ensures ∙ ap (λ l. c.args.into.now.items ++ l) c.in-Some.ensures.bytes
