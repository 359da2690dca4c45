use Rattle.std.proofs.Common.{refl}
use Rattle.guest_sched.proofs.Tags.{tagged_append}
use Rattle.guest_sched.proofs.TaggedLines.{bytes_are_lines}
use Rattle.guest_sched.proofs.laws.turns_put_lines.Goals as goal

pub returns-clause-lines : goal.returns-clause-lines
returns-clause-lines c = bytes_are_lines

pub returns-clause-pieces : goal.returns-clause-pieces
returns-clause-pieces c = λ tag xs ys. tagged_append tag tag xs ys

pub returns-clause-three : goal.returns-clause-three
returns-clause-three c = refl
