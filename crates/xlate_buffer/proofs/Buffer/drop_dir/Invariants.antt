use Rattle.xlate_buffer.proofs.Placing.{IsEmptied}
use Rattle.xlate_buffer.proofs.Buffer.drop_dir.Given as goal

abbrev pub invariant-loop-k : goal.invariant-loop-k
invariant-loop-k l = IsEmptied l.initial.self-inside.places l.self-inside.places l.k l.index
