use Rattle.std.proofs.Common.{◌≡◌, ◌++◌}
use Rattle.kernel_gen.specs.Kernels.{x_of, text_of, head, body}
use Rattle.kernel_gen.proofs.source.kernel.Given as goal

abbrev pub invariant-loop : goal.invariant-loop
invariant-loop l = record {
  x : l.x ≡ x_of l.fn.number l.counter;
  text : l.text.items ≡ text_of (head ++ body l.fn.number l.counter);
}
