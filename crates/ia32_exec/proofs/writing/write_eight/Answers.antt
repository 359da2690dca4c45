use Rattle.std.proofs.Common.{◌+◌, ◌*◌, ◌≡◌, arith, subst}
use Rattle.ia32_exec.proofs.StoreRules.{folds_more}
use Rattle.ia32_exec.proofs.writing.write_eight.Goals as goal

-- the number's bytes are among the 32
pub write-requires-clause-open_to : goal.write-requires-clause-open_to
write-requires-clause-open_to g c = λ k h.
    let same : c.args.at + (4 * c.loop-k.k + k) ≡ c.args.at + 4 * c.loop-k.k + k = omega arith in
    subst (g.W.Writer.writable c.args.writer.now c.loop-k.memory) same (c.loop-k.invariant.open_still (4 * c.loop-k.k + k) (omega arith))

pub overflow_add-store : goal.overflow_add-store
overflow_add-store g c =
    omega (
      arith,
      g.met.W.Writer.in_space c.args.writer.now c.loop-k.memory (c.args.at + 4 * c.loop-k.k)
          (c.loop-k.invariant.open_still (4 * c.loop-k.k) (omega arith)),
    )

-- one number more is written
pub loop-k-preserved : goal.loop-k-preserved
loop-k-preserved g c = record {
  stands = c.write.ensures.stands;
  written = folds_more (g.W.Writer.written c.args.writer.now) c.args.memory.now c.loop-k.memory _ c.loop-k.k c.args.at c.args.values
      c.loop-k.invariant.written c.write.ensures.written;
  open_still = λ k lt. c.write.ensures.open_still (c.args.at + k) (c.loop-k.invariant.open_still k lt);
}
