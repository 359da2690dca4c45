use Rattle.std.proofs.Common.{ℕ, sym, subst}
use Rattle.host_cpl3.specs.Reaches.{IsWritten}
use Rattle.host_cpl3.proofs.store.ReachWriter.write.Goals as goal

pub returns-clause-open_still : goal.returns-clause-open_still
returns-clause-open_still c = λ k h. subst (λ (n : ℕ). IsWritten n c.args.self.now k) (sym c.write_one.ensures.same.len) h
