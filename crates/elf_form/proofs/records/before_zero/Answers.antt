use Rattle.std.proofs.Common.{eqb, sym, arith, below_more, eq-eqb, ne_eqb, length}
use Rattle.std.proofs.lemmas.List.Sums.{position_or_len_is}
use Rattle.elf_form.proofs.records.before_zero.Goals as goal

pub loop-i-preserved : goal.loop-i-preserved
loop-i-preserved c = below_more _ _ c.loop-i.invariant (ne_eqb _ _ c.if-b-eq0.false)

pub returns-then-b-eq0-clause-count : goal.returns-then-b-eq0-clause-count
returns-then-b-eq0-clause-count c =
    sym (position_or_len_is (λ b. eqb b 0) c.args.bytes.now c.loop-i.i 0 (omega arith) c.loop-i.invariant (λ _. eq-eqb _ _ c.if-b-eq0.true))

pub returns-clause-count : goal.returns-clause-count
returns-clause-count c =
    sym (position_or_len_is (λ b. eqb b 0) c.args.bytes.now (length c.args.bytes.now) 0 (omega arith)
    (λ k h. c.loop-i.invariant k (omega arith)) (λ h. absurd (omega arith)))
