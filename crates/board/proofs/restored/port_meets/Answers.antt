use Rattle.std.proofs.Common.{◌≡◌, ◌+◌, true, sym, ◌∙◌, arith}
use Rattle.std.specs.Prelude.{nat_le, nat_lt, slice_index, slice_range}
use Rattle.std.proofs.lemmas.Bool.Decides.{nat_tests}
use Rattle.board.specs.Restored.{are_zero}
use Rattle.board.proofs.Forms.{last_decides}
use Rattle.board.proofs.restored.port_meets.Goals as goal

pub returns-then-are_zero : goal.returns-then-are_zero
returns-then-are_zero c =
    let set : nat_le (slice_index c.args.bytes.now 32) 1 ≡ true = grind (arith, nat_tests) in
    let control : nat_lt (slice_index c.args.bytes.now 34) 16 ≡ true = grind (arith, nat_tests) in
    let few : nat_le (slice_index c.args.bytes.now 38) 16 ≡ true = grind (arith, nat_tests) in
    let unused : are_zero (slice_range c.args.bytes.now (39 + slice_index c.args.bytes.now 38) 55) ≡ true =
    sym c.are_zero.ensures ∙ c.if-are_zero.true in
    c.are_zero-then-are_zero.ensures
    ∙ sym (last_decides _ _ _ _ (are_zero (slice_range c.args.bytes.now 55 64)) set control few unused)
