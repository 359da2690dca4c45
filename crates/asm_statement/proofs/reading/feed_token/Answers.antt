use Rattle.std.proofs.Common.{◌≡◌, ℕ, ◌+◌, ◌-◌, take, drop, ap, arith}
use Rattle.asm_lex.specs.Words.{Word}
use Rattle.asm_statement.proofs.Feeding.{same_word}
use Rattle.asm_statement.proofs.reading.feed_token.Goals as goal

pub returns : goal.returns
returns c =
    let e : (c.args.token.at + c.args.token.len) - c.args.token.at ≡ c.args.token.len = omega arith in
    let f : ℕ → Word = λ n. record {
      kind = c.args.token.kind;
      at = c.args.token.at;
      line = c.args.line;
      bytes = take n (drop c.args.token.at c.args.seen.now);
    } in
    same_word c.feed_word.new.scope c.args.scope.now c.args.state c.args.line c.feed_word.result _ _ (ap f e) c.feed_word.ensures
