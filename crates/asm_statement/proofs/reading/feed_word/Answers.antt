use Rattle.std.proofs.Common.{◌≡◌, false}
use Rattle.asm_lex.specs.Words.{Word}
use Rattle.asm_statement.specs.Statement.{fault_line}
use Rattle.asm_statement.specs.Reading.{is_longer}
use Rattle.asm_statement.proofs.Feeding.{failed_word, ended_word}
use Rattle.asm_statement.proofs.reading.feed_word.Goals as goal

pub returns-in-Err-feed_terminal : goal.returns-in-Err-feed_terminal
returns-in-Err-feed_terminal c =
    let none : is_longer c.args.state c.args.at c.args.kind c.args.bytes.now ≡ false = cc c.if-is_longer.ensures in
    let w : Word = record { kind = c.args.kind; at = c.args.at; line = c.args.line; bytes = c.args.bytes.now } in
    failed_word c.feed_terminal.new.scope c.args.scope.now c.args.state (fault_line c.args.scope.now c.args.state c.args.line) w
    c.in-Ok-terminal_of.terminal c.in-Err-feed_terminal.fault none c.in-Ok-terminal_of.ensures c.in-Err-feed_terminal.ensures

pub returns-in-Ok-feed_terminal : goal.returns-in-Ok-feed_terminal
returns-in-Ok-feed_terminal c =
    let none : is_longer c.args.state c.args.at c.args.kind c.args.bytes.now ≡ false = cc c.if-is_longer.ensures in
    let w : Word = record { kind = c.args.kind; at = c.args.at; line = c.args.line; bytes = c.args.bytes.now } in
    ended_word c.feed_terminal.new.scope c.args.scope.now c.args.state c.in-Ok-feed_terminal.state c.ending_at.result
    (fault_line c.args.scope.now c.args.state c.args.line) w c.in-Ok-terminal_of.terminal none c.in-Ok-terminal_of.ensures
    c.ending_at.ensures c.in-Ok-feed_terminal.ensures
