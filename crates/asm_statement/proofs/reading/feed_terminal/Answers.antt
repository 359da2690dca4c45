use Rattle.asm_statement.specs.Statement.{next_step, fault_line}
use Rattle.asm_statement.proofs.Feeding.{fed_terminal}
use Rattle.asm_statement.proofs.reading.feed_terminal.Goals as goal

pub returns : goal.returns
returns c =
    let place = fault_line c.args.scope.now c.args.state c.args.line in
    let step = next_step c.args.scope.now c.args.state c.args.line c.args.terminal in
    fed_terminal c.next_step.new.scope place _ _ step _ c.fault_line-at.ensures c.at_line.ensures c.next_step.ensures
