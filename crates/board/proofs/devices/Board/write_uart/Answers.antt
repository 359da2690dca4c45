use Rattle.std.proofs.Common.{◌∙◌}
use Rattle.board.proofs.Lines.{port_stays}
use Rattle.board.proofs.devices.Board.write_uart.Goals as goal

pub returns-clause-stopped : goal.returns-clause-stopped
returns-clause-stopped c = λ stop.
    c.follow_serial_line.ensures
    ∙ port_stays c.args.self.now c.write-did.new.self c.line-asked_before.result (c.write-did.ensures.stopped stop)
    c.line-asked_before.ensures
