use Rattle.checkpoint.proofs.Seats.{seat}
use Rattle.checkpoint.proofs.guest.seated.Goals as goal

pub returns-clause-front : goal.returns-clause-front
returns-clause-front c =
    seat c.args.memory.now c.put.new.self c.new.new.ram c.args.ram.now c.part.result.now c.args.frames c.len.result
    c.requires.frames c.len.ensures.count
    c.part.ensures.bytes c.put.ensures.memory c.new.ensures.memory
