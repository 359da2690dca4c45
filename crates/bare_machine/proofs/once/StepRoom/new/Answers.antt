use Rattle.bare_machine.proofs.NextEvents.{none_before}
use Rattle.bare_machine.proofs.once.StepRoom.new.Goals as goal

pub returns : goal.returns
returns c = λ script step. none_before script step
