-- A machine's state, and that of a checkpoint, which has no translations.
use Rattle.std.specs.FinMap.{empty}
use Rattle.machine_model.specs.State as model
use Rattle.checkpoint.specs.declared.state.State.{State}

-- where a machine goes on from a checkpoint
abbrev pub rested_from : State → model.State
rested_from s = record { cpu = s.cpu; ram = s.ram; set = empty; board = s.board; step = s.step }

-- what a checkpoint keeps of a machine
abbrev pub kept_of : model.State → State
kept_of b = record { cpu = b.cpu; board = b.board; step = b.step; ram = b.ram }
