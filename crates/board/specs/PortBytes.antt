-- Of what size a value is that an access of 8 bits reads.
use Rattle.std.specs.Prelude.{◌<◌}
use Rattle.board.specs.declared.devices.PortRead.{PortRead}
use Rattle.board.specs.declared.devices.PortRead.TheVariants.{Value, Stop as Refused}

-- a value that is read is a byte
abbrev pub IsByte : PortRead → Type 0
IsByte Refused = Unit {0}
IsByte (Value v) = v < 256
