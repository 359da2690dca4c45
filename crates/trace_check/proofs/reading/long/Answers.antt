use Rattle.std.proofs.Common.{◌≡◌, ◌+◌, ◌-◌, arith}
use Rattle.guest_ram.specs.Bytes.{part}
use Rattle.trace_check.specs.Reading.{word64}
use Rattle.trace_check.proofs.reading.long.Goals as goal

pub returns : goal.returns
unfolding word64 part
returns c =
    let len : c.args.at + 8 - c.args.at ≡ 8 = omega arith in
    rw len at c.from_le_bytes.ensures
