use Rattle.std.proofs.Common.{◌≡◌, ◌+◌, ◌-◌, arith}
use Rattle.guest_ram.specs.Bytes.{part, word16}
use Rattle.guest_ram.proofs.words.half.Goals as goal

pub returns : goal.returns
unfolding word16 part
returns c =
    let len : c.args.at + 2 - c.args.at ≡ 2 = omega arith in
    rw len at c.from_le_bytes.ensures
