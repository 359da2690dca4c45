use Rattle.std.proofs.Common.{◌≡◌, ◌+◌, ◌-◌, arith}
use Rattle.guest_ram.specs.Bytes.{part, word32}
use Rattle.guest_ram.proofs.words.word.Goals as goal

pub returns : goal.returns
unfolding word32 part
returns c =
    let len : c.args.at + 4 - c.args.at ≡ 4 = omega arith in
    rw len at c.from_le_bytes.ensures
