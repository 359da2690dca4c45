use Rattle.std.proofs.Common.{◌≡◌, take, drop}
use Rattle.guest_ram.specs.Bytes.{part}
use Rattle.checkpoint.specs.Fits.{first_change}
use Rattle.checkpoint.proofs.fitting.first_change.Given as goal

abbrev pub invariant-loop-i : goal.invariant-loop-i
invariant-loop-i l =
    (first_change l.ram l.i (drop l.i l.text) ≡ first_change l.ram 0 l.text) × (part l.ram 0x100000 l.i ≡ take l.i l.text)
