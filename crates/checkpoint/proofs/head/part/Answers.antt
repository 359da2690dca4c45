use Rattle.std.proofs.Common.{◌≡◌, ◌+◌, ◌-◌, take, drop, ap, ◌∙◌, arith}
use Rattle.guest_ram.specs.Bytes.{part}
use Rattle.checkpoint.proofs.head.part.Goals as goal

pub returns : goal.returns
unfolding part
returns g c =
    let many : c.args.at + g.row.N - c.args.at ≡ g.row.N = omega arith in
    c.copy_from_slice.ensures.after ∙ ap (λ n. take n (drop c.args.at c.args.bytes.now)) many
