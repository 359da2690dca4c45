use Rattle.std.proofs.Common.{arith}
use Rattle.guest_ram.specs.Bytes.{AreBytes}
use Rattle.checkpoint.proofs.Files.{never_lost, read_so}
use Rattle.checkpoint.proofs.reading.read_checkpoint.Goals as goal

pub unreachable-requires : goal.unreachable-requires
unreachable-requires c =
    let bytes : AreBytes c.args.bytes.now = λ k. omega (arith, c.type_inv.bytes k) in
    never_lost c.args.bytes.now c.front.result c.head_at-head.result c.fault_of.result c.restore.result bytes
    c.front.ensures c.head_at-head.ensures c.fault_of.ensures.place c.in_default.is c.restore.ensures c.in-None.is

pub returns-in-Ok-clause-spelled : goal.returns-in-Ok-clause-spelled
returns-in-Ok-clause-spelled c =
    let bytes : AreBytes c.args.bytes.now = λ k. omega (arith, c.type_inv.bytes k) in
    read_so c.args.bytes.now c.front.result c.head_at-head.result c.fault_of.result c.restore.result c.cpu_of.result
    c.in-Some-restore.board c.in-Ok.ram bytes
    c.front.ensures c.head_at-head.ensures c.fault_of.ensures.place c.in_default.is c.restore.ensures c.in-Some-restore.is
    c.cpu_of.ensures c.in-Ok.ensures
