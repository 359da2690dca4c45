use Rattle.std.proofs.Common.{arith}
use Rattle.guest_ram.proofs.Bytes.{word32-is}
use Rattle.native_steps.specs.Mirrors.{shown}
use Rattle.wedge_step.specs.Standing.{ground}
use Rattle.wedge_step.proofs.sight.word.Goals as goal

pub returns : goal.returns
returns c =
    let l = shown (ground c.args.view.now.image.now c.args.view.now.frames) c.args.view.now.ram.now in
    let e = word32-is l c.args.at in
    let a = c.byte.ensures in
    let b = c.byte-2.ensures in
    let d = c.byte-3.ensures in
    let f = c.byte-4.ensures in
    omega (arith, e, a, b, d, f)
