use Rattle.std.proofs.Common.{ℕ, ◌+◌, ◌*◌, ◌%◌, ◌<◌, length, ap, ◌∙◌, arith}
use Rattle.guest_ram.specs.Bytes.{byte}
use Rattle.native_steps.specs.Looking.{marked}
use Rattle.wedge_step.specs.Looked.{bytes_of, ground_of}
use Rattle.wedge_step.specs.Clashing.{marks_of}
use Rattle.wedge_step.proofs.Sights.{marked_long, shown_long, part_none, part_next}
use Rattle.wedge_step.proofs.looking.read_marked.Goals as goal

pub loop-i-init : goal.loop-i-init
loop-i-init c = (omega arith, part_none _ c.args.into.now.items _)

pub loop-i-preserved : goal.loop-i-preserved
loop-i-preserved c =
    let a = c.args in
    let l = bytes_of a.view.now in
    let m = marked (marked l (marks_of a.earlier)) (marks_of a.seen.marks) in
    let p : ℕ = 4096 * a.seen.frame + a.at % 4096 in
    let i = c.loop-i.i in
    let long = shown_long (ground_of a.view.now) a.view.now.ram.now c.args.view.now.room c.args.view.now.laid in
    let one = marked_long l (marks_of a.earlier) (4096 * a.view.now.frames) long c.requires.earlier in
    let two = marked_long (marked l (marks_of a.earlier)) (marks_of a.seen.marks) (4096 * a.view.now.frames) one c.requires.marks in
    let f = c.requires.frame in
    let o = c.requires.one in
    let below : i < a.len = omega arith in
    let lt : p + i < length m = omega (arith, two, f, o, below) in
    let inv = c.loop-i.invariant in
    let n = c.push.ensures.len in
    let k = inv.0 in (
      omega (arith, n, k),
      part_next m a.into.now.items c.loop-i.into.items _ p i _ lt inv.1
          (c.byte_seen.ensures ∙ ap (byte m) (omega arith)) c.push.ensures.items,
    )
