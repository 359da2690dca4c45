use Rattle.std.proofs.Common.{◌&&◌, not}
use Rattle.guest_ram.specs.Bytes.{byte}
use Rattle.paging.specs.Fresh.{has}
use Rattle.native_steps.specs.Looking.{is_front, marked}
use Rattle.wedge_step.specs.Clashing.{looked, marks_of, seen_of}
use Rattle.wedge_step.specs.Looked.{bytes_of}
use Rattle.wedge_step.proofs.LookedMarks.{any_first, any_second}
use Rattle.wedge_step.proofs.looking.marks_front.Goals as goal

pub returns-then-marks_byte : goal.returns-then-marks_byte
returns-then-marks_byte c = λ set.
    let a = c.args in
    let ram = bytes_of a.view.now in
    any_first (λ at. is_front (looked a.cpu.now ram set) (seen_of a.first) at
    && not (has (byte (marked ram (marks_of a.first.marks)) at) 32)) a.marks c.in-Some.marks c.marks_byte.result c.in-Some.is
    (c.marks_byte.ensures set) c.if-marks_byte.true

pub returns-else-marks_byte : goal.returns-else-marks_byte
returns-else-marks_byte c = λ set.
    let a = c.args in
    let ram = bytes_of a.view.now in
    any_second (λ at. is_front (looked a.cpu.now ram set) (seen_of a.first) at
    && not (has (byte (marked ram (marks_of a.first.marks)) at) 32)) a.marks c.in-Some.marks c.marks_byte.result _ c.in-Some.is
    (c.marks_byte.ensures set) c.if-marks_byte.false
    (c.marks_byte-else-marks_byte.ensures set)
