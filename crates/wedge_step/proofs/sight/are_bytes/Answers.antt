use Rattle.std.proofs.Common.{subst}
use Rattle.guest_ram.specs.Bytes.{AreBytes}
use Rattle.wedge_step.specs.Standing.{ground}
use Rattle.wedge_step.proofs.Sights.{shown_fit, shown_long}
use Rattle.wedge_step.proofs.sight.are_bytes.Goals as goal

pub returns-clause-bytes : goal.returns-clause-bytes
returns-clause-bytes c =
    let a = c.args in
    shown_fit (ground a.image.now a.frames) a.ram.now c.requires.frames c.requires.laid c.len-len.ensures.bytes
    (subst AreBytes c.text.ensures.text c.count-count.ensures.bytes)

pub returns-clause-length : goal.returns-clause-length
returns-clause-length c =
    let a = c.args in
    shown_long (ground a.image.now a.frames) a.ram.now c.requires.frames c.requires.laid
