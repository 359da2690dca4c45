use Rattle.std.proofs.Common.{◌+◌, ◌*◌, ◌≤◌, ◌<◌, length, inl, inr, sym, ◌∙◌, arith}
use Rattle.step_mem.proofs.Laid.{laid_byte, laid_byte_in}
use Rattle.step_mem.proofs.shown.read_laid.Goals as goal

pub returns-then-at-start : goal.returns-then-at-start
returns-then-at-start c =
    let a = c.args in
    c.read8.ensures
    ∙ sym (laid_byte a.bytes.now a.first a.frames a.ram.now a.at c.requires.frames
    (record { room = c.requires.laid; within = omega arith; beside = inl (omega arith) }))

pub returns-then-from-bytes : goal.returns-then-from-bytes
returns-then-from-bytes c =
    let a = c.args in
    let low : 4096 * a.first ≤ a.at = omega arith in
    let high : a.at < 4096 * a.first + length a.bytes.now = omega arith in
    sym (laid_byte_in a.bytes.now a.first a.frames a.ram.now a.at c.requires.frames c.requires.laid low high)

pub returns : goal.returns
returns c =
    let a = c.args in
    c.read8-2.ensures
    ∙ sym (laid_byte a.bytes.now a.first a.frames a.ram.now a.at c.requires.frames
    (record { room = c.requires.laid; within = omega arith; beside = inr (omega arith) }))
