use Rattle.std.proofs.Common.{◌<◌, length, drop, ap, ◌*◌, ◌∙◌, arith}
use Rattle.paging.proofs.Drops.{drop-with_byte}
use Rattle.step_mem.specs.Shown.{shown, hidden}
use Rattle.step_mem.proofs.Laid.{shown_with_byte, hidden_with_byte}
use Rattle.step_mem.proofs.shown.write.Goals as goal

pub returns-clause-memory : goal.returns-clause-memory
returns-clause-memory c =
    ap (shown c.args.guard.now c.args.frames) c.write8.ensures.memory
    ∙ shown_with_byte c.args.guard.now.text.now c.args.guard.now.own c.args.frames c.args.ram.now c.args.at c.args.v c.requires.frames
    c.requires.laid c.requires.within c.requires.apart

pub returns-clause-above : goal.returns-clause-above
returns-clause-above c =
    let inside : c.args.at < length c.args.ram.now = omega arith in
    ap (drop (4096 * c.args.frames)) c.write8.ensures.memory
    ∙ drop-with_byte (4096 * c.args.frames) c.args.ram.now c.args.at c.args.v inside c.requires.within

pub returns-clause-hidden : goal.returns-clause-hidden
returns-clause-hidden c =
    ap (hidden c.args.guard.now c.args.frames) c.write8.ensures.memory
    ∙ hidden_with_byte c.args.guard.now.text.now c.args.guard.now.own c.args.frames c.args.ram.now c.args.at c.args.v c.requires.frames
    c.requires.laid c.requires.within c.requires.apart
