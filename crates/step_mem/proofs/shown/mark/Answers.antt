use Rattle.std.proofs.Common.{◌<◌, ◌*◌, ap, ◌∙◌, arith}
use Rattle.step_mem.specs.Shown.{shown, hidden}
use Rattle.step_mem.proofs.Laid.{shown_flagged, hidden_flagged}
use Rattle.step_mem.proofs.shown.mark.Goals as goal

pub returns-clause-flags : goal.returns-clause-flags
returns-clause-flags c =
    let dir : c.args.dir_at < 4096 * c.args.frames = omega arith in
    let word : c.args.word_at < 4096 * c.args.frames = omega arith in
    ap (shown c.args.guard.now c.args.frames) c.set_flags.ensures.flags
    ∙ shown_flagged c.args.guard.now.text.now c.args.guard.now.own c.args.frames c.args.ram.now c.args.dir_at c.args.word_at c.args.write
    c.requires.frames c.requires.laid dir word c.requires.dir_apart c.requires.word_apart

pub returns-clause-hidden : goal.returns-clause-hidden
returns-clause-hidden c =
    let dir : c.args.dir_at < 4096 * c.args.frames = omega arith in
    let word : c.args.word_at < 4096 * c.args.frames = omega arith in
    ap (hidden c.args.guard.now c.args.frames) c.set_flags.ensures.flags
    ∙ hidden_flagged c.args.guard.now.text.now c.args.guard.now.own c.args.frames c.args.ram.now c.args.dir_at c.args.word_at c.args.write
    c.requires.frames c.requires.laid dir word c.requires.dir_apart c.requires.word_apart
