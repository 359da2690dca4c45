use Rattle.std.proofs.Common.{sym, ◌∙◌}
use Rattle.step_mem.proofs.Laid.{shown_word}
use Rattle.step_mem.proofs.shown.read_word.Goals as goal

pub returns : goal.returns
returns c =
    c.read32.ensures
    ∙ sym (shown_word c.args.guard.now.text.now c.args.guard.now.own c.args.frames c.args.ram.now c.args.at c.requires.frames
    c.requires.laid c.requires.within c.requires.one c.requires.apart)
