use Rattle.std.proofs.Common.{◌<◌, ◌∙◌, ap, length, drop, arith}
use Rattle.paging.proofs.Drops.{drop-with_byte}
use Rattle.paging.proofs.walking.set_flags.Goals as goal

pub returns-clause-above : goal.returns-clause-above
returns-clause-above c limit dir word =
    let first : c.args.dir_at < length c.args.ram.now = omega arith in
    let second : c.args.word_at < length c.write8.new.self = omega arith in
    ap (drop limit) c.write8-2.ensures.memory
    ∙ drop-with_byte limit c.write8.new.self c.args.word_at _ second word
    ∙ ap (drop limit) c.write8.ensures.memory
    ∙ drop-with_byte limit c.args.ram.now c.args.dir_at _ first dir
