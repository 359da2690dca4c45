use Rattle.std.proofs.Common.{rules}
use Rattle.std.specs.List.{flat_map}
use Rattle.checkpoint.specs.Head.{four, eight}
use Rattle.checkpoint.proofs.Parts.{front_put}
use Rattle.checkpoint.proofs.head.put_front.Goals as goal

pub returns-clause-items : goal.returns-clause-items
returns-clause-items c =
    front_put c.args.into.now.items c.args.head.now.magic (four c.args.head.now.frames) (eight c.args.head.now.step)
    (flat_map four c.args.head.now.registers)
    c.extend_from_slice.new.self.items c.put_words.new.into.items c.put_double.new.into.items c.put_words-2.new.into.items
    c.in_ok-extend_from_slice.ensures.items c.in_ok-put_words.ensures.items c.in_ok-put_double.ensures.items
    c.in_ok-put_words-2.ensures.items

pub returns-clause-fit : goal.returns-clause-fit
returns-clause-fit c = record {
  magic = search rules;
  frames = c.put_words.ensures.fit 0;
  step = c.put_double.ensures.fit;
  registers = search rules;
  words = c.put_words-2.ensures.fit;
}
