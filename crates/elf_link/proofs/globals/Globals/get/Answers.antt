use Rattle.std.proofs.Common.{◌∙◌}
use Rattle.elf_link.proofs.Names.{found_is}
use Rattle.elf_link.proofs.globals.Globals.get.Goals as goal

pub returns : goal.returns
returns c = rw (← c.self.view_is) (c.copied.ensures ∙ (c.get.ensures.value ∙ found_is c.args.name.now c.self.inside.map.entries))
