use Rattle.std.proofs.Common.{◌∙◌}
use Rattle.elf_link.proofs.Names.{holds_is}
use Rattle.elf_link.proofs.globals.Globals.holds.Goals as goal

pub returns : goal.returns
returns c = rw (← c.self.view_is) (c.contains_key.ensures ∙ holds_is c.args.name.now c.self.inside.map.entries)
