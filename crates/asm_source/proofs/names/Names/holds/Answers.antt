use Rattle.std.proofs.Common.{◌∙◌}
use Rattle.asm_source.proofs.Keyed.{any_key}
use Rattle.asm_source.proofs.names.Names.holds.Goals as goal

pub returns : goal.returns
returns c = rw (← c.self.view_is) (c.contains.ensures ∙ any_key c.args.name.now c.self.inside.set.keys)
