use Rattle.std.proofs.Common.{◌∙◌, sym}
use Rattle.asm_source.proofs.Keyed.{found_number, missing_number}
use Rattle.asm_source.proofs.names.Names.number_of.Goals as goal

pub returns-in-Some-clause-number : goal.returns-in-Some-clause-number
returns-in-Some-clause-number c =
    rw (← c.self.view_is) (found_number c.args.name.now c.self.inside.set.keys c.in-Some.number c.in-Some.ensures.index)

pub returns-in-None-clause-number : goal.returns-in-None-clause-number
returns-in-None-clause-number c =
    rw (← c.self.view_is) (c.len.ensures.len ∙ missing_number c.args.name.now c.self.inside.set.keys
    (sym c.get_index_of.ensures.index ∙ c.in-None.is))
