use Rattle.ia32_rows.proofs.TableLaws.{not_empty, at_most_eleven}
use Rattle.ia32_rows.proofs.laws.lengths.Goals as goal

pub returns-clause-some : goal.returns-clause-some
returns-clause-some c = not_empty

pub returns-clause-most : goal.returns-clause-most
returns-clause-most c = at_most_eleven
