use Rattle.afterburner.proofs.SymbolNumbers.{stands_at}
use Rattle.afterburner.proofs.laws.relocations_name_their_symbols.Goals as goal

pub returns : goal.returns
returns c = stands_at
