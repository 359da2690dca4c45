-- What the statements before say, and how it grows.
use Rattle.std.specs.Prelude.{ℕ, Bool, false, ◌||◌, nat_lt, List, [], ◌∷◌, ◌++◌, length}
use Rattle.asm_source.specs.declared.names.TheConstants.{SYMBOL_LIMIT}
use Rattle.asm_source.specs.declared.tree.SourceItem.{SourceItem}
use Rattle.asm_source.specs.Names.{holds, added}
use Rattle.asm_statement.specs.ScopeView.{ScopeView}

abbrev pub fresh : ScopeView
fresh = record { items = []; names = []; defined = []; skipping = false }

-- no more different names than a source may have
abbrev pub has_room : ScopeView → List ℕ → Bool
has_room s name = holds s.names name || nat_lt (length s.names) SYMBOL_LIMIT

abbrev pub pushed : ScopeView → SourceItem → ScopeView
pushed s item = record s { items = s.items ++ item ∷ [] }

abbrev pub noted : ScopeView → List ℕ → ScopeView
noted s name = record s { names = added s.names name }

abbrev pub defined_too : ScopeView → List ℕ → ScopeView
defined_too s name = record s { defined = added s.defined name }
