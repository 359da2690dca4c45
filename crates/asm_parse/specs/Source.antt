-- The source that a text is.
use Rattle.std.specs.Prelude.{◌≡◌, ℕ, ◌≤◌, List, length}
use Rattle.asm_lex.specs.declared.lexing.TheConstants.{LIMIT}
use Rattle.asm_source.specs.declared.tree.SourceItem.{SourceItem}
use Rattle.asm_statement.specs.ScopeView.{ScopeView}
use Rattle.asm_statement.specs.Scope.{fresh}
use Rattle.asm_lex.specs.Words.{Word}
use Rattle.asm_lex.specs.Source.{LexedSource}
use Rattle.asm_parse.specs.Statements.{Statements}

-- The text has these words, and the statements that they make give these items.
abbrev pub Says : List ℕ → List SourceItem → Type 0
Says text items = (ws : List Word) × (sc : ScopeView) × LexedSource text ws × Statements fresh ws sc × (sc.items ≡ items)

-- The text isn't too long, and says these items.
abbrev pub SourceAs : List ℕ → List SourceItem → Type 0
SourceAs text items = (length text ≤ LIMIT) × Says text items
