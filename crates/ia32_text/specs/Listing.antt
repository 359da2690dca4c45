-- Texts of instructions as lines of a source.
use Rattle.std.specs.Prelude.{◌≡◌, ℕ, ◌+◌, ◌≤◌, false, List, [], ◌∷◌, ◌++◌, length, Option, Some, None}
use Rattle.ia32_types.specs.declared.insn.Insn.{Insn}
use Rattle.ia32_rows.specs.Spells.{Spells}
use Rattle.ia32_encode.specs.declared.choose.Wide.{Wide}
use Rattle.asm_lex.specs.Words.{Word}
use Rattle.asm_lex.specs.Source.{Lexed}
use Rattle.asm_source.specs.declared.names.TheConstants.{SYMBOL_LIMIT}
use Rattle.asm_source.specs.declared.tree.Argument.{Argument}
use Rattle.asm_source.specs.declared.tree.Body.TheVariants as body
use Rattle.asm_source.specs.declared.tree.SourceItem.{SourceItem}
use Rattle.asm_source.specs.Names.{symbol_in}
use Rattle.asm_statement.specs.ScopeView.{ScopeView}
use Rattle.asm_statement.specs.Scope.{pushed, noted}
use Rattle.asm_parse.specs.Statements.{IsStatement}
use Rattle.ia32_text.specs.declared.style.Style.{Style}
use Rattle.ia32_text.specs.declared.style.Target.TheVariants as to
use Rattle.ia32_text.specs.Statement.{Statement, statement_with}
use Rattle.ia32_text.specs.Text.{text_of}

-- the target of a direct branch by its label, and these fields of four bytes by that of the text's first byte
abbrev pub by_labels : Wide → Style
by_labels named = record { target = to.Label; named = named }

-- the statement of an instruction that bytes spell, with numbers by labels
pub record IsSpelledStatement (s : Statement) : Type 0 where
  pub bytes : List ℕ
  pub insn : Insn
  pub named : Wide
  pub at : ℕ
  pub len : ℕ
  pub spells : Spells bytes insn
  pub same : s ≡ statement_with (by_labels named) insn at len

-- ---- a line

-- the item that the statement is in this line
abbrev pub item_in : ℕ → Statement → SourceItem
item_in line s = record { line = line; body = body.Instruction s.rep s.name s.arguments }

-- what is said after a symbol that may be there
abbrev pub seen : ScopeView → Option (List ℕ) → ScopeView
seen sc None = sc
seen sc (Some n) = noted sc n

-- after the symbols of arguments
abbrev pub seen_in : ScopeView → List Argument → ScopeView
seen_in sc [] = sc
seen_in sc (a ∷ arguments) = seen_in (seen sc (symbol_in a.form)) arguments

-- after the statement
abbrev pub said : ScopeView → ℕ → Statement → ScopeView
said sc line s = pushed (seen_in sc s.arguments) (item_in line s)

-- Whatever follows, the text with its newline is these words; and after whatever is read before it, with room for its symbols, they are
-- the statement.
pub record IsLine (s : Statement) (place line : ℕ) : Type 0 where
  pub words : List Word
  pub lexed : (rest : List ℕ) (more : List Word) → Lexed (place + length (text_of s) + 1) (line + 1) rest more
      → Lexed place line (text_of s ++ (10 ∷ rest)) (words ++ more)
  pub read : (sc : ScopeView) → sc.skipping ≡ false → length (said sc line s).names ≤ SYMBOL_LIMIT → IsStatement sc words (said sc line s)

-- ---- a source

-- statements as text, a line each
abbrev pub listing : List Statement → List ℕ
listing [] = []
listing (s ∷ statements) = text_of s ++ (10 ∷ listing statements)

-- their items from this line on
abbrev pub items_from : ℕ → List Statement → List SourceItem
items_from line [] = []
items_from line (s ∷ statements) = item_in line s ∷ items_from (line + 1) statements
