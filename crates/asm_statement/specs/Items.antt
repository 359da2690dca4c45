-- What a statement adds, and which statements are passed over.
use Rattle.std.specs.Str.{bytes_eq}
use Rattle.std.specs.Prelude.{codes, ℕ, ◌==◌, Bool, false, not, ◌&&◌, ◌||◌, List, [], ◌∷◌}
use Rattle.std.specs.List.{list_all}
use Rattle.asm_lex.specs.declared.token.TokenKind.{TokenKind}
use Rattle.asm_lex.specs.declared.token.TokenKind.TheVariants as kind
use Rattle.asm_source.specs.declared.tree.Argument.{Argument}
use Rattle.asm_source.specs.declared.tree.Form.TheVariants as form
use Rattle.asm_source.specs.declared.tree.Body.TheVariants as body
use Rattle.asm_source.specs.declared.tree.SourceItem.{SourceItem}
use Rattle.asm_statement.specs.declared.directive.Directive.TheVariants as directive
use Rattle.asm_statement.specs.declared.directive.Head.{Head}
use Rattle.asm_statement.specs.declared.directive.Head.TheVariants as head
use Rattle.asm_statement.specs.Directives.{changes_section, is_unread}
use Rattle.asm_statement.specs.ScopeView.{ScopeView}
use Rattle.asm_statement.specs.Scope.{pushed}

unfoldable pub is_rep : List ℕ → Bool
is_rep n = bytes_eq n (codes "rep")

-- the statement of this name is skipped
abbrev pub is_passed : ScopeView → List ℕ → Bool
is_passed sc n = sc.skipping && not (changes_section n)

-- the item of a directive or an instruction with these arguments
abbrev pub item_of : ℕ → Head → List Argument → SourceItem
item_of line (head.Instruction r n) args = record { line = line; body = body.Instruction r n args }
item_of line (head.Directive k n) args = record { line = line; body = body.Directive n args }

-- a change of the section ends the skipping
abbrev pub resumed : ScopeView → Head → ScopeView
resumed sc (head.Directive directive.Plain n) = record sc { skipping = false }
resumed sc _ = sc

abbrev pub is_inside : ℕ → Bool
is_inside b = not ((b == 44) || (b == 32) || (b == 9))

-- A section's name goes on with each token that it touches and in which no comma and no blank is, up to the statement's end.
abbrev pub is_part : TokenKind → List ℕ → Bool
is_part kind.End bytes = false
is_part (kind.Mark m) bytes = not (m == 44)
is_part k bytes = list_all is_inside bytes

-- a change to a named section, which may be one that isn't read
abbrev pub sectioned : ScopeView → ℕ → List ℕ → List ℕ → ScopeView
sectioned sc line n m =
    record (pushed sc (record { line = line; body = body.Directive n (record { star = false; form = form.Text m } ∷ []) }))
    { skipping = is_unread m }
