-- The directives that define a name, and where none is left to define.
use Rattle.std.specs.Prelude.{Bool, true, false, not, length, nat_lt, Option, Some}
use Rattle.asm_source.specs.declared.names.TheConstants.{SYMBOL_LIMIT}
use Rattle.asm_statement.specs.declared.directive.Directive.{Directive}
use Rattle.asm_statement.specs.declared.directive.Directive.TheVariants as directive
use Rattle.asm_statement.specs.ScopeView.{ScopeView}

abbrev pub is_defining : Option Directive → Bool
is_defining (Some directive.Common) = true
is_defining (Some directive.LocalCommon) = true
is_defining _ = false

-- as many names as a source may have are defined
abbrev pub is_spent : ScopeView → Bool
is_spent s = not (nat_lt (length s.defined) SYMBOL_LIMIT)
