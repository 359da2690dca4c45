-- What a source may say, by cases, and what each statement adds.
use Rattle.std.specs.Prelude.{◌≡◌, ℕ, ◌+◌, nat_lt, Bool, true, false, List, [], ◌∷◌, ◌++◌, length, Option, Some, None}
use Rattle.std.specs.List.{list_all, flat_map}
use Rattle.asm_lex.specs.Words.{Word}
use Rattle.asm_argument.specs.declared.terminal.Terminal.{Terminal}
use Rattle.asm_argument.specs.declared.terminal.Terminal.TheVariants as terminal
use Rattle.asm_argument.specs.declared.shape.Shape.{Shape}
use Rattle.asm_source.specs.declared.tree.Form.{Form}
use Rattle.asm_source.specs.declared.tree.Argument.{Argument}
use Rattle.asm_source.specs.declared.tree.Body.TheVariants as body
use Rattle.asm_statement.specs.declared.directive.Directive.{Directive}
use Rattle.asm_statement.specs.declared.directive.Directive.TheVariants as kind
use Rattle.asm_statement.specs.declared.directive.Head.{Head}
use Rattle.asm_statement.specs.declared.directive.Head.TheVariants as head
use Rattle.asm_statement.specs.ScopeView.{ScopeView}
use Rattle.asm_source.specs.Names.{holds, symbol_in}
use Rattle.asm_statement.specs.Scope.{has_room, pushed, noted, defined_too}
use Rattle.asm_argument.specs.Shapes.{is_operand}
use Rattle.asm_argument.specs.Grammar.{IsForm}
use Rattle.asm_argument.specs.Terminals.{terminal_of}
use Rattle.asm_statement.specs.Items.{is_part, item_of, resumed, sectioned, is_rep, is_passed}
use Rattle.asm_statement.specs.Directives.{shape_at, least, defines, is_dotted, is_section, directive_of}

-- ---- names

-- A symbol's name is seen. What it defines must not have been defined before, and there are at most 65,536 names.
pub data IsSeen : ScopeView → Bool → List ℕ → ScopeView → Type 0 where
  used : {sc : ScopeView} {n : List ℕ} → has_room sc n ≡ true → IsSeen sc false n (noted sc n)
  defined : {sc : ScopeView} {n : List ℕ} → holds sc.defined n ≡ false → has_room sc n ≡ true
      → IsSeen sc true n (defined_too (noted sc n) n)

-- the same for a name that may be there
abbrev pub Sees : ScopeView → Bool → Option (List ℕ) → ScopeView → Type 0
Sees sc def None sc2 = sc ≡ sc2
Sees sc def (Some n) sc2 = IsSeen sc def n sc2

-- ---- arguments

-- An operand may have a star.
pub data IsArgument : Shape → List Terminal → Argument → Type 0 where
  plain : {sh : Shape} {ss : List Terminal} {f : Form} → IsForm sh ss f → IsArgument sh ss (record { star = false; form = f })
  starred : {sh : Shape} {ss : List Terminal} {f : Form} → is_operand sh ≡ true → IsForm sh ss f
      → IsArgument sh (terminal.Star ∷ ss) (record { star = true; form = f })

-- The next argument of this directive or instruction, and the name that is seen in it.
pub record IsNext (h : Head) (sc : ScopeView) (before : List Argument) (ss : List Terminal) (a : Argument) (sc2 : ScopeView) : Type 0 where
  pub shape : Shape
  pub may : shape_at h (length before) ≡ Some shape
  pub is : IsArgument shape ss a
  pub sees : Sees sc (defines h (length before)) (symbol_in a.form) sc2

-- arguments with a comma after each
pub data Separated (h : Head) (sc : ScopeView) : List Terminal → List Argument → ScopeView → Type 0 where
  none : Separated h sc [] [] sc
  more : {ss ts : List Terminal} {before : List Argument} {a : Argument} {sc1 sc2 : ScopeView} → Separated h sc ss before sc1
      → IsNext h sc1 before ts a sc2
      → Separated h sc (ss ++ (ts ++ terminal.Comma ∷ [])) (before ++ a ∷ []) sc2

-- no arguments, or arguments with commas between them
pub data HasArguments (h : Head) (sc : ScopeView) : List Terminal → List Argument → ScopeView → Type 0 where
  none : HasArguments h sc [] [] sc
  some : {ss ts : List Terminal} {before : List Argument} {a : Argument} {sc1 sc2 : ScopeView} → Separated h sc ss before sc1
      → IsNext h sc1 before ts a sc2
      → HasArguments h sc (ss ++ ts) (before ++ a ∷ []) sc2

-- ---- statements

abbrev pub is_inner : Terminal → Bool
is_inner terminal.End = false
is_inner _ = true

-- what a skipped statement may go on with after its name: no colon first, which would make it a label
abbrev pub is_unlabelled : List Terminal → Bool
is_unlabelled (terminal.Colon ∷ ss) = false
is_unlabelled _ = true

abbrev pub is_nameless : Terminal → Bool
is_nameless (terminal.Name n) = false
is_nameless terminal.End = false
is_nameless _ = true

-- what may follow a section's name
abbrev pub are_flags : List Terminal → Bool
are_flags [] = true
are_flags (terminal.Comma ∷ ss) = list_all is_inner ss
are_flags (s ∷ ss) = false

-- the directives whose arguments are read
abbrev pub has_list : Directive → Bool
has_list kind.Section = false
has_list kind.Skipped = false
has_list _ = true

-- A label, or a directive or an instruction with its end, that begins in this line; but for a change to a named section.
pub data Statement : ScopeView → ℕ → List Terminal → ScopeView → Type 0 where
  empty : {sc : ScopeView} {line : ℕ} → Statement sc line (terminal.End ∷ []) sc
  label : {sc sc2 : ScopeView} {line : ℕ} {n : List ℕ} → sc.skipping ≡ false → IsSeen sc true n sc2
      → Statement sc line (terminal.Name n ∷ terminal.Colon ∷ []) (pushed sc2 (record { line = line; body = body.Label n }))
  instruction : {sc sc2 : ScopeView} {line : ℕ} {n : List ℕ} {ss : List Terminal} {args : List Argument} → is_passed sc n ≡ false
      → is_dotted n ≡ false → is_rep n ≡ false
      → HasArguments (head.Instruction false n) sc ss args sc2 → Statement sc line (terminal.Name n ∷ (ss ++ terminal.End ∷ []))
      (pushed sc2 (item_of line (head.Instruction false n) args))
  repeated : {sc sc2 : ScopeView} {line : ℕ} {r n : List ℕ} {ss : List Terminal} {args : List Argument} → is_passed sc r ≡ false
      → is_dotted r ≡ false → is_rep r ≡ true
      → HasArguments (head.Instruction true n) sc ss args sc2
      → Statement sc line (terminal.Name r ∷ terminal.Name n ∷ (ss ++ terminal.End ∷ []))
      (pushed sc2 (item_of line (head.Instruction true n) args))
  directive : {sc sc2 : ScopeView} {line : ℕ} {n : List ℕ} {k : Directive} {ss : List Terminal} {args : List Argument}
      → is_passed sc n ≡ false → is_dotted n ≡ true → directive_of n ≡ Some k → has_list k ≡ true
      → HasArguments (head.Directive k n) sc ss args sc2 → nat_lt (length args) (least (head.Directive k n)) ≡ false
      → Statement sc line (terminal.Name n ∷ (ss ++ terminal.End ∷ []))
      (resumed (pushed sc2 (item_of line (head.Directive k n) args)) (head.Directive k n))
  skipped_directive : {sc : ScopeView} {line : ℕ} {n : List ℕ} (ss : List Terminal) → is_passed sc n ≡ false → is_dotted n ≡ true
      → directive_of n ≡ Some kind.Skipped → is_unlabelled ss ≡ true → list_all is_inner ss ≡ true
      → Statement sc line (terminal.Name n ∷ (ss ++ terminal.End ∷ [])) sc
  -- in a section that isn't read
  skipped_label : {sc : ScopeView} {line : ℕ} {n : List ℕ} → sc.skipping ≡ true
      → Statement sc line (terminal.Name n ∷ terminal.Colon ∷ []) sc
  skipped : {sc : ScopeView} {line : ℕ} {n : List ℕ} (ss : List Terminal) → is_passed sc n ≡ true → is_unlabelled ss ≡ true
      → list_all is_inner ss ≡ true
      → Statement sc line (terminal.Name n ∷ (ss ++ terminal.End ∷ [])) sc
  nameless : {sc : ScopeView} {line : ℕ} {s : Terminal} (ss : List Terminal) → sc.skipping ≡ true → is_nameless s ≡ true
      → list_all is_inner ss ≡ true
      → Statement sc line (s ∷ (ss ++ terminal.End ∷ [])) sc

-- words as the grammar sees them
abbrev pub terminals : List Word → List Terminal
terminals [] = []
terminals (w ∷ ws) = terminal_of w.kind w.bytes ∷ terminals ws

-- the bytes of words
abbrev pub text_of : List Word → List ℕ
text_of ws = flat_map (λ (w : Word). w.bytes) ws

-- These words go on with a section's name from this place on: between them stands nothing.
abbrev pub Touch : ℕ → List Word → Type 0
Touch at [] = Unit {0}
Touch at (w ∷ ws) = (at ≡ w.at) × (is_part w.kind w.bytes ≡ true) × Touch (w.at + length w.bytes) ws

-- These words are one statement. The name of a section is what stands up to a comma, a blank or the statement's end.
pub data IsStatement : ScopeView → List Word → ScopeView → Type 0 where
  plain : {sc sc2 : ScopeView} (w : Word) (ws : List Word) → Statement sc w.line (terminals (w ∷ ws)) sc2 → IsStatement sc (w ∷ ws) sc2
  section : {sc : ScopeView} {n m : List ℕ} (w v : Word) (parts rest : List Word) (ss : List Terminal)
      → terminal_of w.kind w.bytes ≡ terminal.Name n → is_passed sc n ≡ false → is_dotted n ≡ true → directive_of n ≡ Some kind.Section
      → terminal_of v.kind v.bytes ≡ terminal.Name m → is_section m ≡ true → Touch (v.at + length v.bytes) parts → terminals rest ≡ ss
      ++ terminal.End ∷ [] → are_flags ss ≡ true
      → IsStatement sc (w ∷ v ∷ (parts ++ rest)) (sectioned sc w.line n (m ++ text_of parts))

-- These words are statements, which lead from what was said before to what is said then.
pub data Statements : ScopeView → List Word → ScopeView → Type 0 where
  none : {sc : ScopeView} → Statements sc [] sc
  more : {sc sc2 sc3 : ScopeView} {ws : List Word} (piece rest : List Word) → ws ≡ piece ++ rest → IsStatement sc piece sc2
      → Statements sc2 rest sc3
      → Statements sc ws sc3
