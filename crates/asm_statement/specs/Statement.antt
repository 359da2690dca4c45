-- One statement, terminal by terminal.
use Rattle.std.specs.Prelude.{is_none, nat_lt, ◌≡◌, ℕ, ◌==◌, Bool, true, false, not, ◌&&◌, ◌||◌, List, [], ◌∷◌, ◌++◌, length, Option, Some, None, unwrap_or, Result, Ok, Err, if◌then◌else◌}
use Rattle.std.specs.Bool.{then_some}
use Rattle.asm_lex.specs.declared.fault.SourceCause.{SourceCause}
use Rattle.asm_lex.specs.declared.fault.SourceCause.TheVariants as cause
use Rattle.asm_argument.specs.declared.terminal.Terminal.{Terminal}
use Rattle.asm_argument.specs.declared.terminal.Terminal.TheVariants as terminal
use Rattle.asm_argument.specs.declared.shape.Shape.{Shape}
use Rattle.asm_argument.specs.declared.operand.Partial.{Partial}
use Rattle.asm_argument.specs.declared.operand.Partial.TheVariants as partial
use Rattle.asm_source.specs.declared.tree.Argument.{Argument}
use Rattle.asm_source.specs.declared.tree.Form.{Form}
use Rattle.asm_source.specs.declared.tree.Body.TheVariants as body
use Rattle.asm_statement.specs.declared.directive.Directive.{Directive}
use Rattle.asm_statement.specs.declared.directive.Directive.TheVariants as directive
use Rattle.asm_statement.specs.declared.directive.Head.{Head}
use Rattle.asm_statement.specs.declared.directive.Head.TheVariants as head
use Rattle.asm_statement.specs.declared.state.Open.{Open}
use Rattle.asm_statement.specs.declared.state.StatementState.{StatementState}
use Rattle.asm_statement.specs.declared.state.StatementState.TheVariants as state
use Rattle.asm_statement.specs.declared.fault.StepFault.{StepFault}
use Rattle.asm_statement.specs.declared.fault.StepFault.TheVariants as step_fault
use Rattle.asm_statement.specs.Directives.{shape_at, least, is_instruction, defines, directive_of, is_dotted, is_section}
use Rattle.asm_statement.specs.ScopeView.{ScopeView}
use Rattle.asm_source.specs.Names.{holds}
use Rattle.asm_statement.specs.Definers.{is_defining, is_spent}
use Rattle.asm_statement.specs.Scope.{has_room, fresh, pushed, noted, defined_too}
use Rattle.asm_argument.specs.Operand.{operand_step, begun, finished, is_finished, is_nothing, is_unbegun, awaits_register, name_in}
use Rattle.asm_argument.specs.Shapes.{is_register}
use Rattle.asm_statement.specs.Items.{item_of, resumed, sectioned, is_rep, is_passed}
use Rattle.asm_statement.specs.Openings.{misplaced}

-- a fault in an argument of a directive
abbrev pub argument_cause : Bool → SourceCause → SourceCause → SourceCause
argument_cause nothing other cause.BadNumber = cause.BadNumber
argument_cause nothing other cause.BadArgument = cause.BadArgument
argument_cause nothing other c = if nothing then other else cause.BadOperand

abbrev pub cause_in : Head → Bool → SourceCause → SourceCause → SourceCause
cause_in h nothing other c = if is_instruction h then c else argument_cause nothing other c

-- a name is seen, and maybe defined
abbrev pub noting : ScopeView → Bool → List ℕ → Result ScopeView SourceCause
noting sc def n =
    if def && holds sc.defined n then Err cause.DoubledLabel
    else if not (has_room sc n) then Err cause.TooManySymbols
    else if def then Ok (defined_too (noted sc n) n)
    else Ok (noted sc n)

abbrev pub Notes : ScopeView → Result (Unit {0}) StepFault → Result ScopeView SourceCause → Type 0
Notes new (Ok u) r = r ≡ Ok new
Notes new (Err (step_fault.Cause c)) r = r ≡ Err c
Notes new (Err step_fault.Memory) r = Unit {0}

abbrev pub Does : ScopeView → Result StatementState StepFault → Result (ScopeView × StatementState) SourceCause → Type 0
Does new (Ok st) r = r ≡ Ok (new, st)
Does new (Err (step_fault.Cause c)) r = r ≡ Err c
Does new (Err step_fault.Memory) r = Unit {0}

abbrev pub arguments_of : ScopeView → Open → ScopeView × StatementState
arguments_of sc o = (sc, state.Arguments o)

abbrev pub after_noting : Open → Result ScopeView SourceCause → Result (ScopeView × StatementState) SourceCause
after_noting o (Ok sc) = Ok (arguments_of sc o)
after_noting o (Err c) = Err c

abbrev pub with_name : ScopeView → Open → Option (List ℕ) → Result (ScopeView × StatementState) SourceCause
with_name sc o None = Ok (arguments_of sc o)
with_name sc o (Some n) = after_noting o (noting sc (defines o.head (length o.arguments)) n)

abbrev pub after_step : ScopeView → Open → Terminal → Result Partial SourceCause → Result (ScopeView × StatementState) SourceCause
after_step sc o s (Err c) = Err (cause_in o.head (is_unbegun o.so_far) (misplaced s) c)
after_step sc o s (Ok q) = with_name sc (record o { so_far = q }) (name_in q)

abbrev pub at_shape : ScopeView → Open → Terminal → Option Shape → Result (ScopeView × StatementState) SourceCause
at_shape sc o s None = Err (misplaced s)
at_shape sc o s (Some sh) = after_step sc o s (operand_step sh o.so_far s)

-- the next terminal of an argument
abbrev pub within : ScopeView → Open → Terminal → Result (ScopeView × StatementState) SourceCause
within sc o s = at_shape sc o s (shape_at o.head (length o.arguments))

-- the argument with its next terminal, and what is noted of it
abbrev pub grown_as : Open → Terminal → Result Partial SourceCause → Result Open SourceCause
grown_as o s (Err c) = Err (cause_in o.head (is_unbegun o.so_far) (misplaced s) c)
grown_as o s (Ok q) = Ok (record o { so_far = q })

abbrev pub grown_at : Open → Terminal → Option Shape → Result Open SourceCause
grown_at o s None = Err (misplaced s)
grown_at o s (Some sh) = grown_as o s (operand_step sh o.so_far s)

abbrev pub grown : Open → Terminal → Result Open SourceCause
grown o s = grown_at o s (shape_at o.head (length o.arguments))

abbrev pub name_noted_as : ScopeView → Open → Option (List ℕ) → Result ScopeView SourceCause
name_noted_as sc o None = Ok sc
name_noted_as sc o (Some n) = noting sc (defines o.head (length o.arguments)) n

abbrev pub name_noted : ScopeView → Open → Result ScopeView SourceCause
name_noted sc o = name_noted_as sc o (name_in o.so_far)

-- the argument that has been read, where it may end here
abbrev pub ended_as : Open → Option Form → Option (ℕ × Head × List Argument × Argument)
ended_as o None = None
ended_as o (Some f) = Some (o.line, o.head, o.arguments, record { star = o.star; form = f })

abbrev pub ended : Open → Option (ℕ × Head × List Argument × Argument)
ended o = ended_as o (finished o.so_far)

abbrev pub Makes : Result StatementState StepFault → Result StatementState SourceCause → Type 0
Makes (Ok st) r = r ≡ Ok st
Makes (Err (step_fault.Cause c)) r = r ≡ Err c
Makes (Err step_fault.Memory) r = Unit {0}

abbrev pub nothing_yet : ℕ → Head → Open
nothing_yet line h = record { line = line; head = h; arguments = []; star = false; so_far = partial.Nothing }

-- an argument of this shape after these
abbrev pub argument_of : ℕ → Head → List Argument → Option Shape → Result StatementState SourceCause
argument_of line h done None = Err cause.BadArgument
argument_of line h done (Some sh) =
    Ok (state.Arguments (record { line = line; head = h; arguments = done; star = false; so_far = begun sh }))

-- a comma after a whole argument
abbrev pub next_argument : ℕ → Head → List Argument → Argument → Result StatementState SourceCause
next_argument line h done last = argument_of line h (done ++ last ∷ []) (shape_at h (length (done ++ last ∷ [])))

abbrev pub complete : ScopeView → ℕ → Head → List Argument → Result (ScopeView × StatementState) SourceCause
complete sc line h args =
    if nat_lt (length args) (least h) then Err cause.BadArgument else Ok (resumed (pushed sc (item_of line h args)) h, state.Start)

abbrev pub complete_with : ScopeView → ℕ → Head → List Argument → Argument → Result (ScopeView × StatementState) SourceCause
complete_with sc line h done last = complete sc line h (done ++ last ∷ [])

abbrev pub is_bare : Open → Bool
is_bare o = is_nothing o.so_far && not o.star && (length o.arguments == 0)

abbrev pub takes_star : Open → Bool
takes_star o = is_nothing o.so_far && not o.star && is_instruction o.head

abbrev pub with_scope : ScopeView → Result StatementState SourceCause → Result (ScopeView × StatementState) SourceCause
with_scope sc (Ok st) = Ok (sc, st)
with_scope sc (Err c) = Err c

abbrev pub comma_behind : ScopeView → Option (ℕ × Head × List Argument × Argument) → Result (ScopeView × StatementState) SourceCause
comma_behind sc None = Err cause.BadOperand
comma_behind sc (Some e) = with_scope sc (next_argument e.0 e.1 e.2 e.3)

abbrev pub end_behind : ScopeView → Option (ℕ × Head × List Argument × Argument) → Result (ScopeView × StatementState) SourceCause
end_behind sc None = Err cause.BadOperand
end_behind sc (Some e) = complete_with sc e.0 e.1 e.2 e.3

-- a terminal of a directive or an instruction
abbrev pub argument_step : ScopeView → Open → Terminal → Result (ScopeView × StatementState) SourceCause
argument_step sc o terminal.Comma = if is_finished o.so_far then comma_behind sc (ended o) else within sc o terminal.Comma
argument_step sc o terminal.End =
    if is_bare o then complete sc o.line o.head o.arguments
    else if is_finished o.so_far then end_behind sc (ended o)
    else within sc o terminal.End
argument_step sc o terminal.Star = if takes_star o then Ok (sc, state.Arguments (record o { star = true })) else within sc o terminal.Star
argument_step sc o s = within sc o s

-- the rest of a statement that isn't read
abbrev pub skip : Terminal → StatementState
skip terminal.End = state.Start
skip _ = state.Skip

abbrev pub labelled : ℕ → List ℕ → Result ScopeView SourceCause → Result (ScopeView × StatementState) SourceCause
labelled line n (Ok sc) = Ok (pushed sc (record { line = line; body = body.Label n }), state.Start)
labelled line n (Err c) = Err c

abbrev pub label : ScopeView → ℕ → List ℕ → Result (ScopeView × StatementState) SourceCause
label sc line n = labelled line n (noting sc true n)

-- a terminal after `rep`
abbrev pub rep_step : ScopeView → ℕ → Terminal → Result (ScopeView × StatementState) SourceCause
rep_step sc line (terminal.Name m) = Ok (sc, state.Arguments (nothing_yet line (head.Instruction true m)))
rep_step sc line terminal.Big = Err cause.BadNumber
rep_step sc line _ = Err cause.BadOperand

-- a terminal after an instruction's name
abbrev pub instruction_step : ScopeView → ℕ → List ℕ → Terminal → Result (ScopeView × StatementState) SourceCause
instruction_step sc line n s = if is_rep n then rep_step sc line s else argument_step sc (nothing_yet line (head.Instruction false n)) s

abbrev pub section_name : ℕ → List ℕ → Terminal → Result StatementState SourceCause
section_name line n (terminal.Name m) = if is_section m then Ok (state.Sectioned line n m 0) else Err cause.BadArgument
section_name line n s = Err (misplaced s)

abbrev pub of_directive : Option Directive → ScopeView → ℕ → List ℕ → Terminal → Result (ScopeView × StatementState) SourceCause
of_directive None sc line n s = Err cause.UnknownDirective
of_directive (Some directive.Skipped) sc line n s = Ok (sc, skip s)
of_directive (Some directive.Section) sc line n s = with_scope sc (section_name line n s)
of_directive (Some k) sc line n s = argument_step sc (nothing_yet line (head.Directive k n)) s

-- a terminal after a directive's name
abbrev pub directive_step : ScopeView → ℕ → List ℕ → Terminal → Result (ScopeView × StatementState) SourceCause
directive_step sc line n s = of_directive (directive_of n) sc line n s

abbrev pub section : ScopeView → ℕ → List ℕ → List ℕ → Result (ScopeView × StatementState) SourceCause
section sc line n m = Ok (sectioned sc line n m, state.Start)

abbrev pub unless_skipping : Bool → SourceCause → Result StatementState SourceCause
unless_skipping true c = Ok state.Skip
unless_skipping false c = Err c

abbrev pub start_step : ScopeView → ℕ → Terminal → Result StatementState SourceCause
start_step sc line terminal.End = Ok state.Start
start_step sc line (terminal.Name n) = Ok (state.Named line n)
start_step sc line terminal.Big = unless_skipping sc.skipping cause.BadNumber
start_step sc line _ = unless_skipping sc.skipping cause.BadOperand

-- a colon after a name
abbrev pub colon_behind : ScopeView → ℕ → List ℕ → Result (ScopeView × StatementState) SourceCause
colon_behind sc begun n = if sc.skipping then Ok (sc, state.Start) else label sc begun n

-- another terminal after a name
abbrev pub other_behind : ScopeView → ℕ → List ℕ → Terminal → Result (ScopeView × StatementState) SourceCause
other_behind sc begun n s =
    if is_passed sc n then Ok (sc, skip s)
    else if is_dotted n then directive_step sc begun n s
    else instruction_step sc begun n s

abbrev pub named_step : ScopeView → ℕ → List ℕ → Terminal → Result (ScopeView × StatementState) SourceCause
named_step sc begun n terminal.Colon = colon_behind sc begun n
named_step sc begun n s = other_behind sc begun n s

-- a terminal after a section's name
abbrev pub sectioned_step : ScopeView → ℕ → List ℕ → List ℕ → Terminal → Result (ScopeView × StatementState) SourceCause
sectioned_step sc begun n m terminal.End = section sc begun n m
sectioned_step sc begun n m terminal.Comma = Ok (sc, state.Flags begun n m)
sectioned_step sc begun n m terminal.Big = Err cause.BadNumber
sectioned_step sc begun n m _ = Err cause.BadOperand

-- a terminal after a section's name and a comma
abbrev pub flags_step : ScopeView → ℕ → List ℕ → List ℕ → Terminal → Result (ScopeView × StatementState) SourceCause
flags_step sc begun n m terminal.End = section sc begun n m
flags_step sc begun n m _ = Ok (sc, state.Flags begun n m)

-- what stands after a `%` that may not stand there: a register, or the `%` has that cause of its own
abbrev pub stray_cause : SourceCause → Terminal → SourceCause
stray_cause c (terminal.Name n) = if is_register n then c else cause.BadRegister
stray_cause c _ = cause.BadRegister

-- the next terminal of a source
abbrev pub step : ScopeView → StatementState → ℕ → Terminal → Result (ScopeView × StatementState) SourceCause
step sc state.Start line s = with_scope sc (start_step sc line s)
step sc (state.Named begun n) line s = named_step sc begun n s
step sc state.Skip line s = Ok (sc, skip s)
step sc (state.Sectioned begun n m e) line s = sectioned_step sc begun n m s
step sc (state.Flags begun n m) line s = flags_step sc begun n m s
step sc (state.Arguments o) line s = argument_step sc o s
step sc (state.Stray l c) line s = Err (stray_cause c s)

-- ---- what is dead already

-- a name that may begin no directive, and that only a colon can make a label
abbrev pub is_unknown : ScopeView → List ℕ → Bool
is_unknown sc n = is_dotted n && not sc.skipping && is_none (directive_of n)

-- a label may not have this name
abbrev pub is_taken : ScopeView → List ℕ → Bool
is_taken sc n = holds sc.defined n || not (has_room sc n)

-- a directive that defines a name, where none is left to define
abbrev pub lacks_names : ScopeView → List ℕ → Bool
lacks_names sc n = is_dotted n && not sc.skipping && is_defining (directive_of n) && is_spent sc

-- the line of a token with which no text goes on, where one has been read
abbrev pub doom : ScopeView → StatementState → Option ℕ
doom sc (state.Stray l c) = Some l
doom sc (state.Named b n) = then_some ((is_unknown sc n && is_taken sc n) || lacks_names sc n) b
doom sc _ = None

-- the line of a fault in this line
abbrev pub fault_line : ScopeView → StatementState → ℕ → ℕ
fault_line sc st line = unwrap_or (doom sc st) line

-- whether a fault at a `%` is that it stands there
abbrev pub is_place : SourceCause → Bool
is_place cause.BadOperand = true
is_place cause.BadArgument = true
is_place _ = false

-- a fault at a `%`: its cause rests on what follows, and what was said is of no more use
abbrev pub stray : ℕ → SourceCause → Result (ScopeView × StatementState) SourceCause
stray line c = if is_place c then Ok (fresh, state.Stray line c) else Err c

abbrev pub strayed : ℕ → Result (ScopeView × StatementState) SourceCause → Result (ScopeView × StatementState) SourceCause
strayed line (Ok x) = Ok x
strayed line (Err c) = stray line c

-- the next terminal, where a `%` may be one that may not stand there
abbrev pub next_step : ScopeView → StatementState → ℕ → Terminal → Result (ScopeView × StatementState) SourceCause
next_step sc st line terminal.Percent = strayed (fault_line sc st line) (step sc st line terminal.Percent)
next_step sc st line s = step sc st line s

-- the cause at a token that has been read, where nothing that is a token follows
abbrev pub pending : ScopeView → StatementState → Option SourceCause
pending sc (state.Stray l c) = Some cause.BadRegister
pending sc (state.Named b n) = if is_unknown sc n then Some cause.UnknownDirective else then_some (lacks_names sc n) cause.TooManySymbols
pending sc (state.Arguments o) = then_some (awaits_register o.so_far) cause.BadRegister
pending sc _ = None

-- a character that is no token in this line, or none of its kind
abbrev pub stopped : ScopeView → StatementState → ℕ → SourceCause → ℕ × SourceCause
stopped sc st line c = (fault_line sc st line, unwrap_or (pending sc st) c)

abbrev pub open_at_end : Option ℕ → Option SourceCause → ℕ → ℕ × SourceCause
open_at_end None p began = (began, cause.OpenComment)
open_at_end (Some l) p began = (l, unwrap_or p cause.OpenComment)

-- a comment that began in this line and doesn't end
abbrev pub left_open : ScopeView → StatementState → ℕ → ℕ × SourceCause
left_open sc st began = open_at_end (doom sc st) (pending sc st) began
