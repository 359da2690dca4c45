-- One argument, terminal by terminal.
use Rattle.std.specs.Prelude.{ℕ, pos, Bool, true, false, not, List, Option, Some, None, Result, Ok, Err, if◌then◌else◌}
use Rattle.asm_lex.specs.declared.fault.SourceCause.{SourceCause}
use Rattle.asm_lex.specs.declared.fault.SourceCause.TheVariants as cause
use Rattle.asm_argument.specs.declared.terminal.Terminal.{Terminal}
use Rattle.asm_argument.specs.declared.terminal.Terminal.TheVariants as terminal
use Rattle.asm_argument.specs.declared.shape.Shape.{Shape}
use Rattle.asm_argument.specs.declared.shape.Shape.TheVariants as shape
use Rattle.asm_argument.specs.declared.operand.ValuePlace.{ValuePlace}
use Rattle.asm_argument.specs.declared.operand.ValuePlace.TheVariants as place
use Rattle.asm_argument.specs.declared.operand.Partial.{Partial}
use Rattle.asm_argument.specs.declared.operand.Partial.TheVariants as partial
use Rattle.asm_source.specs.declared.tree.Value.{Value}
use Rattle.asm_source.specs.declared.tree.Form.{Form}
use Rattle.asm_source.specs.declared.tree.Form.TheVariants as form
use Rattle.asm_argument.specs.Shapes.{signed, named, plain, is_operand, takes_names, takes_sums, takes_minus, takes_numbers, takes_text, fits, is_low, is_register, is_scale}

-- an argument of which nothing has been read
abbrev pub begun : Shape → Partial
begun shape.Fill = partial.Absent
begun _ = partial.Nothing

abbrev pub allowed : Bool → Partial → Result Partial SourceCause
allowed true p = Ok p
allowed false p = Err cause.BadOperand

abbrev pub counted : Bool → Bool → Partial → Result Partial SourceCause
counted false fit p = Err cause.BadOperand
counted true true p = Ok p
counted true false p = Err cause.BadArgument

-- the first terminal of an argument
abbrev pub first : Shape → Terminal → Result Partial SourceCause
first sh terminal.Percent = allowed (is_operand sh) partial.Percent
first sh terminal.Dollar = allowed (is_operand sh) partial.Dollar
first sh terminal.Open = allowed (is_operand sh) (partial.Open None)
first sh terminal.Minus = allowed (takes_minus sh) (partial.Minus place.Memory)
first sh (terminal.Number n) = counted (takes_numbers sh) (fits sh false n) (partial.Number place.Memory (plain (pos n)))
first sh (terminal.Name n) = allowed (takes_names sh) (partial.Name place.Memory n)
first sh (terminal.Text t) = allowed (takes_text sh) (partial.Whole (form.Text t))
first sh _ = Err cause.BadOperand

abbrev pub lowered : ℕ → Bool → Partial → Result Partial SourceCause
lowered n fit p = if is_low n then counted true fit p else Err cause.BadNumber

abbrev pub registered : Bool → Partial → Result Partial SourceCause
registered true p = Ok p
registered false p = Err cause.BadRegister

abbrev pub open_paren : Shape → ValuePlace → Value → Result Partial SourceCause
open_paren sh place.Memory v = allowed (is_operand sh) (partial.Open (Some v))
open_paren sh place.Immediate v = Err cause.BadOperand

-- within parentheses
abbrev pub address_step : Partial → Terminal → Result Partial SourceCause
address_step (partial.Open v) terminal.Percent = Ok (partial.BasePercent v)
address_step (partial.Open v) terminal.Comma = Ok (partial.IndexComma v None)
address_step (partial.BasePercent v) (terminal.Name r) = registered (is_register r) (partial.Base v r)
address_step (partial.BasePercent v) _ = Err cause.BadRegister
address_step (partial.Base v b) terminal.Close = Ok (partial.Whole (form.Memory v (Some b) None 1))
address_step (partial.Base v b) terminal.Comma = Ok (partial.IndexComma v (Some b))
address_step (partial.IndexComma v b) terminal.Percent = Ok (partial.IndexPercent v b)
address_step (partial.IndexPercent v b) (terminal.Name r) = registered (is_register r) (partial.Index v b r)
address_step (partial.IndexPercent v b) _ = Err cause.BadRegister
address_step (partial.Index v b i) terminal.Close = Ok (partial.Whole (form.Memory v b (Some i) 1))
address_step (partial.Index v b i) terminal.Comma = Ok (partial.Scale v b i)
address_step (partial.Scale v b i) (terminal.Number n) = if is_scale n then Ok (partial.Scaled v b i n) else Err cause.BadScale
address_step (partial.Scaled v b i s) terminal.Close = Ok (partial.Whole (form.Memory v b (Some i) s))
address_step _ _ = Err cause.BadOperand

abbrev pub next_terminal : Shape → Partial → Terminal → Result Partial SourceCause
next_terminal sh partial.Nothing s = first sh s
next_terminal sh partial.Absent s = first sh s
next_terminal sh partial.Percent (terminal.Name r) = registered (is_register r) (partial.Whole (form.Register r))
next_terminal sh partial.Percent _ = Err cause.BadRegister
next_terminal sh partial.Dollar terminal.Minus = Ok (partial.Minus place.Immediate)
next_terminal sh partial.Dollar (terminal.Number n) = Ok (partial.Number place.Immediate (plain (pos n)))
next_terminal sh partial.Dollar (terminal.Name n) = Ok (partial.Name place.Immediate n)
next_terminal sh partial.Dollar _ = Err cause.BadOperand
next_terminal sh (partial.Minus p) (terminal.Number n) = lowered n (fits sh true n) (partial.Number p (plain (signed true n)))
next_terminal sh (partial.Minus p) _ = Err cause.BadOperand
next_terminal sh (partial.Name p n) terminal.Plus = allowed (takes_sums sh) (partial.Sign p n false)
next_terminal sh (partial.Name p n) terminal.Minus = allowed (takes_sums sh) (partial.Sign p n true)
next_terminal sh (partial.Name p n) terminal.Open = open_paren sh p (named n (pos 0))
next_terminal sh (partial.Name p n) _ = Err cause.BadOperand
next_terminal sh (partial.Sign p n neg) terminal.Minus = Ok (partial.SignMinus p n neg)
next_terminal sh (partial.Sign p n neg) (terminal.Number k) = Ok (partial.Number p (named n (signed neg k)))
next_terminal sh (partial.Sign p n neg) _ = Err cause.BadOperand
next_terminal sh (partial.SignMinus p n neg) (terminal.Number k) = lowered k true (partial.Number p (named n (signed (not neg) k)))
next_terminal sh (partial.SignMinus p n neg) _ = Err cause.BadOperand
next_terminal sh (partial.Number p v) terminal.Open = open_paren sh p v
next_terminal sh (partial.Number p v) _ = Err cause.BadOperand
next_terminal sh rest s = address_step rest s

abbrev pub operand_step : Shape → Partial → Terminal → Result Partial SourceCause
operand_step sh p terminal.Big = Err cause.BadNumber
operand_step sh p s = next_terminal sh p s

-- the form that has been read, where it may end here
abbrev pub finished : Partial → Option Form
finished (partial.Name place.Immediate n) = Some (form.Immediate (named n (pos 0)))
finished (partial.Name place.Memory n) = Some (form.Memory (Some (named n (pos 0))) None None 1)
finished (partial.Number place.Immediate v) = Some (form.Immediate v)
finished (partial.Number place.Memory v) = Some (form.Memory (Some v) None None 1)
finished (partial.Whole f) = Some f
finished partial.Absent = Some form.Absent
finished _ = None

abbrev pub is_finished : Partial → Bool
is_finished (partial.Name p n) = true
is_finished (partial.Number p v) = true
is_finished (partial.Whole f) = true
is_finished partial.Absent = true
is_finished _ = false

abbrev pub is_nothing : Partial → Bool
is_nothing partial.Nothing = true
is_nothing _ = false

-- whether no terminal of the argument has been read
abbrev pub is_unbegun : Partial → Bool
is_unbegun partial.Nothing = true
is_unbegun partial.Absent = true
is_unbegun _ = false

-- whether a register has to follow
abbrev pub awaits_register : Partial → Bool
awaits_register partial.Percent = true
awaits_register (partial.BasePercent v) = true
awaits_register (partial.IndexPercent v b) = true
awaits_register _ = false

-- the symbol's name that has just been read
abbrev pub name_in : Partial → Option (List ℕ)
name_in (partial.Name p n) = Some n
name_in _ = None
