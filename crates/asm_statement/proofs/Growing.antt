-- A terminal within an argument: the argument grows, and then its name is noted.
use Rattle.std.proofs.Common.{◌≡◌, ℕ, List, Option, Some, None, Result, Ok, Err, length, refl, ap}
use Rattle.asm_lex.specs.declared.fault.SourceCause.{SourceCause}
use Rattle.asm_argument.specs.declared.terminal.Terminal.{Terminal}
use Rattle.asm_argument.specs.declared.shape.Shape.{Shape}
use Rattle.asm_argument.specs.declared.operand.Partial.{Partial}
use Rattle.asm_argument.specs.Operand.{operand_step, name_in}
use Rattle.asm_statement.specs.declared.state.Open.{Open}
use Rattle.asm_statement.specs.declared.state.StatementState.{StatementState}
use Rattle.asm_statement.specs.declared.fault.StepFault.{StepFault}
use Rattle.asm_statement.specs.declared.fault.StepFault.TheVariants as step_fault
use Rattle.asm_statement.specs.Directives.{shape_at}
use Rattle.asm_statement.specs.ScopeView.{ScopeView}
use Rattle.asm_statement.specs.Statement.{Notes, Does, after_noting, with_name, after_step, at_shape, within, grown, name_noted, name_noted_as, grown_as, grown_at}

abbrev pub then_noted : ScopeView → Result Open SourceCause → Result (ScopeView × StatementState) SourceCause
then_noted sc (Ok o) = after_noting o (name_noted sc o)
then_noted sc (Err c) = Err c

named : (sc : ScopeView) (o : Open) (n : Option (List ℕ)) → with_name sc o n ≡ after_noting o (name_noted_as sc o n)
named sc o None = refl
named sc o (Some n) = refl

stepped : (sc : ScopeView) (o : Open) (s : Terminal) (q : Result Partial SourceCause)
    → after_step sc o s q ≡ then_noted sc (grown_as o s q)
stepped sc o s (Ok q) = named sc (record o { so_far = q }) (name_in q)
stepped sc o s (Err c) = refl

shaped : (sc : ScopeView) (o : Open) (s : Terminal) (sh : Option Shape)
    → at_shape sc o s sh ≡ then_noted sc (grown_at o s sh)
shaped sc o s None = refl
shaped sc o s (Some sh) = stepped sc o s (operand_step sh o.so_far s)

pub within_grown : (sc : ScopeView) (o : Open) (s : Terminal) → within sc o s ≡ then_noted sc (grown o s)
within_grown sc o s = shaped sc o s (shape_at o.head (length o.arguments))

-- a fault of noting is the step's
pub fault_does : (new : ScopeView) (o : Open) (e : StepFault) (r : Result ScopeView SourceCause) → Notes new (Err e) r
    → Does new (Err e) (after_noting o r)
fault_does new o (step_fault.Cause c) r h = ap (after_noting o) h
fault_does new o step_fault.Memory r h = tt
