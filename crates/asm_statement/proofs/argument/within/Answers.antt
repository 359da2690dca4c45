use Rattle.std.proofs.Common.{Result, Err, sym, ap, ◌∙◌, subst}
use Rattle.asm_lex.specs.declared.fault.SourceCause.{SourceCause}
use Rattle.asm_statement.specs.declared.state.StatementState.{StatementState}
use Rattle.asm_statement.specs.ScopeView.{ScopeView}
use Rattle.asm_statement.specs.Statement.{Does, after_noting}
use Rattle.asm_statement.proofs.Growing.{then_noted, within_grown, fault_does}
use Rattle.asm_statement.proofs.argument.within.Goals as goal

pub returns-in-Err : goal.returns-in-Err
returns-in-Err c =
    within_grown c.args.scope.now c.args.begun c.args.terminal ∙ ap (then_noted c.args.scope.now) (sym c.in-Err.ensures)

pub returns-in-Ok-note_name : goal.returns-in-Ok-note_name
returns-in-Ok-note_name c =
    within_grown c.args.scope.now c.args.begun c.args.terminal
    ∙ (ap (then_noted c.args.scope.now) (sym c.in-Ok.ensures) ∙ ap (after_noting c.in-Ok.begun) c.in-Ok-note_name.ensures)

pub returns-in-Err-note_name : goal.returns-in-Err-note_name
returns-in-Err-note_name c =
    subst (λ (r : Result (ScopeView × StatementState) SourceCause). Does c.note_name.new.scope (Err c.in-Err-note_name.fault) r)
    (sym (within_grown c.args.scope.now c.args.begun c.args.terminal ∙ ap (then_noted c.args.scope.now) (sym c.in-Ok.ensures)))
    (fault_does c.note_name.new.scope c.in-Ok.begun c.in-Err-note_name.fault _ c.in-Err-note_name.ensures)
