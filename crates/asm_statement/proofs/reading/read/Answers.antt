use Rattle.std.proofs.Common.{Ok, Err, [], subst}
use Rattle.asm_lex.specs.declared.machine.Mode.TheVariants.{Between}
use Rattle.asm_statement.specs.declared.state.StatementState.TheVariants.{Start}
use Rattle.asm_statement.specs.declared.reading.Reading.{Reading}
use Rattle.asm_statement.specs.ScopeView.{ScopeView}
use Rattle.asm_statement.specs.Running.{run}
use Rattle.asm_statement.proofs.Advancing.{running, Ran, ran, ran_failed}
use Rattle.asm_statement.proofs.reading.read.Goals as goal

pub returns-in-Err : goal.returns-in-Err
returns-in-Err c =
    let r : Reading = record { alloc = c.args.alloc; scope = c.new.result; state = Start } in
    let s = c.args.source.now in
    ran_failed c.in-Err.fault _ (subst (λ (x : ScopeView). Ran (Err c.in-Err.fault) (run (running x Start Between [] 0 1) s)) c.new.ensures
    (ran r Between [] 0 1 s (Err c.in-Err.fault) c.in-Err.ensures))

pub returns-in-Ok : goal.returns-in-Ok
returns-in-Ok c =
    let r : Reading = record { alloc = c.args.alloc; scope = c.new.result; state = Start } in
    let s = c.args.source.now in
    subst (λ (x : ScopeView). Ran (Ok (c.in-Ok.reading, c.in-Ok.mode)) (run (running x Start Between [] 0 1) s)) c.new.ensures
    (ran r Between [] 0 1 s (Ok (c.in-Ok.reading, c.in-Ok.mode)) c.in-Ok.ensures)
