use Rattle.std.proofs.Common.{ℕ, List, refl, subst}
use Rattle.pv_build.specs.Telling.{Says}
use Rattle.pv_build.specs.declared.status.Status.TheVariants as status
use Rattle.look_words.specs.View.{aspect_view}
use Rattle.pv_look.specs.Files.{file_task}
use Rattle.pv_tasks.proofs.Deliveries.{halts}
use Rattle.pv_look.proofs.Shows.{shows_no_file, shows_file}
use Rattle.pv_look.proofs.file.of_file.Goals as goal

pub returns-in-Err-clause-meaning : goal.returns-in-Err-clause-meaning
returns-in-Err-clause-meaning g c = λ completed memory.
    halts _ _ (file_task c.args.name.now (aspect_view c.args.aspect)) _ c.end.result c.in-Err.halt
    (λ line told. shows_no_file c.args.name.now (aspect_view c.args.aspect) _ line told) (λ held. held) c.in-Err.ensures.read.held
    refl c.in-Err.ensures.halted c.end.ensures

pub returns-in-Ok-state_text-clause-meaning : goal.returns-in-Ok-state_text-clause-meaning
returns-in-Ok-state_text-clause-meaning g c = λ completed memory.
    shows_file c.args.name.now (aspect_view c.args.aspect) _ c.in-Ok.state c.print.result c.in-Ok.ensures.state
    c.in-Ok.ensures.read.held refl
    (subst
    (λ (text : List ℕ). Says text status.Done (g.S.Sink.taken c.args.out.now) (g.S.Sink.taken c.print.new.out)
    (g.S.Sink.faults c.args.out.now) (g.S.Sink.faults c.print.new.out) c.print.result)
    c.in-Ok-state_text.ensures c.print.ensures)
