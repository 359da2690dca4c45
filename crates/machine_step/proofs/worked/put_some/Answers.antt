use Rattle.std.proofs.Common.{List, subst}
use Rattle.pv_io.specs.Sink.{Appends, AppendsFront}
use Rattle.run_trace.specs.declared.items.Item.{Item}
use Rattle.run_trace.specs.Text.{lines_of}
use Rattle.std.specs.Prelude.{OnOk, OnErr}
use Rattle.machine_step.proofs.worked.put_some.Goals as goal

pub returns-clause-ok : goal.returns-clause-ok
returns-clause-ok g c =
    subst (λ (l : List Item). OnOk c.put_step.result
    (Appends (g.O.Sink.taken c.args.out.now) (g.O.Sink.taken c.put_step.new.out) (lines_of l))) c.items_of.ensures.items
    c.put_step.ensures.ok

pub returns-clause-failed : goal.returns-clause-failed
returns-clause-failed g c =
    subst (λ (l : List Item). OnErr c.put_step.result
    (AppendsFront (g.O.Sink.taken c.args.out.now) (g.O.Sink.taken c.put_step.new.out) (lines_of l))) c.items_of.ensures.items
    c.put_step.ensures.failed
