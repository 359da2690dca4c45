use Rattle.pv_tasks.proofs.WorkMeanings.{second_ran}
use Rattle.pv_tasks.proofs.working.patched.Goals as goal

pub returns-in-Ok-clause-text : goal.returns-in-Ok-clause-text
returns-in-Ok-clause-text g c =
    rw c.into_text.ensures (second_ran c.args.image.now c.args.events.now.list c.new-kept.result.text.items c.patched_run.new.out.text.items
    _ _ _ _ _ c.in-Ok.ended c.requires.events c.new-kept.ensures c.in-Ok.ensures)
