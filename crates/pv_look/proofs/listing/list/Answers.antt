use Rattle.std.proofs.Common.{refl}
use Rattle.pv_look.specs.Listing.{list_task}
use Rattle.pv_tasks.proofs.Deliveries.{halts}
use Rattle.pv_look.proofs.Listed.{refuses_image, lists_image}
use Rattle.pv_look.proofs.listing.list.Goals as goal

pub returns-in-Err-clause-meaning : goal.returns-in-Err-clause-meaning
returns-in-Err-clause-meaning g c = λ completed memory.
    halts _ _ (list_task c.args.name.now) _ c.end.result c.in-Err.halt (λ line told. refuses_image _ c.args.name.now line told)
    (λ held. held) c.in-Err.ensures.read.held
    refl c.in-Err.ensures.halted c.end.ensures

pub returns-clause-meaning : goal.returns-clause-meaning
returns-clause-meaning g c = λ completed memory.
    lists_image c.args.name.now c.in-Ok.image _ c.put_listing.result c.in-Ok.ensures.image c.in-Ok.ensures.read.held refl
    c.put_listing.ensures
