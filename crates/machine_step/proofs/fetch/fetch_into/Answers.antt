use Rattle.std.specs.Prelude.{Ok, Err}
use Rattle.machine_model.specs.Instruction.{fetched}
use Rattle.machine_step.proofs.Used.{gives_uses, refuses_uses}
use Rattle.machine_step.proofs.fetch.fetch_into.Goals as goal

pub returns-in-Ok-clause-uses : goal.returns-in-Ok-clause-uses
returns-in-Ok-clause-uses g c =
    let s = g.M.GuestMem.space c.args.mem.now in
    let t = g.M.GuestMem.space c.fetch_pages.new.mem in
    gives_uses c.args.user s t (Ok c.fetch_pages.new.found) (fetched c.args.user c.args.at s) c.in-Ok.ensures.fetched
    (c.works_use.ensures.fetched c.args.user c.args.at s)

pub returns-in-Err-clause-refused : goal.returns-in-Err-clause-refused
returns-in-Err-clause-refused g c =
    let s = g.M.GuestMem.space c.args.mem.now in
    let t = g.M.GuestMem.space c.fetch_pages.new.mem in
    refuses_uses c.args.user s t (Err c.in-Err.refusal) (fetched c.args.user c.args.at s) c.in-Err.ensures.fetched
    (c.works_use.ensures.fetched c.args.user c.args.at s)
