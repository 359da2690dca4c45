use Rattle.paging.specs.declared.entry.Touch.TheVariants.{Ready, Fault, Stop}
use Rattle.machine_step.proofs.Fetched.{fetching_by}
use Rattle.machine_step.proofs.fetch.fetch_page.Goals as goal

pub returns-in-Ready-clause-fetching : goal.returns-in-Ready-clause-fetching
returns-in-Ready-clause-fetching g c =
    let s = g.M.GuestMem.space c.args.mem.now in
    let t = g.M.GuestMem.space c.fetch.new.self in
    fetching_by c.args.user c.args.at c.args.len Ready s t c.in-Ready.ensures.fetches

pub returns-in-Fault-clause-fetching : goal.returns-in-Fault-clause-fetching
returns-in-Fault-clause-fetching g c =
    let s = g.M.GuestMem.space c.args.mem.now in
    let t = g.M.GuestMem.space c.fetch.new.self in
    fetching_by c.args.user c.args.at c.args.len (Fault c.in-Fault.code c.in-Fault.at) s t c.in-Fault.ensures.fetches

pub returns-in-Stop-clause-fetching : goal.returns-in-Stop-clause-fetching
returns-in-Stop-clause-fetching g c =
    let s = g.M.GuestMem.space c.args.mem.now in
    let t = g.M.GuestMem.space c.fetch.new.self in
    fetching_by c.args.user c.args.at c.args.len (Stop c.in-Stop.stop) s t c.in-Stop.ensures.fetches
