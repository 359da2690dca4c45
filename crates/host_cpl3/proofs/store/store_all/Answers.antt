use Rattle.ia32_exec.specs.Commit.{list_of}
use Rattle.host_cpl3.proofs.Storing.{written_in}
use Rattle.host_cpl3.proofs.store.store_all.Goals as goal

pub returns : goal.returns
returns c =
    let h = written_in c.args.reach.now c.args.ram.now (list_of c.args.stores.now) c.write_all.new.memory c.write_all.ensures.written in
    record { memory = h.0; same = h.1 }
