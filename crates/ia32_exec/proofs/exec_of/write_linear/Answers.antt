use Rattle.ia32_exec.proofs.StoreRules.{kept_unless, linear}
use Rattle.ia32_exec.specs.Commit.{list_of}
use Rattle.ia32_exec.proofs.exec_of.write_linear.Goals as goal

pub returns : goal.returns
returns g c =
    let l = g.M.LinearMem in
    let h = linear l.byte l.same c.args.mem.now (list_of c.args.stores.now) c.write_all.new.memory c.write_all.ensures.written in
    record {
      written = h.0;
      places = h.1;
      kept = kept_unless _ c.args.stores.now c.args.mem.now c.write_all.new.memory c.write_all.ensures.written;
    }
