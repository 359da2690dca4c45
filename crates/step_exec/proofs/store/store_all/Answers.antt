use Rattle.std.proofs.Common.{◌<◌, ◌^◌, ap, ◌∙◌, arith}
use Rattle.ia32_exec.specs.Commit.{list_of}
use Rattle.paging.specs.Space.{Space}
use Rattle.step_exec.specs.Ready.{IsWritableAt}
use Rattle.step_exec.proofs.Stored.{stored_in, stored_pages, with_more}
use Rattle.step_exec.proofs.store.store_all.Goals as goal

pub write_all-requires-clause-open_to : goal.write_all-requires-clause-open_to
write_all-requires-clause-open_to g c =
    with_more (IsWritableAt (g.M.GuestMem.space c.args.mem.now)) (λ at. at < 2 ^ 32) (λ at h. let fits = h.fits in omega (arith, fits))
    c.args.stores.now c.requires

pub returns : goal.returns
returns g c =
    let h = stored_in g.M.GuestMem.frame g.M.GuestMem.space c.args.mem.now (list_of c.args.stores.now) c.write_all.new.memory
    c.write_all.ensures.written in
    record {
      frame = h.0;
      pages = ap (λ (s : Space). s.pages) h.1 ∙ stored_pages (g.M.GuestMem.space c.args.mem.now) (list_of c.args.stores.now);
      stored = h.1;
    }
