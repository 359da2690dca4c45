use Rattle.std.proofs.Common.{refl}
use Rattle.std.specs.Prelude.{take}
use Rattle.step_mem.specs.Changes.{changed}
use Rattle.step_mem.proofs.access.load.Goals as goal

pub returns-clause-value : goal.returns-clause-value
returns-clause-value g c =
    let m = c.args.state.now in
    rw c.as_slice.ensures.changes at (c.number.ensures.value m.control (record {
      pages = m.pages;
      visited = m.visited;
      tables = m.tables;
      wrote = m.wrote;
      ready = record { start = m.ready.start; len = m.ready.len; write = m.ready.write };
      earlier = record {
        start = m.earlier.start;
        len = m.earlier.len;
        set = changed (g.B.Translations.entries c.args.base.now c.args.ram.now) (take m.earlier.count m.changes);
      };
    }) refl)
