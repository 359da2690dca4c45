-- The outside of a call that leaves the host alone.
use Rattle.std.specs.Prelude.{ℕ, List}
use Rattle.pv_io.specs.declared.files.Files as disk
use Rattle.pv_io.specs.declared.sink.Sink as sink
use Rattle.wedge_core.specs.Counts.{Counts}
use Rattle.pv_tasks.specs.Outside.{Outside, moment}

-- the files and the sink, each before the call and after it, beside a host that has completed so much and has this memory
abbrev pub beside : {F S : Type 0} → disk.Ghosts F → sink.Ghosts S → F × F → S × S → Counts → List ℕ → Outside
beside f s files out completed memory =
    record { before = moment f s files.0 out.0 completed memory; after = moment f s files.1 out.1 completed memory }
