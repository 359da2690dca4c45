-- The outside of a call.
use Rattle.std.specs.Prelude.{◌≡◌, ℕ, Bool, List, Option}
use Rattle.pv_io.specs.Files.{FileMap}
use Rattle.pv_io.specs.declared.files.Files as disk
use Rattle.pv_io.specs.declared.sink.Sink as sink
use Rattle.host_cpl3.specs.declared.host.Host as hosts
use Rattle.wedge_core.specs.Counts.{Counts, counts_of}

-- What the files hold, and whether they are sure; how often a load and a store have failed; what the output has taken, and how
-- often a put has failed; what the host has completed, and the bytes of its memory.
pub record Moment : Type 0 where
  pub files : Option FileMap
  pub sure : Bool
  pub loads : ℕ
  pub stores : ℕ
  pub taken : Option (List ℕ)
  pub puts : ℕ
  pub completed : Counts
  pub memory : List ℕ

-- before the call and after it
pub record Outside : Type 0 where
  pub before : Moment
  pub after : Moment

-- what files and a sink tell of themselves, beside a host that has completed so much and has this memory
abbrev pub moment : {F S : Type 0} → disk.Ghosts F → sink.Ghosts S → F → S → Counts → List ℕ → Moment
moment f s files out completed memory = record {
  files = f.held files;
  sure = f.sure files;
  loads = f.load_faults files;
  stores = f.store_faults files;
  taken = s.taken out;
  puts = s.faults out;
  completed = completed;
  memory = memory;
}

-- the files, the sink and the host, each before the call and after it
abbrev pub outside : {F S H : Type 0} → disk.Ghosts F → sink.Ghosts S → hosts.Ghosts H → F × F → S × S → H × H → Outside
outside f s h files out host = record {
  before = moment f s files.0 out.0 (counts_of h host.0) (h.bytes host.0);
  after = moment f s files.1 out.1 (counts_of h host.1) (h.bytes host.1);
}

-- nothing was done
abbrev pub Untouched : Outside → Type 0
Untouched o = o.after ≡ o.before
