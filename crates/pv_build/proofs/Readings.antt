-- Files that are read.
use Rattle.std.proofs.Common.{refl, ◌∙◌, arith}
use Rattle.pv_io.specs.declared.files.Files as disk
use Rattle.pv_build.specs.Readings.{OnlyRead}

-- files that were read again
pub read_on : {F : Type 0} (f : disk.Ghosts F) (found more : Type 0) (a b c : F) → OnlyRead f found a b → OnlyRead f more b c
    → (found → more) → OnlyRead f found a c
read_on f found more a b c first later finds = record {
  held = later.held ∙ first.held;
  same_sure = later.same_sure ∙ first.same_sure;
  same_stores = later.same_stores ∙ first.same_stores;
  later = omega (arith, first.later, later.later);
  no_fault = λ sure held. later.no_fault (first.same_sure ∙ sure) (finds held) ∙ first.no_fault sure held;
}

-- the same of files that are among those
pub read_for : {F : Type 0} (f : disk.Ghosts F) (found more : Type 0) (a b : F) → OnlyRead f more a b → (found → more)
    → OnlyRead f found a b
read_for f found more a b read finds = record {
  held = read.held;
  same_sure = read.same_sure;
  same_stores = read.same_stores;
  later = read.later;
  no_fault = λ sure held. read.no_fault sure (finds held);
}

pub read_none : {F : Type 0} (f : disk.Ghosts F) (found : Type 0) (a : F) → OnlyRead f found a a
read_none f found a = record { held = refl; same_sure = refl; same_stores = refl; later = omega arith; no_fault = λ sure held. refl }
