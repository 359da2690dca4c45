-- What a call leaves of files that it doesn't read.
use Rattle.std.specs.Prelude.{◌≡◌, ◌≤◌, true}
use Rattle.pv_io.specs.declared.files.Files as disk

-- Files that were not read. Over sure files no count rose.
pub record NotRead {F : Type 0} (f : disk.Ghosts F) (old new : F) : Type 0 where
  pub same_sure : f.sure new ≡ f.sure old
  pub same_loads : f.load_faults new ≡ f.load_faults old
  pub later : f.store_faults old ≤ f.store_faults new
  pub no_fault : f.sure old ≡ true → f.store_faults new ≡ f.store_faults old
