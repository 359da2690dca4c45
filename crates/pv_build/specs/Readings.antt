-- What becomes of files that are read.
use Rattle.std.specs.Prelude.{◌≡◌, ◌≤◌, true}
use Rattle.pv_io.specs.declared.files.Files as disk

-- Files that were only read. Over sure files that hold what was read no count rose.
pub record OnlyRead {F : Type 0} (f : disk.Ghosts F) (found : Type 0) (old new : F) : Type 0 where
  pub held : f.held new ≡ f.held old
  pub same_sure : f.sure new ≡ f.sure old
  pub same_stores : f.store_faults new ≡ f.store_faults old
  pub later : f.load_faults old ≤ f.load_faults new
  pub no_fault : f.sure old ≡ true → found → f.load_faults new ≡ f.load_faults old
