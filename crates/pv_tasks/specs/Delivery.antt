-- How what a command makes is delivered to the outside.
use Rattle.std.specs.Prelude.{◌≡◌, ℕ, true, List}
use Rattle.pv_io.specs.Causes.{Rose}
use Rattle.pv_io.specs.Files.{Stores, ChangesAt}
use Rattle.pv_build.specs.Telling.{Says}
use Rattle.pv_build.specs.declared.status.Status.{Status}
use Rattle.pv_build.specs.declared.status.Status.TheVariants as status
use Rattle.pv_tasks.specs.Outside.{Outside}

-- The file was stored and then its line put, with the status that is meant. Or the store failed, and the bytes of this name are
-- open, or found no memory, with nothing changed; then nothing is printed.
pub data Delivers (name bytes line : List ℕ) (meant : Status) (o : Outside) (result : Status) : Type 0 where
  Stored : Stores o.before.files o.after.files name bytes
      → Says line meant o.before.taken o.after.taken o.before.puts o.after.puts result → Delivers name bytes line meant o result
  NotStored : result ≡ status.WriteFault → ChangesAt o.before.files o.after.files name → Rose o.before.stores o.after.stores
      → (o.before.sure ≡ true → ⊥) → o.after.taken ≡ o.before.taken → Delivers name bytes line meant o result
  NoMemory : result ≡ status.Memory → o.after.files ≡ o.before.files → o.after.taken ≡ o.before.taken
      → Delivers name bytes line meant o result
