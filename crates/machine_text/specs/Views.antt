-- What the code's memory is.
use Rattle.std.specs.Prelude.{◌*◌, ◌≤◌, length}
use Rattle.std.specs.FinMap.{FinMap}
use Rattle.std.specs.Ordering.{nat_cmp}
use Rattle.paging.specs.declared.entry.Entry.{Entry}
use Rattle.step_mem.specs.Changes.{AreWithin}
use Rattle.linear_view.specs.View.{View, view_of}
use Rattle.machine_text.specs.declared.mapped.Mapped.{Mapped}

abbrev pub seen : {C : Type 0} → (C → FinMap nat_cmp Entry) → Mapped C → View
seen entries m = view_of m.ram.now m.frames m.cpu.now (entries m.cache.now)

-- all frames are in memory, and no translation leads out of it
pub record IsWithin (v : View) : Type 0 where
  pub ram : 4096 * v.frames ≤ length v.ram
  pub within : AreWithin v.frames v.set
