-- What a view shows and lends of what the guest has.
use Rattle.std.specs.Prelude.{◌≡◌, ℕ, ◌/◌, ◌<◌, ◌^◌, List, length, Bool, Option}
use Rattle.std.specs.FinMap.{get}
use Rattle.paging.specs.Reached.{reached}
use Rattle.descriptors.specs.declared.cpu.Cpu.{Cpu}
use Rattle.shadow_tables.specs.Entries.{entries_of}
use Rattle.shadow_tables.specs.Host.{lent}
use Rattle.shadow_tables.specs.Slots.{Slot, entry_in}
use Rattle.shadow_tables.specs.declared.words.Side.{Side}
use Rattle.step_mem.specs.Changes.{AreWithin}
use Rattle.machine_model.specs.State.{Setting}
use Rattle.machine_model.specs.Run.{Set}
use Rattle.native_steps.specs.Lends.{Lends}
use Rattle.native_steps.specs.Mirrors.{Sees}
use Rattle.wedge_step.specs.Parts.{IsPartOf}
use Rattle.wedge_step.specs.Standing.{is_kernel, AreOpen, IsAble}
use Rattle.wedge_core.specs.Views.{view_by}

-- where a view leads by its tables is what is kept, so it lends no more than a set that has all that is kept
abbrev pub ViewsLend : Type 0
ViewsLend =
    (m : Setting) (memory : List ℕ) (root : ℕ) (side : Side) (wp : Bool) (slots : ℕ → Option Slot) (set : Set)
    → ((page : ℕ) (write : Bool) → page < 2 ^ 20 → reached memory (length memory / 4096) root page write ≡ lent (length memory / 4096)
    (slots page) side write)
    → ((page : ℕ) → page < 2 ^ 20 → get (entries_of slots) page ≡ entry_in (slots page))
    → AreWithin m.frames (entries_of slots) → AreOpen m.image wp slots → IsPartOf (entries_of slots) set
    → Lends m memory root (is_kernel side) wp set

abbrev pub ViewsSee : Type 0
ViewsSee = (directory : Side → ℕ) (cpu : Cpu) → IsAble cpu → Sees (view_by directory cpu) cpu
