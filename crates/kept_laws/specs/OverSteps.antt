-- How what shadows remember goes on over the steps of a run: the statements of the laws.
use Rattle.std.specs.Prelude.{◌≡◌, ◌⊎◌, ℕ, ◌^◌, ◌<◌, Bool, true, false, ◌||◌, List, [], ◌∷◌, ◌++◌, Option, Some, None}
use Rattle.std.specs.List.{Contains, list_any}
use Rattle.shadow_tables.specs.OtherRoot.{OtherRoot, IsSame, AreSame, LoseWrites, all_spared}
use Rattle.shadow_tables.specs.Entries.{entries_of}
use Rattle.shadow_tables.specs.Sight.{Sight, StaysBeside}
use Rattle.shadow_tables.specs.Slots.{Slot, entry_in}
use Rattle.std.specs.FinMap.{get}
use Rattle.guest_ram.specs.Among.{is_among}
use Rattle.wedge_mem.specs.Told.{guest_frames, read_by}
use Rattle.shadow_cache.specs.Reloaded.{put_by, coming, staying}
use Rattle.machine_model.specs.State.{Setting, State}
use Rattle.machine_model.specs.Run.{Set}
use Rattle.machine_model.specs.Taken.{Taken, loads_root}
use Rattle.machine_model.specs.Keeping.{clashes, Reloads}
use Rattle.kept_laws.specs.Remembered.{ComesFrom, IsOwed, IsRemembered, Unwritten, was_read}

-- the frame was noted before, or a walk of the step read it as a directory or table
abbrev pub IsNotedBy : (ℕ → Bool) → Taken → ℕ → Type 0
IsNotedBy read_from t frame = (read_from frame ≡ true) ⊎ (is_among frame t.report.tables ≡ true)

-- What a step makes of what is kept beside its own translations: the frames that its walks read are noted. The present
-- tables are marked where it wrote in a noted frame. What is kept for another value goes where the step wrote in a frame of
-- its tables; else it loses at most rights to write.
pub record IsTold (t : Taken) (v v' : Sight) : Type 0 where
  pub frames : List ℕ
  pub notes : (frame : ℕ) → v'.read_from frame ≡ true → IsNotedBy v.read_from t frame
  pub marks : v'.stale ≡ true → (v.stale ≡ true) ⊎ ((frame : ℕ) × Contains t.report.wrote frame × IsNotedBy v.read_from t frame)
  pub others : LoseWrites frames (all_spared t.report.wrote v.other_roots) v'.other_roots

-- No frame is noted of the present tables, they aren't marked, and nothing is kept for another value of CR3.
pub record IsUnused (v : Sight) : Type 0 where
  pub unnoted : (frame : ℕ) → v.read_from frame ≡ false
  pub unmarked : v.stale ≡ false
  pub alone : v.other_roots ≡ []

-- Nothing is remembered at first, and nothing is owed.
abbrev pub StartRemembers : Type 0
StartRemembers = (m : Setting) (now : State) (v : Sight) → IsUnused v → IsRemembered m [] now v

-- It stays so while the same is kept, nothing more is noted and nothing is marked.
abbrev pub StillRemembers : Type 0
StillRemembers =
    (m : Setting) (steps : List Taken) (now : State) (v v' : Sight) → StaysBeside v v'
    → IsRemembered m steps now v → IsRemembered m steps now v'

-- A step that doesn't load CR3, and after which the same is kept, keeps it: so each step that the host does by itself.
abbrev pub SameRemembers : Type 0
SameRemembers =
    (m : Setting) (steps : List Taken) (t : Taken) (v : Sight) → loads_root t ≡ false → t.after.cpu.cr3 ≡ t.before.cpu.cr3
    → IsRemembered m steps t.before v → IsRemembered m (steps ++ t ∷ []) t.after v

-- What is kept was given the frames that a step read as tables, and then those that it wrote.
pub record Tells (tables wrote : List ℕ) (v v' : Sight) : Type 0 where
  pub notes : (frame : ℕ) → v'.read_from frame ≡ true → read_by v.read_from tables frame ≡ true
  pub marks : v'.stale ≡ (v.stale || list_any (read_by v.read_from tables) wrote)
  pub others : LoseWrites (guest_frames tables) (all_spared wrote v.other_roots) v'.other_roots

-- What shadows say of themselves where they are settled on what a step left is what they make of what is kept.
abbrev pub SettlingTells : Type 0
SettlingTells = (t : Taken) (v v' : Sight) → Tells t.report.tables t.report.wrote v v' → IsTold t v v'

-- Before CR3 is loaded the pages that the step used are dropped from what is kept of the set that its accesses left. No
-- access changed another page. So what is kept comes from the set before the step, which was what was kept then.
abbrev pub DroppedComesFrom : Type 0
DroppedComesFrom =
    (t : Taken) (whole : Set) (first slots : ℕ → Option Slot) → t.set ≡ entries_of first
    → ((page : ℕ) → is_among page t.report.pages ≡ false → get whole page ≡ get t.set page)
    → ((page : ℕ) → page < 2 ^ 20 → is_among page t.report.pages ≡ true → slots page ≡ None)
    → ((page : ℕ) → page < 2 ^ 20 → is_among page t.report.pages ≡ false → entry_in (slots page) ≡ get whole page)
    → ComesFrom t (entries_of slots)

-- A step that doesn't load CR3 keeps it.
abbrev pub StepsRemember : Type 0
StepsRemember =
    (m : Setting) (steps : List Taken) (t : Taken) (v v' : Sight) → loads_root t ≡ false
    → t.after.cpu.cr3 ≡ t.before.cpu.cr3 → IsTold t v v'
    → IsRemembered m steps t.before v → IsRemembered m (steps ++ t ∷ []) t.after v'

-- Where nothing is owed, all may be dropped.
abbrev pub DroppedRemembers : Type 0
DroppedRemembers =
    (m : Setting) (steps : List Taken) (now : State) (v : Sight)
    → ((frame : ℕ) → v.read_from frame ≡ true → was_read steps frame ≡ true) → (Unwritten steps → v.stale ≡ false) → v.other_roots ≡ []
    → ((c : ℕ) (old : List Taken) (left : Taken) (since : List Taken) → IsOwed m steps now c old left since → ⊥)
    → IsRemembered m steps now v

-- a step that loads no CR3, and that clashes, or changes CR0 or CR4
pub record IsCause (m : Setting) (steps : List Taken) (t : Taken) : Type 0 where
  pub through : loads_root t ≡ false
  pub by : (clashes m steps t.before ≡ true) ⊎ ((t.after.cpu.cr0 ≡ t.before.cpu.cr0) × (t.after.cpu.cr4 ≡ t.before.cpu.cr4) → ⊥)

-- After such a step nothing is owed.
abbrev pub CausesOweNothing : Type 0
CausesOweNothing =
    (m : Setting) (steps : List Taken) (t : Taken) → IsCause m steps t → (c : ℕ) (old : List Taken) (left : Taken) (since : List Taken)
    → IsOwed m (steps ++ t ∷ []) t.after c old left since → ⊥

-- what is kept for other values once what is present is put by, under this value where it is known
abbrev pub put_under : Option ℕ → Sight → List OtherRoot
put_under value v = put_by value v.stale v.read_from v.slots v.other_roots

-- what is present, as it is kept under this value
abbrev pub under_value : ℕ → Sight → OtherRoot
under_value cr3 v = record { cr3 = cr3; tables = v.read_from; slots = v.slots }

-- What a load of CR3 makes of what is kept, from the moment at which the step's own translations are settled on.
pub record IsLoaded (t : Taken) (v v' : Sight) : Type 0 where
  pub present : IsSame (coming t.after.cpu.cr3 (put_under (Some t.before.cpu.cr3) v)) (under_value t.after.cpu.cr3 v')
  pub others : AreSame (staying t.after.cpu.cr3 (put_under (Some t.before.cpu.cr3) v)) v'.other_roots
  pub unmarked : v'.stale ≡ false

-- A step that loads CR3 keeps it: settled first, where what is present comes from the step's set, and then through the load. What
-- is owed with the loaded value is then present.
abbrev pub LoadsRemember : Type 0
LoadsRemember =
    (m : Setting) (steps : List Taken) (t : Taken) (v between v' : Sight)
    → loads_root t ≡ true → IsRemembered m steps t.before v → IsTold t v between
    → ComesFrom t (entries_of between.slots) → IsLoaded t between v'
    → IsRemembered m (steps ++ t ∷ []) t.after v'
    × ((old : List Taken) (left : Taken) (since : List Taken) → IsOwed m (steps ++ t ∷ []) t.after t.after.cpu.cr3 old left since
    → ComesFrom left (entries_of v'.slots))

-- So the next step uses what the rule asks for after a load, where it uses all that is then kept.
abbrev pub LoadsBringBack : Type 0
LoadsBringBack =
    (m : Setting) (steps : List Taken) (t : Taken) (set : Set) (slots : ℕ → Option Slot) → set ≡ entries_of slots
    → ((old : List Taken) (left : Taken) (since : List Taken) → IsOwed m (steps ++ t ∷ []) t.after t.after.cpu.cr3 old left since
    → ComesFrom left (entries_of slots))
    → Reloads (clashes m (steps ++ t ∷ []) t.after) m (steps ++ t ∷ []) t t.after set
