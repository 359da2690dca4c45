-- Where a host's access leads: a walk of tables as they stand, with user rights, over all frames of the memory, which
-- sets no flag. Its pages are of 4 KB. Intel SDM volume 3, 32-bit paging; write protection plays no part in a user's access.
use Rattle.std.specs.Prelude.{ℕ, ◌*◌, ◌/◌, List, [], ◌∷◌, Bool, true, false, Option, Some, None, if◌then◌else◌}
use Rattle.guest_ram.specs.Bytes.{word32}
use Rattle.paging.specs.declared.entry.Walk.{Walk}
use Rattle.paging.specs.declared.entry.Walk.TheVariants.{Absent, Beyond, Reserved, Found}
use Rattle.paging.specs.declared.bits.TheConstants.{PTE_P}
use Rattle.paging.specs.Fresh.{has, dir_place, fresh, grants}

-- the frame, or none where the access is denied; a frame that isn't there counts as not present
abbrev pub reached_by : Bool → Walk → Option ℕ
reached_by write Absent = None
reached_by write Beyond = None
reached_by write Reserved = None
reached_by write (Found entry dir_at word_at) = if grants entry (record { write = write; user = true }) true then Some entry.frame else None

-- by the directory in the frame root, in a memory of so many frames
abbrev pub reached : List ℕ → ℕ → ℕ → ℕ → Bool → Option ℕ
reached ram frames root page write = reached_by write (fresh ram frames (4096 * root) false page)

abbrev pub with_table : ℕ → List ℕ
with_table dir = if has dir PTE_P then (dir / 4096) ∷ [] else []

-- the frames that such a walk reads: the directory, and the table that its word names
abbrev pub walk_frames : List ℕ → ℕ → ℕ → List ℕ
walk_frames ram root page = root ∷ with_table (word32 ram (dir_place (4096 * root) page))
