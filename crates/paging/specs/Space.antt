-- What the guest's memory stands for within one step.
use Rattle.std.specs.Prelude.{ℕ, ◌+◌, ◌-◌, ◌*◌, ◌/◌, ◌%◌, ◌==◌, List, [], ◌∷◌, Bool, Option, Some, None, if◌then◌else◌}
use Rattle.std.specs.FinMap.{FinMap, get}
use Rattle.std.specs.Ordering.{nat_cmp}
use Rattle.guest_ram.specs.Bytes as bytes
use Rattle.ia32_types.specs.declared.size.Size.{Size}
use Rattle.ia32_types.specs.declared.size.Size.TheVariants.{Byte, Word, Long}
use Rattle.paging.specs.declared.entry.Entry.{Entry}
use Rattle.paging.specs.Numbers.{number_stored}

-- The physical bytes of the instruction of this step, as far as they were read: those in its first page and those
-- in its second. Each piece is a place and a length.
pub record Own : Type 0 where
  pub front : ℕ
  pub front_len : ℕ
  pub back : ℕ
  pub back_len : ℕ

-- none yet
abbrev pub no_own : Own
no_own = record { front = 0; front_len = 0; back = 0; back_len = 0 }

-- Whose rules hold: the bare machine's, or those of a monitor that keeps the frames of the text, `count` of them
-- from `text` on, with the instruction's own bytes.
pub data Mode : Type 0 where
  Bare : Mode
  Wedge : (text count : ℕ) (own : Own) → Mode

-- a range that was translated
pub record Span : Type 0 where
  pub start : ℕ
  pub len : ℕ
  pub write : Bool

-- a range that was translated before the last, with the translations that held then
pub record Earlier : Type 0 where
  pub start : ℕ
  pub len : ℕ
  pub set : FinMap nat_cmp Entry

pub record Space : Type 0 where
  -- all bytes, of which the first 4,096 * frames are the guest's
  pub ram : List ℕ
  pub frames : ℕ
  -- the cached translations, by page
  pub set : FinMap nat_cmp Entry
  pub cr3 : ℕ
  -- the PSE flag of CR4 and the WP flag of CR0
  pub pse : Bool
  pub wp : Bool
  pub mode : Mode
  -- through how many pages this step went, and through which, in their order
  pub pages : ℕ
  pub visited : List ℕ
  -- the frames that this step's walks read as a directory or table, and those of the ranges that it made ready for a
  -- write, in their order
  pub tables : List ℕ
  pub wrote : List ℕ
  -- what the last touch made ready
  pub ready : Span
  -- what the touch before it made ready
  pub earlier : Earlier

-- what was ready is what was ready earlier, once the next touch begins
abbrev pub earlier_of : Space → Earlier
earlier_of s = record { start = s.ready.start; len = s.ready.len; set = s.set }

-- memory seen through the translations that held earlier
abbrev pub as_earlier : Space → Space
as_earlier s = record s { set = s.earlier.set }

-- the physical place of an address, by the entry of its page
abbrev pub place_by : Option Entry → ℕ → ℕ
place_by None at = 0
place_by (Some entry) at = entry.frame * 4096 + at % 4096

-- the frame of a page, by its entry
abbrev pub frame_by : Option Entry → ℕ
frame_by None = 0
frame_by (Some entry) = entry.frame

-- the frames of a range, by the set of now
abbrev pub frames_of : Space → ℕ → ℕ → List ℕ
frames_of s at len =
    frame_by (get s.set (at / 4096)) ∷ (
    if (at + len - 1) / 4096 == at / 4096 then [] else frame_by (get s.set ((at + len - 1) / 4096)) ∷ []
    )

unfoldable pub place : Space → ℕ → ℕ
place s at = place_by (get s.set (at / 4096)) at

unfoldable pub byte_at : Space → ℕ → ℕ
byte_at s at = bytes.byte s.ram (place s at)

-- the number at an address, each byte through the entry of its page
unfoldable pub loaded : Space → ℕ → Size → ℕ
loaded s at Byte = byte_at s at
loaded s at Word = byte_at s at + 256 * byte_at s (at + 1)
loaded s at Long = (byte_at s at + 256 * byte_at s (at + 1)) + 65536 * (byte_at s (at + 2) + 256 * byte_at s (at + 3))

-- the same in the range that was made ready earlier, through the translations that it had then
abbrev pub loaded_earlier : Space → ℕ → Size → ℕ
loaded_earlier s at size = loaded (as_earlier s) at size

abbrev pub with_ram : Space → List ℕ → Space
with_ram s ram = record s { ram = ram }

unfoldable pub written : Space → ℕ → Size → ℕ → List ℕ
written s at size v = number_stored (place s) s.ram at size v

-- a write changes bytes of memory and nothing else
abbrev pub saved : Space → ℕ → Size → ℕ → Space
saved s at size v = with_ram s (written s at size v)
