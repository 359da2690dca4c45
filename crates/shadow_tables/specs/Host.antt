-- Where a host's access leads, by what is kept for the page, over all frames of the memory.
use Rattle.std.specs.Prelude.{ℕ, Bool, nat_le, Option, Some, None, if◌then◌else◌}
use Rattle.shadow_tables.specs.Slots.{Slot, is_adequate}
use Rattle.shadow_tables.specs.declared.words.Side.{Side}

-- the frame, if it is there
abbrev pub frame_below : ℕ → ℕ → Option ℕ
frame_below frames frame = if nat_le frames frame then None else Some frame

abbrev pub lent : ℕ → Option Slot → Side → Bool → Option ℕ
lent frames None side write = None
lent frames (Some slot) side write = if is_adequate (Some slot) side write then frame_below frames slot.entry.frame else None
