-- What a step reports to the shadows: the frames that it read as tables, and those that it wrote.
use Rattle.std.specs.Prelude.{ℕ, nat_le, not, ◌||◌, Bool, List, filter}
use Rattle.guest_ram.specs.Among.{is_among}

-- those of the frames that a guest may have, of at most 64 MB
abbrev pub guest_frames : List ℕ → List ℕ
guest_frames frames = filter (λ frame. not (nat_le 16384 frame)) frames

-- the guest's tables were read from the frame before the step, or are read from it by the step
abbrev pub read_by : (ℕ → Bool) → List ℕ → ℕ → Bool
read_by read_from tables frame = read_from frame || is_among frame (guest_frames tables)
