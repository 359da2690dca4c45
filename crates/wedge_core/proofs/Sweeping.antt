-- What is kept, when the pages of one directory index after the other leave.
use Rattle.std.proofs.Common.{◌≡◌, ℕ, ◌+◌, ◌*◌, ◌/◌, ◌^◌, ◌<◌, ◌≤◌, Option, None, ◌∙◌, inl, inr, arith}
use Rattle.std.proofs.lemmas.Bool.{cases_lt}
use Rattle.std.proofs.lemmas.Bool.Decides.{eqb_tells}
use Rattle.shadow_tables.specs.Slots.{Slot, LosesDir}

-- the pages below a directory index are gone
abbrev pub GoneBelow : ℕ → (ℕ → Option Slot) → Type 0
GoneBelow index slots = (page : ℕ) → page < 2 ^ 20 → page / 1024 < index → slots page ≡ None

pub none_below : (slots : ℕ → Option Slot) → GoneBelow 0 slots
none_below slots page lt below = absurd (omega (arith, below))

pub next_below : (old new : ℕ → Option Slot) (index : ℕ) → LosesDir old new index → GoneBelow index old → GoneBelow (index + 1) new
next_below old new index l gone page lt below =
    elim (eqb_tells (page / 1024) index) [
      | inl e ↦ l.gone page lt e.1
      | inr n ↦ let other = n.1 in l.others page lt other ∙ gone page lt (omega (arith, below, other))
    ]

-- and of more, where nothing is kept of those
pub none_between : (slots : ℕ → Option Slot) (index next : ℕ)
    → ((page : ℕ) → page < 2 ^ 20 → 1024 * index ≤ page → page < 1024 * next → slots page ≡ None)
    → GoneBelow index slots → GoneBelow next slots
none_between slots index next none gone page lt below =
    elim (cases_lt (page / 1024) index) [
      | inl l ↦ gone page lt l
      | inr h ↦ none page lt (omega (arith, h)) (omega (arith, below))
    ]

pub all_below : (slots : ℕ → Option Slot) (index : ℕ) → 1024 ≤ index → GoneBelow index slots → (page : ℕ)
    → page < 2 ^ 20 → slots page ≡ None
all_below slots index done gone page lt = gone page lt (omega (arith, done, lt))
