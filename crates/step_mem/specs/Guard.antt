-- Whose rules hold, and where the original text lies.
use Rattle.std.specs.Prelude.{◌≡◌, ℕ, ◌+◌, ◌*◌, ◌/◌, ◌≤◌, ◌<◌, false, length, Option, Some, None, IfSome}
use Rattle.std.specs.FinMap.{FinMap, get}
use Rattle.std.specs.Ordering.{nat_cmp}
use Rattle.paging.specs.declared.entry.Entry.{Entry}
use Rattle.paging.specs.Space.{Mode, Bare, Wedge, Own as Spots}
use Rattle.paging.specs.Uses.{is_text}
use Rattle.step_mem.specs.declared.guard.Own.{Own}
use Rattle.step_mem.specs.declared.guard.Text.{Text}
use Rattle.step_mem.specs.declared.guard.Guard.{Guard}

-- the bytes of an instruction, as far as they were read
abbrev pub own_of : Own → Spots
own_of own = record { front = own.front; front_len = own.front_len; back = own.back; back_len = own.back_len }

abbrev pub mode_by : Option Text → Own → Mode
mode_by None own = Bare
mode_by (Some text) own = Wedge text.first text.count (own_of own)

abbrev pub mode_of : Guard → Mode
mode_of guard = mode_by guard.text.now guard.own

-- the original text lies in the frames that hold text, and these are among the guest's
abbrev pub IsLaid : Option Text → ℕ → Type 0
IsLaid text frames = IfSome text (λ t. (t.first + t.count ≤ frames) × (length t.bytes.now ≤ 4096 * t.count))

-- the frame of an entry, where there is one, holds no text
abbrev pub IsApart : Mode → Option Entry → Type 0
IsApart mode entry = IfSome entry (λ e. is_text mode e.frame ≡ false)

-- the page of an address isn't translated to text
abbrev pub IsApartAt : Mode → FinMap nat_cmp Entry → ℕ → Type 0
IsApartAt mode set at = IsApart mode (get set (at / 4096))

-- the page of no byte of a range is
abbrev pub AreApart : Mode → FinMap nat_cmp Entry → ℕ → ℕ → Type 0
AreApart mode set at len = (byte : ℕ) → at ≤ byte → byte < at + len → IsApartAt mode set byte
