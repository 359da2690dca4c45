-- Bytes and walks by the translations of a moment.
use Rattle.std.specs.Prelude.{ℕ, ◌+◌, ◌*◌, ◌/◌, ◌%◌, List, Option, Some, None}
use Rattle.std.specs.FinMap.{get}
use Rattle.guest_ram.specs.Bytes.{byte}
use Rattle.paging.specs.declared.entry.Entry.{Entry}
use Rattle.paging.specs.declared.entry.Walk.{Walk}
use Rattle.paging.specs.Fresh.{fresh}
use Rattle.linear_view.specs.View.{View, translation}

-- what a walk finds of a page
abbrev pub walked : View → ℕ → Walk
walked v page = fresh v.ram v.frames v.cr3 v.pse page

-- what is cached of it
abbrev pub cached : View → ℕ → Option Entry
cached v page = get v.set page

abbrev pub byte_by : List ℕ → ℕ → Option Entry → Option ℕ
byte_by ram at None = None
byte_by ram at (Some entry) = Some (byte ram (entry.frame * 4096 + at % 4096))

-- the byte at a linear address
unfoldable pub byte_now : View → ℕ → Option ℕ
byte_now v at = byte_by v.ram at (translation v (at / 4096))
