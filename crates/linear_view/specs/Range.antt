-- Where the bytes of a range that is written lie, in one page or two, and which stand there.
use Rattle.std.specs.Prelude.{ℕ, ◌+◌, ◌-◌, ◌/◌, ◌*◌, ◌%◌, ◌==◌, Bool, true, List, [], ◌++◌, min, Option, Some, None, if◌then◌else◌}
use Rattle.std.specs.Option.{option_or}
use Rattle.std.specs.FinMap.{get}
use Rattle.ia32_types.specs.declared.addresses.TheConstants.{LAST_PAGE}
use Rattle.paging.specs.declared.entry.Access.{Access}
use Rattle.paging.specs.declared.entry.Entry.{Entry}
use Rattle.paging.specs.Fresh.{fresh, allows}
use Rattle.descriptors.specs.Controls.{wp_of}
use Rattle.descriptors.specs.declared.cpu.Cpu.{Cpu}
use Rattle.linear_view.specs.View.{View, found, bytes_by}
use Rattle.linear_view.specs.declared.range.Places.{Places}

-- a write at this processor's level
abbrev pub writing : Cpu → Access
writing cpu = record { write = true; user = cpu.cpl == 3 }

abbrev pub if_allowed : Access → Bool → Option Entry → Option Entry
if_allowed access wp None = None
if_allowed access wp (Some entry) = if allows entry access wp then Some entry else None

-- By what a write goes: what is cached, where it lets the write pass and its dirty flag is set, and else what a walk finds.
unfoldable pub write_translation : View → Cpu → ℕ → Option Entry
write_translation v cpu page =
    option_or (if_allowed (writing cpu) (wp_of cpu) (get v.set page)) (found (fresh v.ram v.frames v.cr3 v.pse page))

-- how many bytes lie in the first page
abbrev pub in_first : ℕ → ℕ → ℕ
in_first at len = min len (4096 - at % 4096)

-- of the second page where it is reached, which the last page has not
abbrev pub second_of : View → Cpu → ℕ → ℕ → Option Entry
second_of v cpu at len =
    if in_first at len == len then None else if at / 4096 == LAST_PAGE then None else write_translation v cpu (at / 4096 + 1)

unfoldable pub places_of : View → Cpu → ℕ → ℕ → Places
places_of v cpu at len = record { first = write_translation v cpu (at / 4096); second = second_of v cpu at len }

abbrev pub both : Option (List ℕ) → Option (List ℕ) → List ℕ
both None more = []
both (Some front) None = []
both (Some front) (Some more) = front ++ more

abbrev pub alone : Option (List ℕ) → List ℕ
alone None = []
alone (Some bytes) = bytes

-- the bytes there; none, where one of the pages has no translation
unfoldable pub bytes_there : List ℕ → Places → ℕ → ℕ → List ℕ
bytes_there ram places at len =
    if in_first at len == len then alone (bytes_by ram places.first at len)
    else both (bytes_by ram places.first at (in_first at len)) (bytes_by ram places.second 0 (len - in_first at len))
