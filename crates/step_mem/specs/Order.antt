-- In which order a translation is tested: the first test that holds says what is met, and where none holds it is ready.
-- The numbers are those of the stops in docs/FORMATS.md, which gives the order in words.
use Rattle.std.specs.Prelude.{◌≡◌, ℕ, ◌+◌, ◌-◌, ◌*◌, ◌/◌, ◌^◌, List, [], ◌∷◌, ◌++◌, Bool, true, false, ◌==◌, nat_lt, nat_le, ◌&&◌, ◌||◌, not, if◌then◌else◌, Option, Some, None}
use Rattle.std.specs.FinMap.{get}
use Rattle.guest_ram.specs.Bytes.{word32}
use Rattle.ia32_types.specs.declared.addresses.TheConstants.{DATA_ADDRESS, TEXT_ADDRESS, WINDOW_ADDRESS, WINDOW_END}
use Rattle.ia32_types.specs.declared.stop.Stop.TheVariants as stops
use Rattle.paging.specs.declared.entry.Access.{Access}
use Rattle.paging.specs.declared.entry.Entry.{Entry}
use Rattle.paging.specs.declared.entry.Touch.{Touch}
use Rattle.paging.specs.declared.entry.Touch.TheVariants.{Ready, Fault, Stop}
use Rattle.paging.specs.Space.{Mode, Bare, Wedge, Space}
use Rattle.paging.specs.Fresh.{has, dir_place, word_place, is_large, has_reserved, large_frame, large_entry, entry_of, grants}
use Rattle.paging.specs.Uses.{Tables, tables_of, is_text, table_is_text, is_barred, marks_own, fault_code, usable, page_uses, unready, uses, fetches}

-- whether a test holds, and what is met where it is the first that does
abbrev pub Test : Type 0
Test = Bool × Touch

abbrev pub met_by : List Test → Touch
met_by [] = Ready
met_by (t ∷ ts) = if t.0 then t.1 else met_by ts

-- ---- what the tables say of a page

-- the PDE of a page, and the word of the table that it names
abbrev pub directory_word : Tables → ℕ → ℕ
directory_word s page = word32 s.ram (dir_place s.cr3 page)

abbrev pub table_word : Tables → ℕ → ℕ
table_word s page = word32 s.ram (word_place (directory_word s page) page)

-- the PDE maps a page of 4 MB by itself
abbrev pub maps_large : Tables → ℕ → Bool
maps_large s page = is_large s.pse (directory_word s page)

-- a word of the walk isn't present
abbrev pub is_absent : Tables → ℕ → Bool
is_absent s page = not (has (directory_word s page) 1) || (not (maps_large s page) && not (has (table_word s page) 1))

-- the table, or the page's frame, isn't in memory
abbrev pub is_beyond : Tables → ℕ → Bool
is_beyond s page =
    has (directory_word s page) 1 && (
    if maps_large s page then nat_le s.frames (large_frame (directory_word s page) page) else
    nat_le s.frames (directory_word s page / 4096) || (has (table_word s page) 1 && nat_le s.frames (table_word s page / 4096))
    )

-- what the words give the page, and where the last of them lies
abbrev pub entry_by : Tables → ℕ → Entry
entry_by s page =
    if maps_large s page then large_entry page (directory_word s page) else
    entry_of page (directory_word s page) (table_word s page)

abbrev pub last_place : Tables → ℕ → ℕ
last_place s page = if maps_large s page then dir_place s.cr3 page else word_place (directory_word s page) page

-- ---- the tests

-- Of a fresh walk: 14 of the PDE, 2 of the directory, 5, 14 of the PTE, 2, a denial, 13, 16.
abbrev pub walk_tests : Tables → (fetch : Bool) → ℕ → ℕ → Access → List Test
walk_tests s fetch page at access =
    (is_text s.mode (s.cr3 / 4096), Stop stops.TableInText)
    ∷ (nat_le s.frames (s.cr3 / 4096), Stop stops.BeyondRam)
    ∷ (has (directory_word s page) 1 && (maps_large s page && has_reserved (directory_word s page)), Stop stops.ControlBits)
    ∷ (table_is_text s.mode s.pse (directory_word s page), Stop stops.TableInText)
    ∷ (is_beyond s page, Stop stops.BeyondRam)
    ∷ (is_absent s page, Fault (fault_code false access) at)
    ∷ (not (grants (entry_by s page) access s.wp), Fault (fault_code true access) at)
    ∷ (is_barred s.mode fetch access.user page (entry_by s page).frame, Stop stops.TextMapped)
    ∷ (marks_own s (dir_place s.cr3 page) (last_place s page) access.write, Stop stops.CodeIsTable)
    ∷ []

-- of a page: by an entry that lets the access pass 13 alone, and else those of a fresh walk
abbrev pub tests_by : Option Entry → Space → (fetch : Bool) → ℕ → ℕ → Access → List Test
tests_by None s fetch page at access = walk_tests (tables_of s) fetch page at access
tests_by (Some entry) s fetch page at access = (is_barred s.mode fetch access.user page entry.frame, Stop stops.TextMapped) ∷ []

abbrev pub page_tests : Space → (fetch : Bool) → ℕ → ℕ → Access → List Test
page_tests s fetch page at access = tests_by (usable (get s.set page) access s.wp) s fetch page at access

-- a monitor's windows end where the data begins, and bar what has the rights of level 0
abbrev pub is_windowed : Mode → Access → ℕ → Bool
is_windowed Bare access at = false
is_windowed (Wedge text count own) access at = not (access.user || nat_le DATA_ADDRESS at)

-- of a range's first byte: 9, 10, 11
abbrev pub window_tests : Mode → Access → ℕ → List Test
window_tests mode access at =
    (is_windowed mode access at && nat_le TEXT_ADDRESS at, Stop stops.TextTouched)
    ∷ (is_windowed mode access at && (nat_le WINDOW_ADDRESS at && nat_lt at WINDOW_END), Stop stops.WedgeTouched)
    ∷ (is_windowed mode access at, Stop stops.LowTouched)
    ∷ []

-- of the second page of a range that reaches one
abbrev pub second_tests : Space → ℕ → ℕ → Access → List Test
second_tests s at len access =
    if (at + len - 1) / 4096 == at / 4096 then [] else
    page_tests s false ((at + len - 1) / 4096) ((at + len - 1) / 4096 * 4096) access

-- Of a range: 3, the windows, and then page by page, the second over what the first leaves.
abbrev pub range_tests : Space → ℕ → ℕ → Access → List Test
range_tests s at len access =
    (nat_lt (2 ^ 32) (at + len), Stop stops.WrapAccess)
    ∷ (window_tests s.mode access at
    ++ (page_tests (unready s) false (at / 4096) at access
    ++ second_tests (page_uses (unready s) false (at / 4096) at access).1 at len access))

-- each translation of a range, and each fetch, meets what the first of its tests gives that holds
abbrev pub RangesInOrder : Type 0
RangesInOrder = (s : Space) (at len : ℕ) (access : Access) → (uses s at len access).0 ≡ met_by (range_tests s at len access)

abbrev pub FetchesInOrder : Type 0
FetchesInOrder =
    (s : Space) (at len : ℕ) (user : Bool)
    → (fetches s at len user).0 ≡ met_by (page_tests (unready s) true (at / 4096) at (record { write = false; user = user }))
