-- Translation of one range: the set's entry where it allows the access, and else a fresh walk, which sets the
-- flags and replaces the page's entry. Page by page from the lowest; the first test that holds decides.
use Rattle.std.specs.Prelude.{ℕ, ◌+◌, ◌-◌, ◌*◌, ◌/◌, ◌^◌, List, [], ◌∷◌, ◌++◌, Bool, true, false, ◌==◌, nat_lt, nat_le, ◌&&◌, ◌||◌, not, if◌then◌else◌, Option, Some, None}
use Rattle.std.specs.FinMap.{FinMap, get, insert, remove, retain_keys}
use Rattle.std.specs.Ordering.{nat_cmp}
use Rattle.guest_ram.specs.Bytes.{byte, word32}
use Rattle.ia32_types.specs.declared.addresses.TheConstants.{DATA_ADDRESS, TEXT_ADDRESS, TEXT_PAGE, WINDOW_ADDRESS, WINDOW_END}
use Rattle.ia32_types.specs.declared.stop.Stop as reason
use Rattle.ia32_types.specs.declared.stop.Stop.TheVariants as stops
use Rattle.paging.specs.declared.entry.Access.{Access}
use Rattle.paging.specs.declared.entry.Entry.{Entry}
use Rattle.paging.specs.declared.entry.Walk.{Walk}
use Rattle.paging.specs.declared.entry.Walk.TheVariants.{Absent, Beyond, Reserved, Found}
use Rattle.paging.specs.declared.entry.Touch.{Touch}
use Rattle.paging.specs.declared.entry.Touch.TheVariants.{Ready, Fault, Stop}
use Rattle.paging.specs.Space.{Mode, Bare, Wedge, Space, earlier_of, frames_of}
use Rattle.paging.specs.declared.bits.TheConstants.{PTE_P, PTE_A, PTE_D}
use Rattle.paging.specs.Fresh.{has, dir_place, is_large, fresh, tables_read, grants, allows, flagged}

-- the frame holds text
abbrev pub is_text : Mode → ℕ → Bool
is_text Bare frame = false
is_text (Wedge text count own) frame = nat_le text frame && nat_lt frame (text + count)

-- the byte is one of the instruction's own
abbrev pub is_own : Mode → ℕ → Bool
is_own Bare at = false
is_own (Wedge text count own) at =
    (nat_le own.front at && nat_lt at (own.front + own.front_len)) || (nat_le own.back at && nat_lt at (own.back + own.back_len))

-- the page of the text window to which the loader gave this frame
abbrev pub is_given : Mode → ℕ → ℕ → Bool
is_given Bare page frame = true
is_given (Wedge text count own) page frame =
    nat_le TEXT_PAGE page && nat_lt page (TEXT_PAGE + count) && frame == text + (page - TEXT_PAGE)

-- What a page may not be translated to: for data, and for code at level 3, a frame that holds text; for code at
-- level 0 another frame than the loader gave.
abbrev pub is_barred : Mode → (fetch user : Bool) → ℕ → ℕ → Bool
is_barred mode fetch user page frame = if fetch && not user then not (is_given mode page frame) else is_text mode frame

-- why a supervisor access may not begin there: the text window, the monitor's window, and the low addresses (profile)
abbrev pub window_stop : Mode → Access → ℕ → Option reason.Stop
window_stop Bare access at = None
window_stop (Wedge text count own) access at =
    if access.user || nat_le DATA_ADDRESS at then None else
    (if nat_le TEXT_ADDRESS at then Some stops.TextTouched else
    (if nat_le WINDOW_ADDRESS at && nat_lt at WINDOW_END then Some stops.WedgeTouched else Some stops.LowTouched))

-- what decides a fresh walk
pub record Tables : Type 0 where
  pub ram : List ℕ
  pub frames : ℕ
  pub cr3 : ℕ
  pub pse : Bool
  pub wp : Bool
  pub mode : Mode

abbrev pub tables_of : Space → Tables
tables_of s = record { ram = s.ram; frames = s.frames; cr3 = s.cr3; pse = s.pse; wp = s.wp; mode = s.mode }

-- the table that a PDE names stands in a frame that holds text
abbrev pub table_is_text : Mode → Bool → ℕ → Bool
table_is_text mode pse dir = has dir PTE_P && (not (is_large pse dir) && is_text mode (dir / 4096))

-- a walk reads a PDE or a PTE in a frame that holds text
unfoldable pub walks_text : Tables → ℕ → Bool
walks_text s page =
    is_text s.mode (s.cr3 / 4096)
    || (nat_lt (s.cr3 / 4096) s.frames && table_is_text s.mode s.pse (word32 s.ram (dir_place s.cr3 page)))

-- a walk turns a clear flag on in a byte of the instruction
unfoldable pub marks_own : Tables → ℕ → ℕ → Bool → Bool
marks_own s dir_at word_at write =
    (is_own s.mode dir_at && not (has (byte s.ram dir_at) PTE_A))
    || (is_own s.mode word_at && (not (has (byte s.ram word_at) PTE_A) || (write && not (has (byte s.ram word_at) PTE_D))))

-- the code of a page fault
abbrev pub fault_code : Bool → Access → ℕ
fault_code present access = ((if present then 1 else 0) + (if access.write then 2 else 0)) + (if access.user then 4 else 0)

-- the entry as a write leaves it
abbrev pub dirtied : Entry → Bool → Entry
dirtied entry write = record entry { dirty = entry.dirty || write }

-- what a fresh walk decides: the answer, the page's new entry, and memory with the flags set
pub record Decision : Type 0 where
  pub met : Touch
  pub entry : Option Entry
  pub ram : List ℕ

-- at is the first byte of the range in the page
abbrev pub by_walk : Tables → (fetch : Bool) → ℕ → Access → Walk → Decision
by_walk s fetch at access Absent = record { met = Fault (fault_code false access) at; entry = None; ram = s.ram }
by_walk s fetch at access Beyond = record { met = Stop stops.BeyondRam; entry = None; ram = s.ram }
by_walk s fetch at access Reserved = record { met = Stop stops.ControlBits; entry = None; ram = s.ram }
by_walk s fetch at access (Found entry dir_at word_at) =
    if not (grants entry access s.wp) then record { met = Fault (fault_code true access) at; entry = None; ram = s.ram } else
    (if is_barred s.mode fetch access.user entry.page entry.frame
    then record { met = Stop stops.TextMapped; entry = None; ram = s.ram } else
    (if marks_own s dir_at word_at access.write then record { met = Stop stops.CodeIsTable; entry = None; ram = s.ram } else
    record { met = Ready; entry = Some (dirtied entry access.write); ram = flagged s.ram dir_at word_at access.write }))

unfoldable pub decided : Tables → (fetch : Bool) → ℕ → ℕ → Access → Decision
decided s fetch page at access =
    if walks_text s page then record { met = Stop stops.TableInText; entry = None; ram = s.ram } else
    by_walk s fetch at access (fresh s.ram s.frames s.cr3 s.pse page)

-- the page's entry is this one, or there is none
abbrev pub with_entry : FinMap nat_cmp Entry → ℕ → Option Entry → FinMap nat_cmp Entry
with_entry set page None = remove set page
with_entry set page (Some entry) = insert set page entry

-- the pages of a directory index have no entry
abbrev pub without_dir : FinMap nat_cmp Entry → ℕ → FinMap nat_cmp Entry
without_dir set index = retain_keys set (λ page. not (page / 1024 == index))

-- the old entry leaves, and a fresh walk decides
abbrev pub settled : Space → ℕ → Decision → Touch × Space
settled s page d =
    (d.met, record s { ram = d.ram; set = with_entry s.set page d.entry; tables = s.tables ++ tables_read s.ram s.frames s.cr3 s.pse page })

-- an entry that lets the access pass
abbrev pub usable : Option Entry → Access → Bool → Option Entry
usable None access wp = None
usable (Some entry) access wp = if allows entry access wp then Some entry else None

-- the page by an entry of the set that may be used, or else by a fresh walk
abbrev pub by_entry : Space → (fetch : Bool) → ℕ → ℕ → Access → Option Entry → Touch × Space
by_entry s fetch page at access None = settled s page (decided (tables_of s) fetch page at access)
by_entry s fetch page at access (Some entry) =
    if is_barred s.mode fetch access.user page entry.frame then (Stop stops.TextMapped, s) else (Ready, s)

-- one page of a range
unfoldable pub page_uses : Space → (fetch : Bool) → ℕ → ℕ → Access → Touch × Space
page_uses s fetch page at access =
    by_entry (record s { pages = s.pages + 1; visited = s.visited ++ page ∷ [] }) fetch page at access (usable (get s.set page) access s.wp)

abbrev pub go_on : Touch → Space → (Space → Touch × Space) → Touch × Space
go_on Ready s f = f s
go_on met s f = (met, s)

-- after what was met, the rest where it was ready
abbrev pub and_then : Touch × Space → (Space → Touch × Space) → Touch × Space
and_then met f = go_on met.0 met.1 f

-- nothing is ready, until the whole range is
abbrev pub unready : Space → Space
unready s = record s { ready = record { start = 0; len = 0; write = false }; earlier = earlier_of s }

abbrev pub made_ready : ℕ → ℕ → Bool → Space → Touch × Space
made_ready at len write s = (
  Ready,
  record s {
    ready = record { start = at; len = len; write = write };
    wrote = if write then s.wrote ++ frames_of s at len else s.wrote;
  },
)

-- the second page of a range that reaches one
abbrev pub second_page : ℕ → ℕ → Access → Space → Touch × Space
second_page at len access s =
    if (at + len - 1) / 4096 == at / 4096 then (Ready, s) else
    page_uses s false ((at + len - 1) / 4096) ((at + len - 1) / 4096 * 4096) access

abbrev pub by_pages : ℕ → ℕ → Access → Space → Touch × Space
by_pages at len access s =
    and_then (page_uses s false (at / 4096) at access) (λ t. and_then (second_page at len access t) (made_ready at len access.write))

abbrev pub by_window : Option reason.Stop → ℕ → ℕ → Access → Space → Touch × Space
by_window None at len access s = by_pages at len access s
by_window (Some stop) at len access s = (Stop stop, s)

unfoldable pub uses : Space → ℕ → ℕ → Access → Touch × Space
uses s at len access =
    if nat_lt (2 ^ 32) (at + len) then (Stop stops.WrapAccess, unready s) else
    by_window (window_stop s.mode access at) at len access (unready s)

-- A fetch of bytes that lie in one page, at a level 3 or not. The windows are not tested: they bar data alone.
unfoldable pub fetches : Space → ℕ → ℕ → Bool → Touch × Space
fetches s at len user =
    and_then (page_uses (unready s) true (at / 4096) at (record { write = false; user = user })) (made_ready at len false)

-- The bytes that a fetch has read, in their place, as those of this step's instruction: of its first page, and of
-- its second.
abbrev pub with_front : Mode → ℕ → ℕ → Mode
with_front Bare at len = Bare
with_front (Wedge text count own) at len =
    Wedge text count (record { front = at; front_len = len; back = 0; back_len = 0 })

abbrev pub with_back : Mode → ℕ → ℕ → Mode
with_back Bare at len = Bare
with_back (Wedge text count own) at len = Wedge text count (record own { back = at; back_len = len })
