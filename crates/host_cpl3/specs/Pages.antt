-- Where addresses lead, by a walk of the view's tables as they stand, with a user's rights, over all frames of the
-- host's memory `m`. Its pages are of 4 KB. `root` is the frame of the directory.
use Rattle.std.specs.Prelude.{ℕ, ◌+◌, ◌*◌, ◌/◌, ◌%◌, ◌^◌, List, length, Bool, true, false, nat_lt, Option, Some, None, Ok, Err, if◌then◌else◌}
use Rattle.guest_ram.specs.Bytes.{byte}
use Rattle.paging.specs.declared.entry.Entry.{Entry}
use Rattle.paging.specs.declared.entry.Walk.{Walk}
use Rattle.paging.specs.declared.entry.Walk.TheVariants.{Absent, Beyond, Reserved, Found}
use Rattle.paging.specs.Fresh.{fresh}
use Rattle.paging.specs.Reached.{reached_by}
use Rattle.paging.specs.Uses.{fault_code}
use Rattle.host_cpl3.specs.declared.exit.Exit.{Exit}
use Rattle.host_cpl3.specs.declared.exit.Exit.TheVariants as exits
use Rattle.host_cpl3.specs.Met.{Met}

-- after the last page of the address space there is none
abbrev pub walked : List ℕ → ℕ → ℕ → Walk
walked m root page = if nat_lt page (2 ^ 20) then fresh m (length m / 4096) (4096 * root) false page else Absent

-- a page that isn't there lacks one of its words, or has a table or a frame outside the memory
abbrev pub is_there : Walk → Bool
is_there Absent = false
is_there Beyond = false
is_there Reserved = false
is_there (Found entry dir_at word_at) = true

abbrev pub entry_in : Walk → Option Entry
entry_in Absent = None
entry_in Beyond = None
entry_in Reserved = None
entry_in (Found entry dir_at word_at) = Some entry

-- the page fault of an access whose first byte in the page is at an address
abbrev pub page_fault : Bool → Bool → ℕ → Exit
page_fault there write at = exits.Fault 14 (fault_code there (record { write = write; user = true })) at

abbrev pub or_fault : Bool → Bool → ℕ → Option ℕ → Met ℕ
or_fault there write at (Some frame) = Ok frame
or_fault there write at None = Err (page_fault there write at)

abbrev pub by_walk : Bool → ℕ → Walk → Met ℕ
by_walk write at walk = or_fault (is_there walk) write at (reached_by write walk)

-- the frame of an address's page, or the fault of the access
unfoldable pub page_met : List ℕ → ℕ → Bool → ℕ → Met ℕ
page_met m root write at = by_walk write at (walked m root (at / 4096))

abbrev pub place_in : Option ℕ → ℕ → ℕ
place_in None at = 0
place_in (Some frame) at = 4096 * frame + at % 4096

-- the place of an address in the memory
unfoldable pub place : List ℕ → ℕ → ℕ → ℕ
place m root at = place_in (reached_by false (walked m root (at / 4096))) at

-- the byte at an address
unfoldable pub byte_at : List ℕ → ℕ → ℕ → ℕ
byte_at m root at = byte m (place m root at)
