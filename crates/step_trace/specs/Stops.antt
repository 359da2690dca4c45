-- Where a step stops at an access: the linear address that the access is about. A page is told by the machine (denied_page of
-- machine_step), and the address in it by what the processor does.
use Rattle.std.specs.Prelude.{ℕ, ◌+◌, ◌*◌, ◌/◌, ◌%◌, ◌^◌, ◌==◌, nat_lt, Bool, false, Option, Some, None, if◌then◌else◌}
use Rattle.std.specs.Option.{option_or, unwrap_or}
use Rattle.ia32_types.specs.declared.flags.Regs.{Regs}
use Rattle.ia32_exec.specs.declared.access.Range.{Range}
use Rattle.ia32_exec.specs.declared.access.Ranges.{Ranges}
use Rattle.ia32_exec.specs.Effect.{ranges_of}
use Rattle.machine_step.specs.declared.worked.Raised.{Raised}
use Rattle.machine_step.specs.Raised.{raised_of}
use Rattle.machine_step.specs.Left.{left_of, denied_page}
use Rattle.machine_model.specs.State.{Setting, State}
use Rattle.step_text.specs.declared.activity.Activity.{Activity}
use Rattle.step_text.specs.declared.activity.Activity.TheVariants as activity
use Rattle.step_trace.specs.Doing.{activity_of}

-- a page's first address
abbrev pub page_start : ℕ → ℕ
page_start page = page * 4096 % 2 ^ 32

-- an address that lies in the page, and else the page's first
abbrev pub within : ℕ → ℕ → ℕ
within page at = if at / 4096 == page then at else page_start page

-- where a range begins, if it begins in the page
abbrev pub start_in : ℕ → Option Range → Option ℕ
start_in page None = None
start_in page (Some range) = if range.at / 4096 == page then Some range.at else None

-- Where a range of the instruction begins in the page, the read range before the write range; and else the page's first address,
-- where the bytes of a range lie that are in its second page.
abbrev pub by_ranges : ℕ → Ranges → ℕ
by_ranges page ranges = unwrap_or (option_or (start_in page ranges.read) (start_in page ranges.write)) (page_start page)

-- of a fetch EIP; of what else goes through the page, its first address
abbrev pub address_in : Activity → Regs → ℕ → ℕ
address_in activity.Unfetched regs page = within page regs.eip
address_in (activity.CarriesOut insn len) regs page = by_ranges page (ranges_of insn regs)
address_in _ regs page = page_start page

-- a range that passes the end of the address space
abbrev pub if_past_end : Option Range → Option ℕ
if_past_end None = None
if_past_end (Some range) = if nat_lt (2 ^ 32) (range.at + range.len) then Some range.at else None

-- where no page was denied: the fetch, or a range, that passes the end
abbrev pub past_end : Activity → Regs → Option ℕ
past_end activity.Unfetched regs = Some regs.eip
past_end (activity.CarriesOut insn len) regs = option_or (if_past_end (ranges_of insn regs).read) (if_past_end (ranges_of insn regs).write)
past_end _ regs = None

-- the page fault was in this page
abbrev pub is_fault_in : ℕ → Option ℕ → Bool
is_fault_in page None = false
is_fault_in page (Some at) = at / 4096 == page

-- Of an exception's delivery, the page at which it stops; the page of the fault itself is told with the exception.
abbrev pub in_delivery : Raised → Option ℕ → Option ℕ
in_delivery raised None = None
in_delivery raised (Some page) = if is_fault_in page raised.at then None else Some (page_start page)

abbrev pub in_work : Activity → Regs → Option ℕ → Option ℕ
in_work does regs None = past_end does regs
in_work does regs (Some page) = Some (address_in does regs page)

-- by what the processor does, what it raised, and the page that was denied
unfoldable pub address_of : Activity → Regs → Option Raised → Option ℕ → Option ℕ
address_of does regs None page = in_work does regs page
address_of does regs (Some raised) page = in_delivery raised page

-- of a step that stops
abbrev pub stop_address : Setting → State → Option ℕ
stop_address m b = address_of (activity_of m b) b.cpu.regs (raised_of m b b.set) (denied_page (left_of m b b.set))
