-- How a program finds the pages that the next instruction uses without doing its step: by the entries that are there,
-- and by walks that set nothing. A fetch sets the accessed flags of its walks before it reads its bytes, so they are
-- read as these flags leave them. Where the monitor's rules stop the fetch, nothing is found.
use Rattle.std.specs.Prelude.{◌≡◌, ℕ, ◌+◌, ◌*◌, ◌/◌, ◌%◌, ◌^◌, ◌≤◌, ◌<◌, Bool, true, false, ◌==◌, nat_le, nat_lt, ◌&&◌, ◌||◌, not, List, [], ◌∷◌, ◌++◌, length, Option, Some, None, Ok, bit_or, if◌then◌else◌}
use Rattle.std.specs.List.{list_any, All}
use Rattle.std.specs.FinMap.{get}
use Rattle.guest_ram.specs.Among.{is_among}
use Rattle.guest_ram.specs.Bytes.{AreBytes, byte, part, with_byte}
use Rattle.ia32_types.specs.declared.addresses.TheConstants.{LAST_PAGE}
use Rattle.ia32_types.specs.declared.insn.Insn.{Insn}
use Rattle.ia32_decode.specs.declared.answer.Decoded.{Decoded}
use Rattle.ia32_decode.specs.declared.answer.Decoded.TheVariants as begins
use Rattle.ia32_decode.specs.Decoding.{decoded}
use Rattle.ia32_decode.specs.Front.{longest, front_len}
use Rattle.descriptors.specs.Controls.{pse_of, wp_of}
use Rattle.descriptors.specs.Access.{by_level}
use Rattle.paging.specs.declared.entry.Access.{Access}
use Rattle.paging.specs.declared.entry.Entry.{Entry}
use Rattle.paging.specs.declared.entry.Walk.{Walk}
use Rattle.paging.specs.declared.entry.Walk.TheVariants.{Absent, Beyond, Reserved, Found}
use Rattle.paging.specs.Fresh.{has, fresh, grants}
use Rattle.paging.specs.Space.{Mode, Space}
use Rattle.paging.specs.Uses.{is_text, is_barred, usable}
use Rattle.machine_model.specs.State.{Setting, State, space_at_start, wedge_mode}
use Rattle.machine_model.specs.Instruction.{next_page, fetched}
use Rattle.machine_model.specs.Clash.{Use, fetch_uses, range_uses, uses_at, clash_in, instruction_clashes}

-- memory with the accessed flag set in these bytes
abbrev pub marked : List ℕ → List ℕ → List ℕ
marked ram [] = ram
marked ram (at ∷ marks) = marked (with_byte ram at (bit_or (byte ram at) 0x20)) marks

-- where a fetch finds a page, and the bytes that its walk marks
pub record Seen : Type 0 where
  pub frame : ℕ
  pub marks : List ℕ

-- code may not be fetched from this frame, or a word of the walk lies in a frame that holds text
abbrev pub is_stopped : Mode → Access → ℕ → ℕ → ℕ → ℕ → Bool
is_stopped mode access page frame dir_at word_at =
    is_barred mode true access.user page frame || (is_text mode (dir_at / 4096) || is_text mode (word_at / 4096))

abbrev pub found_by : Mode → ℕ → Access → Bool → Walk → Option Seen
found_by mode page access wp Absent = None
found_by mode page access wp Beyond = None
found_by mode page access wp Reserved = None
found_by mode page access wp (Found entry dir_at word_at) =
    if not (grants entry access wp) then None else
    (if is_stopped mode access page entry.frame dir_at word_at then None else Some
    (record { frame = entry.frame; marks = dir_at ∷ word_at ∷ [] }))

-- by an entry that may be used, or else by a walk
abbrev pub seen_by : Mode → ℕ → Option Entry → Access → Bool → Walk → Option Seen
seen_by mode page (Some entry) access wp walk =
    if is_barred mode true access.user page entry.frame then None else Some (record { frame = entry.frame; marks = [] })
seen_by mode page None access wp walk = found_by mode page access wp walk

abbrev pub seen : Setting → State → ℕ → Option Seen
seen m b page = seen_by m.mode page (usable (get b.set page) (by_level b.cpu false) (wp_of b.cpu)) (by_level b.cpu false) (wp_of b.cpu)
    (fresh b.ram m.frames b.cpu.cr3 (pse_of b.cpu) page)

-- the byte is one of those that the fetch reads in its first page
abbrev pub is_front : State → Seen → ℕ → Bool
is_front b x at =
    nat_le (4096 * x.frame + b.cpu.regs.eip % 4096) at && nat_lt at (4096 * x.frame + b.cpu.regs.eip % 4096 + front_len b.cpu.regs.eip)

-- one of these bytes is among them, and its accessed flag is clear
abbrev pub marks_front : State → Seen → List ℕ → Bool
marks_front b x marks = list_any (λ at. is_front b x at && not (has (byte (marked b.ram x.marks) at) 0x20)) marks

abbrev pub seen_behind : State → Seen → Option Seen → Option Seen
seen_behind b x None = None
seen_behind b x (Some y) = if marks_front b x y.marks then None else Some y

-- where the fetch finds its second page: its walk may not mark what was read of the first
abbrev pub next_seen : Setting → State → Seen → Option Seen
next_seen m b x = seen_behind b x (seen m b (next_page b.cpu.regs.eip / 4096))

-- bytes of a page
abbrev pub bytes_seen : List ℕ → Seen → ℕ → ℕ → List ℕ
bytes_seen ram x at len = part ram (4096 * x.frame + at % 4096) len

-- with the bytes of the next page
abbrev pub uses_on : State → List ℕ → List ℕ → Option Seen → List Use
uses_on b ram front None = fetch_uses b (b.cpu.regs.eip / 4096 ∷ next_page b.cpu.regs.eip / 4096 ∷ [])
uses_on b ram front (Some x) =
    fetch_uses b (b.cpu.regs.eip / 4096 ∷ next_page b.cpu.regs.eip / 4096 ∷ [])
    ++ range_uses b (decoded (front ++ bytes_seen (marked ram x.marks) x (next_page b.cpu.regs.eip) longest))

-- after the bytes of the first page
abbrev pub uses_behind : Setting → State → Seen → List ℕ → Decoded → List Use
uses_behind m b x front (begins.Insn insn len) = fetch_uses b (b.cpu.regs.eip / 4096 ∷ []) ++ range_uses b (begins.Insn insn len)
uses_behind m b x front begins.Outside = fetch_uses b (b.cpu.regs.eip / 4096 ∷ [])
uses_behind m b x front begins.Short =
    if b.cpu.regs.eip / 4096 == LAST_PAGE then fetch_uses b (b.cpu.regs.eip / 4096 ∷ [])
    else uses_on b (marked b.ram x.marks) front (next_seen m b x)

abbrev pub uses_from : Setting → State → Option Seen → List Use
uses_from m b None = fetch_uses b (b.cpu.regs.eip / 4096 ∷ [])
uses_from m b (Some x) =
    uses_behind m b x (bytes_seen (marked b.ram x.marks) x b.cpu.regs.eip (front_len b.cpu.regs.eip))
    (decoded (bytes_seen (marked b.ram x.marks) x b.cpu.regs.eip (front_len b.cpu.regs.eip)))

-- the pages that the instruction at EIP uses, as a program finds them
abbrev pub uses_seen : Setting → State → List Use
uses_seen m b = uses_from m b (seen m b (b.cpu.regs.eip / 4096))

-- Where the step's fetch gives an instruction, these are the pages that the step itself uses.
abbrev pub UsesAreSeen : Type 0
UsesAreSeen =
    (m : Setting) (b : State)
    → m.mode ≡ wedge_mode m.image → 4096 * m.frames ≤ length b.ram → AreBytes b.ram → b.cpu.regs.eip < 2 ^ 32
    → (insn : Insn) (len : ℕ) (fetch : Space) → fetched (b.cpu.cpl == 3) b.cpu.regs.eip (space_at_start m.mode m.frames b.cpu b.ram b.set)
    ≡ Ok (begins.Insn insn len, fetch)
    → uses_at m b ≡ uses_seen m b

-- And a clash that such a look finds is one of the instruction at EIP.
abbrev pub LooksAgree : Type 0
LooksAgree =
    (m : Setting) (b : State)
    → m.mode ≡ wedge_mode m.image → 4096 * m.frames ≤ length b.ram → AreBytes b.ram → b.cpu.regs.eip < 2 ^ 32
    → clash_in (get b.set) (wp_of b.cpu) (uses_seen m b) ≡ true → instruction_clashes m b ≡ true

-- A byte of such a memory is that of the memory, with the flag where it is marked.
abbrev pub MarksAreRead : Type 0
MarksAreRead =
    (ram marks : List ℕ) (k : ℕ) → AreBytes ram → All (λ at. at < length ram) marks
    → byte (marked ram marks) k ≡ (if is_among k marks then bit_or (byte ram k) 0x20 else byte ram k)
