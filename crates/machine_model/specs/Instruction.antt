-- The instruction at EIP: how it is fetched, and what it does to the processor and asks of the board.
use Rattle.std.specs.Prelude.{ℕ, ◌+◌, ◌-◌, ◌*◌, ◌/◌, Bool, false, List, ◌++◌, ◌==◌, Ok, Err, is_none, if◌then◌else◌}
use Rattle.guest_ram.specs.Bytes.{part}
use Rattle.ia32_types.specs.declared.addresses.TheConstants.{LAST_PAGE}
use Rattle.ia32_types.specs.Site.{kind_of}
use Rattle.ia32_types.specs.declared.stop.Stop.TheVariants as stops
use Rattle.ia32_types.specs.declared.insn.Insn.{Insn}
use Rattle.ia32_types.specs.declared.insn.Op.{Op}
use Rattle.ia32_types.specs.declared.insn.Op.TheVariants as op
use Rattle.ia32_types.specs.declared.size.Size.TheVariants.{Byte, Long}
use Rattle.ia32_decode.specs.declared.answer.Decoded.{Decoded}
use Rattle.ia32_decode.specs.declared.answer.Decoded.TheVariants as begins
use Rattle.ia32_decode.specs.Decoding.{decoded}
use Rattle.ia32_decode.specs.Front.{longest, front_len}
use Rattle.step_exec.specs.Plain as plainly
use Rattle.descriptors.specs.declared.cpu.Cpu.{Cpu}
use Rattle.paging.specs.declared.entry.Touch.{Touch}
use Rattle.paging.specs.declared.entry.Touch.TheVariants.{Ready, Fault, Stop}
use Rattle.paging.specs.Space.{Space, place}
use Rattle.paging.specs.Uses.{fetches, with_front, with_back}
use Rattle.paging.specs.Work.{Outcome, Work, ◌>>=◌, gives, refuses}
use Rattle.sys_exec.specs.declared.effect.SysOutcome.{SysOutcome}
use Rattle.sys_exec.specs.declared.effect.SysEffect.TheVariants as effects
use Rattle.sys_exec.specs.Sys.{sys_work}
use Rattle.ia32_exec.specs.Registers.{with_register}
use Rattle.sys_exec.specs.declared.effect.Refusal.{Refusal}
use Rattle.sys_exec.specs.declared.effect.Refusal.TheVariants as refusal

-- the bytes that a fetch made ready
abbrev pub bytes_fetched : ℕ → ℕ → Touch → Space → Outcome Refusal (List ℕ)
bytes_fetched at len Ready s = Ok (part s.ram (place s at) len, s)
bytes_fetched at len (Fault code cr2) s = Err (refusal.Fault code cr2, s)
bytes_fetched at len (Stop stop) s = Err (refusal.Stop stop, s)

-- bytes of one page
unfoldable pub fetching : Bool → ℕ → ℕ → Work Refusal (List ℕ)
fetching user at len s = bytes_fetched at len (fetches s at len user).0 (fetches s at len user).1

-- The bytes at an address, as those of this step's instruction: the first of them in one page, and in its second
-- page the others. No walk that comes later in the step may mark them.
unfoldable pub owning_front : ℕ → ℕ → Work Refusal (Unit {0})
owning_front at len s = Ok (tt, record s { mode = with_front s.mode (place s at) len })

unfoldable pub owning_back : ℕ → ℕ → Work Refusal (Unit {0})
owning_back at len s = Ok (tt, record s { mode = with_back s.mode (place s at) len })

-- where the next page begins
abbrev pub next_page : ℕ → ℕ
next_page eip = eip / 4096 * 4096 + 4096

-- an instruction that was read in two pages owns its bytes
abbrev pub owned : ℕ → Decoded → Work Refusal Decoded
owned eip (begins.Insn insn len) = do
  _ ← owning_back (next_page eip) (len - front_len eip)
  gives (begins.Insn insn len)
owned eip read = gives read

-- With bytes of the next page after those of the first. While it is translated, those of the first are the
-- instruction's own.
unfoldable pub fetched_on : Bool → ℕ → List ℕ → Work Refusal Decoded
fetched_on user eip front = do
  _ ← owning_front eip (front_len eip)
  more ← fetching user (next_page eip) longest
  owned eip (decoded (front ++ more))

-- The second page is reached exactly where the first page's bytes are a proper prefix of a spelling.
abbrev pub fetched_by : Bool → ℕ → List ℕ → Decoded → Work Refusal Decoded
fetched_by user eip front (begins.Insn insn len) = do
  _ ← owning_front eip len
  gives (begins.Insn insn len)
fetched_by user eip front begins.Outside = gives begins.Outside
fetched_by user eip front begins.Short =
    if eip / 4096 == LAST_PAGE then refuses (refusal.Stop stops.WrapAccess) else fetched_on user eip front

-- the instruction at a linear address
unfoldable pub fetched : Bool → ℕ → Work Refusal Decoded
fetched user eip = do
  front ← fetching user eip (front_len eip)
  fetched_by user eip front (decoded front)

-- neither sensitive, nor INT or INT3
abbrev pub is_plain : Op → Bool
is_plain op.Int = false
is_plain op.Int3 = false
is_plain o = is_none (kind_of o)

-- a plain instruction asks nothing of the machine
abbrev pub done_plainly : Outcome Refusal Cpu → Outcome Refusal SysOutcome
done_plainly (Ok x) = Ok (record { cpu = x.0; effect = effects.Next }, x.1)
done_plainly (Err refused) = Err refused

-- What an instruction other than INT and INT3 does: by its row, with all its ranges translated before a byte is read.
unfoldable pub instructed : Insn → ℕ → Cpu → Work Refusal SysOutcome
instructed insn len cpu s = if is_plain insn.op then done_plainly (plainly.executed insn len cpu s) else sys_work insn len cpu s

-- AL or EAX takes what a port gave
abbrev pub with_accumulator : Bool → ℕ → Cpu → Cpu
with_accumulator wide value cpu = record cpu { regs = with_register (if wide then Long else Byte) 0 value cpu.regs }
