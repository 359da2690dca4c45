-- A step clashes where the fetch and the ranges of its instruction use one page twice, and the page's entry doesn't
-- allow the later use. The uses are those that the step makes itself, with the entries by which it is asked: the pages
-- that its fetch goes through, and the ranges of the instruction that the fetch reads. An instruction that a null segment
-- denies translates no range, so it uses none.
use Rattle.std.specs.Prelude.{ℕ, ◌+◌, ◌-◌, ◌/◌, Bool, true, false, ◌==◌, ◌&&◌, ◌||◌, not, List, [], ◌∷◌, ◌++◌, map, Option, Some, None, Ok, Err, is_some, if◌then◌else◌}
use Rattle.std.specs.FinMap.{get}
use Rattle.guest_ram.specs.Among.{is_among}
use Rattle.descriptors.specs.Access.{by_level}
use Rattle.descriptors.specs.Controls.{wp_of}
use Rattle.descriptors.specs.declared.cpu.Cpu.{Cpu}
use Rattle.ia32_exec.specs.declared.access.Range.{Range}
use Rattle.ia32_exec.specs.declared.access.Ranges.{Ranges}
use Rattle.ia32_exec.specs.Effect.{ranges_of}
use Rattle.ia32_decode.specs.declared.answer.Decoded.{Decoded}
use Rattle.ia32_decode.specs.declared.answer.Decoded.TheVariants as begins
use Rattle.paging.specs.declared.entry.Access.{Access}
use Rattle.paging.specs.declared.entry.Entry.{Entry}
use Rattle.paging.specs.Fresh.{allows}
use Rattle.paging.specs.Work.{Outcome}
use Rattle.step_exec.specs.Plain.{is_refused}
use Rattle.sys_exec.specs.declared.effect.Refusal.{Refusal}
use Rattle.board.specs.Boards.{given}
use Rattle.machine_model.specs.State.{Setting, State, space_at_start}
use Rattle.machine_model.specs.Instruction.{fetched}
use Rattle.machine_model.specs.Step.{interrupt_of}

-- one use of a page
pub record Use : Type 0 where
  pub page : ℕ
  pub access : Access

-- a page of a range, and its last where that is another
abbrev pub uses_of : Access → Option Range → List Use
uses_of access None = []
uses_of access (Some r) =
    record { page = r.at / 4096; access = access } ∷ (
    if (r.at + r.len - 1) / 4096 == r.at / 4096 then [] else record { page = (r.at + r.len - 1) / 4096; access = access } ∷ []
    )

-- the read range, then the write range, or neither where a null segment denies them
abbrev pub ranges_used : Cpu → Ranges → List Use
ranges_used cpu ranges =
    if is_refused cpu ranges then [] else uses_of (by_level cpu false) ranges.read ++ uses_of (by_level cpu true) ranges.write

abbrev pub range_uses : State → Decoded → List Use
range_uses b (begins.Insn insn len) = ranges_used b.cpu (ranges_of insn b.cpu.regs)
range_uses b _ = []

-- the pages that a fetch went through
abbrev pub fetch_uses : State → List ℕ → List Use
fetch_uses b pages = map (λ (page : ℕ). record { page = page; access = by_level b.cpu false }) pages

-- a fetch that is refused has no instruction
abbrev pub uses_by : State → Outcome Refusal Decoded → List Use
uses_by b (Ok read) = fetch_uses b read.1.visited ++ range_uses b read.0
uses_by b (Err refused) = fetch_uses b refused.1.visited

-- the pages that the instruction at EIP uses, by its fetch and its ranges, in their order
abbrev pub uses_at : Setting → State → List Use
uses_at m b = uses_by b (fetched (b.cpu.cpl == 3) b.cpu.regs.eip (space_at_start m.mode m.frames b.cpu b.ram b.set))

abbrev pub is_refused_by : Option Entry → Access → Bool → Bool
is_refused_by None access wp = false
is_refused_by (Some entry) access wp = not (allows entry access wp)

-- a page was used before, and its entry doesn't allow this use
abbrev pub clash_behind : (ℕ → Option Entry) → Bool → List ℕ → List Use → Bool
clash_behind entries wp used [] = false
clash_behind entries wp used (u ∷ us) =
    (is_among u.page used && is_refused_by (entries u.page) u.access wp) || clash_behind entries wp (u.page ∷ used) us

abbrev pub clash_in : (ℕ → Option Entry) → Bool → List Use → Bool
clash_in entries wp uses = clash_behind entries wp [] uses

-- the instruction at EIP clashes, with this state's entries
unfoldable pub instruction_clashes : Setting → State → Bool
instruction_clashes m b = clash_in (get b.set) (wp_of b.cpu) (uses_at m b)

-- a step in which an interrupt is delivered, or the processor is halted, has no instruction
abbrev pub has_instruction : Setting → State → Bool
has_instruction m b = not (b.cpu.halted || is_some (interrupt_of b.cpu (given b.board m.script b.step)))

-- from this state, whose set is the one by which it is asked, the step clashes
unfoldable pub clashes_from : Setting → State → Bool
clashes_from m b = has_instruction m b && instruction_clashes m b
