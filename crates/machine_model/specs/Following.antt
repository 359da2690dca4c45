-- How memory and translations follow over the parts of a step, and over a step: the statements of the laws.
use Rattle.std.specs.Prelude.{◌≡◌, ◌⊎◌, ℕ, ◌*◌, ◌/◌, ◌^◌, ◌<◌, ◌≤◌, Bool, length, Option, Some}
use Rattle.std.specs.List.{Contains}
use Rattle.std.specs.Option.{ForSome}
use Rattle.std.specs.FinMap.{get}
use Rattle.guest_ram.specs.Bytes.{byte}
use Rattle.ia32_types.specs.declared.insn.Insn.{Insn}
use Rattle.ia32_exec.specs.Effect.{ranges_of}
use Rattle.descriptors.specs.Controls.{pse_of}
use Rattle.descriptors.specs.declared.cpu.Cpu.{Cpu}
use Rattle.paging.specs.declared.entry.Entry.{Entry}
use Rattle.paging.specs.Space.{Space}
use Rattle.step_exec.specs.Divided.{both_reached}
use Rattle.event_entry.specs.declared.refusal.Kind.{Kind}
use Rattle.event_entry.specs.Deliver.{delivered}
use Rattle.machine_model.specs.State.{Setting, State, IsCacheable, space_at_start}
use Rattle.machine_model.specs.Instruction.{fetched, instructed}
use Rattle.machine_model.specs.Step.{Report, Went, step_of}
use Rattle.machine_model.specs.Run.{Set}
use Rattle.machine_model.specs.Reloading.{ArePages, MemoryFollows, IsFoundBy, HoldsOf, AreNone, AreApart, Follows, Leaves}

-- the fetch of an instruction, both ranges of one, what one does, and a delivery
abbrev pub FetchedFollows : Type 0
FetchedFollows = (user : Bool) (eip : ℕ) (s : Space) → Leaves s (fetched user eip s)

abbrev pub RangesFollow : Type 0
RangesFollow = (cpu : Cpu) (insn : Insn) (s : Space) → Leaves s (both_reached cpu (ranges_of insn cpu.regs) s)

abbrev pub InstructedFollows : Type 0
InstructedFollows = (insn : Insn) (len : ℕ) (cpu : Cpu) (s : Space) → Leaves s (instructed insn len cpu s)

abbrev pub DeliveredFollows : Type 0
DeliveredFollows = (cpu : Cpu) (vector : ℕ) (kind : Kind) (code : Option ℕ) (s : Space) → Leaves s (delivered cpu vector kind code s)

-- What a step that went left: memory after the last of its accesses, from whose set the instruction itself may have
-- dropped entries.
pub record IsLeftBy (s : Space) (report : Report) (b : State) : Type 0 where
  pub last : Space
  pub follows : Follows s last
  pub ram : b.ram ≡ last.ram
  pub set : (page : ℕ) → ForSome (get b.set page) (λ e. get last.set page ≡ Some e)
  pub tables : report.tables ≡ last.tables
  pub wrote : report.wrote ≡ last.wrote
  pub pages : report.pages ≡ last.visited

abbrev pub StepsFollow : Type 0
StepsFollow =
    (m : Setting) (b : State) (set : Set) (report : Report) (b2 : State) → step_of m b set ≡ Went report b2
    → IsLeftBy (space_at_start m.mode m.frames b.cpu b.ram set) report b2

-- A step changes memory in the frames that it reports as written and, outside them, by flags that come on.
abbrev pub StepsKeepMemory : Type 0
StepsKeepMemory =
    (m : Setting) (b : State) (set : Set) (report : Report) (b2 : State) → step_of m b set ≡ Went report b2
    → MemoryFollows report.wrote b.ram b2.ram

-- It changes nothing in a frame that it reports neither as written nor as a table, where the pages that it went through
-- are those of the address space.
abbrev pub OthersStay : Type 0
OthersStay =
    (m : Setting) (b : State) (set : Set) (report : Report) (b2 : State) (at : ℕ) → step_of m b set ≡ Went report b2
    → ArePages report.pages → at < length b.ram
    → (Contains report.wrote (at / 4096) → ⊥) → (Contains report.tables (at / 4096) → ⊥) → byte b2.ram at ≡ byte b.ram at

-- Where a step writes no frame of which the test holds, what a walk finds by words in such frames it finds after the
-- step, whatever value CR3 has meanwhile.
abbrev pub WordsStayFound : Type 0
WordsStayFound =
    (m : Setting) (b : State) (set : Set) (report : Report) (b2 : State) (cr3 : ℕ) (pse : Bool) (tables : ℕ → Bool) (page : ℕ) (e : Entry)
    → 4096 * m.frames ≤ length b.ram → page < 2 ^ 20 → step_of m b set ≡ Went report b2 → AreNone tables report.wrote
    → IsFoundBy b.ram m.frames cr3 pse tables page e → IsFoundBy b2.ram m.frames cr3 pse tables page e

-- Where a step writes none of the frames that it reports as tables, each translation that it leaves was among those that
-- it used, or is what a walk finds after it by words in these frames.
abbrev pub SetsAreFound : Type 0
SetsAreFound =
    (m : Setting) (b : State) (set : Set) (report : Report) (b2 : State) → 4096 * m.frames ≤ length b.ram → step_of m b set ≡ Went report b2
    → AreApart report.tables report.wrote → (tables : ℕ → Bool) → HoldsOf tables report.tables → (page : ℕ) → page < 2 ^ 20
    → ForSome (get b2.set page) (λ e. (get set page ≡ Some e) ⊎ IsFoundBy b2.ram m.frames b.cpu.cr3 (pse_of b.cpu) tables page e)

-- what is found of a page from the directory in use may be added to the translations before a step
abbrev pub FoundAreCacheable : Type 0
FoundAreCacheable =
    (m : Setting) (b : State) (tables : ℕ → Bool) (page : ℕ) (e : Entry) → page < 2 ^ 20 → IsFoundBy b.ram m.frames b.cpu.cr3 (pse_of b.cpu)
    tables page e → IsCacheable m b page e
