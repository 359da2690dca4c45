-- Which pages a step goes through, where their translations lead, and that it leaves all others alone.
use Rattle.std.specs.Prelude.{◌≡◌, ℕ, Bool, true, false, ◌||◌, ◌&&◌, ◌==◌, not, nat_le, Ok, Err, Option, Some}
use Rattle.std.specs.List.{Contains}
use Rattle.std.specs.Option.{ForSome}
use Rattle.std.specs.FinMap.{get}
use Rattle.ia32_types.specs.declared.addresses.TheConstants.{DATA_PAGE}
use Rattle.ia32_types.specs.declared.insn.Insn.{Insn}
use Rattle.ia32_exec.specs.Effect.{ranges_of}
use Rattle.descriptors.specs.declared.cpu.Cpu.{Cpu}
use Rattle.paging.specs.Space.{Mode, Space}
use Rattle.paging.specs.Uses.{is_text, is_given}
use Rattle.paging.specs.Work.{Outcome}
use Rattle.step_exec.specs.Divided.{both_reached}
use Rattle.sys_exec.specs.declared.effect.Refusal.{Refusal}
use Rattle.sys_exec.specs.declared.effect.Refusal.TheVariants as refusal
use Rattle.event_entry.specs.declared.refusal.Kind.{Kind}
use Rattle.event_entry.specs.declared.refusal.NotDelivered.{NotDelivered}
use Rattle.event_entry.specs.declared.refusal.NotDelivered.TheVariants as not_delivered
use Rattle.event_entry.specs.Deliver.{delivered}
use Rattle.machine_model.specs.State.{Setting, State, space_at_start}
use Rattle.machine_model.specs.Instruction.{fetched, instructed}
use Rattle.machine_model.specs.Step.{Report, Went, step_of}
use Rattle.machine_model.specs.Run.{Set}

-- Where a page that a step uses may lead. At level 3 to no text. At level 0 the page is one of the text window, with the
-- frame that the loader gave it, or lies past the window, where the data begins, and leads to no text.
abbrev pub may_use : Mode → (user : Bool) → ℕ → ℕ → Bool
may_use mode true page frame = not (is_text mode frame)
may_use mode false page frame = is_given mode page frame || (nat_le DATA_PAGE page && not (is_text mode frame))

-- each page that was used so far leads where it may, if it has a translation
pub record LeadWell (user : Bool) (s : Space) : Type 0 where
  pub each : (page : ℕ) → Contains s.visited page → ForSome (get s.set page) (λ e. may_use s.mode user page e.frame ≡ true)

-- Memory within a step at level 3, or at another, and the same after further accesses, none of which stopped: pages that
-- lead well still do, and a page that no access went through has the translation that it had.
pub record Uses (user : Bool) (s t : Space) : Type 0 where
  pub rules : (page frame : ℕ) → may_use t.mode user page frame ≡ may_use s.mode user page frame
  pub visited : (page : ℕ) → Contains s.visited page → Contains t.visited page
  pub others : (page : ℕ) → (Contains t.visited page → ⊥) → get t.set page ≡ get s.set page
  pub lead : LeadWell user s → LeadWell user t

-- work that is done, or refused without a stop, leaves memory that goes on so
abbrev pub AtRefusal : Bool → Space → Refusal → Space → Type 0
AtRefusal user s (refusal.Fault code at) t = Uses user s t
AtRefusal user s (refusal.Raise vector code) t = Uses user s t
AtRefusal user s (refusal.Stop stop) t = Unit {0}

abbrev pub Uses_on : {A : Type 0} → Bool → Space → Outcome Refusal A → Type 0
Uses_on user s (Ok x) = Uses user s x.1
Uses_on user s (Err e) = AtRefusal user s e.0 e.1

abbrev pub AtDelivery : Bool → Space → NotDelivered → Space → Type 0
AtDelivery user s not_delivered.Privilege t = Uses user s t
AtDelivery user s (not_delivered.Stop stop) t = Unit {0}

abbrev pub Delivers : Bool → Space → Outcome NotDelivered Cpu → Type 0
Delivers user s (Ok x) = Uses user s x.1
Delivers user s (Err e) = AtDelivery user s e.0 e.1

-- so do the fetch of an instruction, both ranges of one, what one does, and a delivery at either level
abbrev pub FetchedUses : Type 0
FetchedUses = (user : Bool) (eip : ℕ) (s : Space) → Uses_on user s (fetched user eip s)

abbrev pub RangesUse : Type 0
RangesUse = (cpu : Cpu) (insn : Insn) (s : Space) → Uses_on (cpu.cpl == 3) s (both_reached cpu (ranges_of insn cpu.regs) s)

abbrev pub InstructedUses : Type 0
InstructedUses = (insn : Insn) (len : ℕ) (cpu : Cpu) (s : Space) → Uses_on (cpu.cpl == 3) s (instructed insn len cpu s)

abbrev pub DeliveredUses : Type 0
DeliveredUses =
    (user : Bool) (cpu : Cpu) (vector : ℕ) (kind : Kind) (code : Option ℕ) (s : Space) → Delivers user s (delivered cpu vector kind code s)

-- What a step that went left: memory after the last of its accesses, from whose translations the instruction itself may
-- have dropped some.
pub record IsUsedBy (user : Bool) (s : Space) (report : Report) (b : State) : Type 0 where
  pub last : Space
  pub uses : Uses user s last
  pub ram : b.ram ≡ last.ram
  pub set : (page : ℕ) → ForSome (get b.set page) (λ e. get last.set page ≡ Some e)
  pub pages : report.pages ≡ last.visited

abbrev pub StepsUse : Type 0
StepsUse =
    (m : Setting) (b : State) (set : Set) (report : Report) (after : State) → step_of m b set ≡ Went report after
    → IsUsedBy (b.cpu.cpl == 3) (space_at_start m.mode m.frames b.cpu b.ram set) report after

-- So each page that a step used, and that has a translation after it, leads where it may.
abbrev pub UsedPagesLeadWell : Type 0
UsedPagesLeadWell =
    (m : Setting) (b : State) (set : Set) (report : Report) (after : State) → step_of m b set ≡ Went report after → (page : ℕ)
    → Contains report.pages page
    → ForSome (get after.set page) (λ e. may_use m.mode (b.cpu.cpl == 3) page e.frame ≡ true)
