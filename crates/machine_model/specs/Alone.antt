-- What a step's completed instruction is, and which steps an unprivileged processor has no part in: they count nothing.
use Rattle.std.specs.Prelude.{◌≡◌, ◌⊎◌, ℕ, Bool, true, false, ◌==◌, ◌&&◌, List, [], ◌∷◌, Some, None, Ok, is_some, is_none}
use Rattle.std.specs.Option.{ForSome}
use Rattle.ia32_types.specs.Site.{kind_of}
use Rattle.ia32_types.specs.declared.insn.Insn.{Insn}
use Rattle.ia32_types.specs.declared.insn.Op.{Op}
use Rattle.ia32_types.specs.declared.insn.Op.TheVariants as op
use Rattle.ia32_decode.specs.declared.answer.Decoded.TheVariants as begins
use Rattle.descriptors.specs.declared.cpu.Cpu.{Cpu}
use Rattle.paging.specs.Space.{Space}
use Rattle.sites.specs.declared.site.Site.{Site}
use Rattle.machine_model.specs.State.{Setting, State, space_at_start}
use Rattle.machine_model.specs.Rules.{stands_well, is_open}
use Rattle.machine_model.specs.Instruction.{fetched}
use Rattle.machine_model.specs.Step.{Completed, Report, Went, begun, interrupt_of, stepped}
use Rattle.image_check.specs.Places.{is_site_at}
use Rattle.machine_model.specs.Counts.{is_software, direct_in}

-- the instruction that a processor of this level reads at EIP
pub record Reads (m : Setting) (b : State) (insn : Insn) : Type 0 where
  pub len : ℕ
  pub after : Space
  pub fetches : fetched (b.cpu.cpl == 3) b.cpu.regs.eip (space_at_start m.mode m.frames b.cpu b.ram b.set) ≡ Ok
      (begins.Insn insn len, after)

-- a user's processor: level 3, IF 1 and IOPL 0
abbrev pub is_user : Cpu → Bool
is_user cpu = cpu.cpl == 3 && is_open cpu

abbrev pub IsUser : Cpu → Type 0
IsUser cpu = is_user cpu ≡ true

-- what needs level 0, or a level within IOPL
abbrev pub is_barred : Op → Bool
is_barred op.Cli = true
is_barred op.Sti = true
is_barred op.Hlt = true
is_barred op.ReadControl = true
is_barred op.WriteControl = true
is_barred op.LoadGdt = true
is_barred op.LoadIdt = true
is_barred op.LoadTask = true
is_barred op.DropPage = true
is_barred op.PortIn = true
is_barred op.PortOut = true
is_barred _ = false

-- The instruction that a step completed is the one that the processor read at EIP, at its level; the processor was
-- awake, took no interrupt and stood where it may begin. A user's is none that is barred to it.
pub record IsDone (m : Setting) (b : State) (c : Completed) : Type 0 where
  pub same : c ≡ begun b c.insn
  pub awake : b.cpu.halted ≡ false
  pub takes_none : interrupt_of b.cpu b.board ≡ None
  pub stands : stands_well m b.cpu ≡ true
  pub reads : Reads m b c.insn
  pub lets : IsUser b.cpu → is_barred c.insn.op ≡ false

abbrev pub StepsAreDone : Type 0
StepsAreDone =
    (m : Setting) (b : State) (report : Report) (after : State) → stepped m b ≡ Went report after → ForSome report.completed (IsDone m b)

-- The instructions that an unprivileged processor does by itself: at level 0 those that are not sensitive, at level 3 those
-- too that need neither a level nor a descriptor. INT and INT3 are none.
abbrev pub is_native : Bool → Op → Bool
is_native user op.Int = false
is_native user op.Int3 = false
is_native user op.PushFlags = user
is_native user op.PopFlags = user
is_native user op.ReadSeg = user
is_native user op.PushSeg = user
is_native user op.Return = user
is_native user op.JumpTo = user
is_native user op.CallTo = user
is_native user o = is_none (kind_of o)

-- where an interrupt is taken, or the processor is halted, nothing is completed
abbrev pub WaitsCountNothing : Type 0
WaitsCountNothing =
    (m : Setting) (b : State) (report : Report) (after : State) → (b.cpu.halted ≡ true) ⊎ (is_some (interrupt_of b.cpu b.board) ≡ true)
    → stepped m b ≡ Went report after
    → report.completed ≡ None

-- nor is anything direct that begins in a site at level 0
abbrev pub SitesCountNothing : Type 0
SitesCountNothing =
    (m : Setting) (b : State) (report : Report) (after : State) (sites : List Site) → (b.cpu.cpl == 3) ≡ false
    → is_site_at sites b.cpu.regs.eip ≡ true → stepped m b ≡ Went report after
    → direct_in sites report.completed ≡ []

-- nor INT and INT3, nor what a user's processor doesn't do by itself
abbrev pub OthersCountNothing : Type 0
OthersCountNothing =
    (m : Setting) (b : State) (report : Report) (after : State) (sites : List Site) (insn : Insn) → Reads m b insn
    → is_native (b.cpu.cpl == 3) insn.op ≡ false → (IsUser b.cpu) ⊎ (is_software insn.op ≡ true) → stepped m b ≡ Went report after
    → direct_in sites report.completed ≡ []

-- What it does by itself, by a user or outside the sites, is direct where it is completed.
abbrev pub NativesAreDirect : Type 0
NativesAreDirect =
    (m : Setting) (b : State) (report : Report) (after : State) (sites : List Site) (insn : Insn) (c : Completed) → Reads m b insn
    → is_native (b.cpu.cpl == 3) insn.op ≡ true
    → (b.cpu.cpl ≡ 3) ⊎ (is_site_at sites b.cpu.regs.eip ≡ false) → stepped m b ≡ Went report after → report.completed ≡ Some c
    → direct_in sites report.completed ≡ b.cpu.regs.eip ∷ []
