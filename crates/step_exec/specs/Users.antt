-- What user code does by itself at IOPL 0, in one form: the null segments of both ranges, the read range, the write
-- range, and then an effect of the registers, the selectors and the bytes read.
use Rattle.std.specs.Prelude.{◌≡◌, ℕ, true, false, ◌==◌, not, Option, Some, None, Ok, Err}
use Rattle.ia32_types.specs.declared.insn.Insn.{Insn}
use Rattle.ia32_types.specs.declared.insn.Op.{Op}
use Rattle.ia32_types.specs.declared.insn.Op.TheVariants.{PushFlags, PopFlags, ReadSeg, PushSeg, Return, JumpTo, CallTo}
use Rattle.ia32_types.specs.declared.register.Seg.TheVariants.{Es, Cs, Ss, Ds}
use Rattle.ia32_types.specs.Places.{OperandsFit}
use Rattle.ia32_types.specs.Shape.{IsShaped}
use Rattle.ia32_exec.specs.declared.outcome.Outcome as exec
use Rattle.ia32_exec.specs.declared.outcome.Outcome.TheVariants as outcomes
use Rattle.ia32_exec.specs.declared.access.Range.{Range}
use Rattle.ia32_exec.specs.declared.access.Ranges.{Ranges}
use Rattle.ia32_exec.specs.declared.selectors.Selectors.{Selectors}
use Rattle.ia32_exec.specs.Effect.{ranges_of}
use Rattle.ia32_exec.specs.UserEffect.{user_effect}
use Rattle.ia32_exec.specs.Commit.{list_of}
use Rattle.descriptors.specs.declared.cpu.Cpu.{Cpu}
use Rattle.paging.specs.Space.{Space}
use Rattle.paging.specs.Work.{Work, ◌>>=◌, gives, unless}
use Rattle.sys_exec.specs.declared.effect.Refusal.{Refusal}
use Rattle.sys_exec.specs.declared.effect.Refusal.TheVariants as refusal
use Rattle.sys_exec.specs.declared.effect.SysEffect.TheVariants as effects
use Rattle.sys_exec.specs.declared.effect.SysOutcome.{SysOutcome}
use Rattle.sys_exec.specs.Iret.{is_within}
use Rattle.sys_exec.specs.Operand.{selector_in}
use Rattle.sys_exec.specs.Sys.{sys_work}
use Rattle.step_exec.specs.Plain.{is_null, reached, byte_by, stored_all}

abbrev pub selectors_of : Cpu → Selectors
selectors_of cpu = record { es = selector_in cpu Es; cs = selector_in cpu Cs; ss = selector_in cpu Ss; ds = selector_in cpu Ds }

-- a null segment denies every access
abbrev pub unnull : Cpu → Option Range → Work Refusal (Unit {0})
unnull cpu None = gives tt
unnull cpu (Some r) = unless (refusal.Raise 13 0) (not (is_null cpu r.seg))

-- memory as it is then
abbrev pub seen : Work Refusal Space
seen s = Ok (s, s)

abbrev pub user_finished : Cpu → exec.Outcome → Work Refusal SysOutcome
user_finished cpu (outcomes.Done regs stores) s =
    Ok (record { cpu = record cpu { regs = regs }; effect = effects.Next }, stored_all s (list_of stores))
user_finished cpu (outcomes.Raise vector code) s = Err (refusal.Raise vector code, s)
user_finished cpu (outcomes.Stop stop) s = Err (refusal.Stop stop, s)

-- ranges, and then a function of the bytes read
abbrev pub user_form : Cpu → Ranges → ((ℕ → ℕ) → exec.Outcome) → Work Refusal SysOutcome
user_form cpu x f = do
  _ ← unnull cpu x.read
  _ ← unnull cpu x.write
  _ ← reached cpu false x.read
  before ← seen
  _ ← reached cpu true x.write
  after ← seen
  user_finished cpu (f (byte_by x.read before after))

unfoldable pub user_executed : Insn → ℕ → Cpu → Work Refusal SysOutcome
user_executed insn len cpu = user_form cpu (ranges_of insn cpu.regs) (user_effect (selectors_of cpu) insn len cpu.regs)

-- the sensitive instructions that have this form
abbrev pub IsUserSite : Op → Type 0
IsUserSite PushFlags = Unit {0}
IsUserSite PopFlags = Unit {0}
IsUserSite ReadSeg = Unit {0}
IsUserSite PushSeg = Unit {0}
IsUserSite Return = Unit {0}
IsUserSite JumpTo = Unit {0}
IsUserSite CallTo = Unit {0}
IsUserSite _ = ⊥

-- a user's processor, whose stack segment is never null
pub record IsUser (cpu : Cpu) : Type 0 where
  pub level : cpu.cpl == 0 ≡ false
  pub rights : is_within cpu ≡ false
  pub stack : is_null cpu Ss ≡ false

-- such an instruction's row is this form
abbrev pub HasUserForm : Type 0
HasUserForm =
    (insn : Insn) (len : ℕ) (cpu : Cpu) (s : Space) → IsUserSite insn.op → OperandsFit insn.op insn.a insn.b → IsShaped insn → IsUser cpu
    → sys_work insn len cpu s ≡ user_executed insn len cpu s
