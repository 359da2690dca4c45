-- The outcome of a try at the instruction at EIP, of a processor that takes no interrupt and is awake: the step went, or the
-- instruction is prepared for the host.
use Rattle.std.specs.Prelude.{◌≡◌, ◌⊎◌, ℕ, ◌==◌, List, [], Bool, true, false, Option, Some, None, Result, Ok, Err}
use Rattle.ia32_types.specs.declared.stop.Stop.{Stop}
use Rattle.ia32_types.specs.declared.flags.Regs.{Regs}
use Rattle.ia32_types.specs.declared.insn.Insn.{Insn}
use Rattle.ia32_decode.specs.declared.answer.Decoded.TheVariants as begins
use Rattle.ia32_exec.specs.declared.outcome.Stores.{Stores}
use Rattle.ia32_exec.specs.declared.outcome.Outcome.TheVariants as outcomes
use Rattle.ia32_exec.specs.Effect.{ranges_of}
use Rattle.ia32_exec.specs.UserEffect.{user_effect}
use Rattle.paging.specs.Space.{Space}
use Rattle.board.specs.declared.devices.Board.{Board}
use Rattle.sites.specs.declared.site.Site.{Site}
use Rattle.step_exec.specs.Divided.{byte_of}
use Rattle.step_exec.specs.Plain.{reached, is_refused}
use Rattle.step_exec.specs.Users.{selectors_of}
use Rattle.host_cpl3.specs.Permit.{permitted}
use Rattle.machine_model.specs.State.{Setting, State}
use Rattle.machine_model.specs.Alone.{IsUser, is_native}
use Rattle.machine_model.specs.Counts.{is_software, direct_in}
use Rattle.machine_model.specs.Instruction.{is_plain, fetched}
use Rattle.machine_model.specs.Step as steps
use Rattle.machine_step.specs.declared.worked.Worked.{Worked}
use Rattle.machine_step.specs.Worked.{went_as, completed_by}

-- The instruction was fetched, both its ranges were translated, and its effect is that it is done: nothing of it is done
-- yet. It is one that the host does by itself.
pub record IsPrepared (b : State) (s t : Space) : Type 0 where
  pub insn : Insn
  pub len : ℕ
  pub after_fetch : Space
  pub after_read : Space
  pub regs : Regs
  pub stores : Stores
  pub fetches : fetched (b.cpu.cpl == 3) b.cpu.regs.eip s ≡ Ok (begins.Insn insn len, after_fetch)
  pub native : is_native (b.cpu.cpl == 3) insn.op ≡ true
  pub permits : permitted insn ≡ Ok tt
  pub plain : (b.cpu.cpl == 3) ≡ false → is_plain insn.op ≡ true
  pub segments : is_refused b.cpu (ranges_of insn b.cpu.regs) ≡ false
  pub reads : reached b.cpu false (ranges_of insn b.cpu.regs).read after_fetch ≡ Ok (tt, after_read)
  pub writes : reached b.cpu true (ranges_of insn b.cpu.regs).write after_read ≡ Ok (tt, t)
  pub effect : user_effect (selectors_of b.cpu) insn len b.cpu.regs (byte_of (ranges_of insn b.cpu.regs) t) ≡ outcomes.Done regs stores

-- what is read at EIP and isn't native belongs to a user, or is INT or INT3
abbrev pub OthersAreUsers : State → Space → Type 0
OthersAreUsers b s =
    (insn : Insn) (len : ℕ) (after_fetch : Space) → fetched (b.cpu.cpl == 3) b.cpu.regs.eip s ≡ Ok (begins.Insn insn len, after_fetch)
    → is_native (b.cpu.cpl == 3) insn.op ≡ false → IsUser b.cpu ⊎ (is_software insn.op ≡ true)

-- the answer, where a step that went is recorded in its place
abbrev pub tried : Result Bool Stop → Worked → Result (Option Worked) Stop
tried (Ok true) worked = Ok (Some worked)
tried (Ok false) worked = Ok None
tried (Err stop) worked = Err stop

-- Of a step that went here the host did nothing, so nothing of it is direct.
abbrev pub TriesAs : Setting → State → Space → Result (Option Worked) Stop → Board → Space → Type 0
TriesAs m b s (Ok (Some worked)) board t = (steps.fetches_next m b s ≡ went_as b worked board t)
    × (OthersAreUsers b s → (sites : List Site) → direct_in sites (completed_by worked.completed) ≡ [])
TriesAs m b s (Ok None) board t = (board ≡ b.board) × IsPrepared b s t
TriesAs m b s (Err stop) board t = steps.fetches_next m b s ≡ steps.Halts stop
