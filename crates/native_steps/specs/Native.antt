-- One instruction that both machines do by its pure effect, over the same bytes.
use Rattle.std.specs.Prelude.{◌≡◌, ℕ, ◌/◌, List, [], true}
use Rattle.std.specs.FinMap.{get}
use Rattle.guest_ram.specs.Bytes.{byte}
use Rattle.ia32_types.specs.declared.insn.Insn.{Insn}
use Rattle.ia32_exec.specs.declared.outcome.Outcome as exec
use Rattle.ia32_exec.specs.UserEffect.{user_effect}
use Rattle.paging.specs.Space.{Space, place_by}
use Rattle.step_exec.specs.Users.{user_finished}
use Rattle.host_cpl3.specs.declared.view.View.{View}
use Rattle.host_cpl3.specs.Views.{selectors_of}
use Rattle.host_cpl3.specs.HostStep as host
use Rattle.machine_model.specs.State.{Setting, State}
use Rattle.machine_model.specs.Step.{after_instruction, begun, unheld, stepped}
use Rattle.machine_model.specs.Counts.{is_direct}
use Rattle.native_steps.specs.Lends.{AreKept}

-- the guest's byte at an address, by the entry of its page
abbrev pub byte_of : State → ℕ → ℕ
byte_of b at = byte b.ram (place_by (get b.set (at / 4096)) at)

-- the outcome of the instruction, over the guest's bytes
abbrev pub effect_of : View → State → Insn → ℕ → exec.Outcome
effect_of v b insn len = user_effect (selectors_of v) insn len b.cpu.regs (byte_of b)

-- Both machines do this instruction, which counts, and neither changes a translation.
pub record IsNative (m : Setting) (memory : List ℕ) (v : View) (b : State) (insn : Insn) (len : ℕ) : Type 0 where
  pub direct : is_direct m.image.sites (begun b insn) ≡ true
  pub host : host.host_step v memory b.cpu.regs ≡ host.finished v insn.op memory (effect_of v b insn len)
  pub space : Space
  pub ram : space.ram ≡ b.ram
  pub set : space.set ≡ b.set
  pub visited : AreKept b.set space.visited
  pub tables : space.tables ≡ []
  pub guest : stepped m b ≡ after_instruction m (unheld b) (begun b insn) (user_finished (unheld b).cpu (effect_of v b insn len) space)
