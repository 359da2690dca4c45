-- A step whose instruction doesn't clash does the same from the state that its own translations leave.
use Rattle.std.specs.Prelude.{◌≡◌, ℕ, ◌*◌, ◌^◌, ◌≤◌, ◌<◌, length, false}
use Rattle.std.specs.Option.{ForSome}
use Rattle.std.specs.FinMap.{FinMap, get}
use Rattle.std.specs.Ordering.{nat_cmp}
use Rattle.guest_ram.specs.Bytes.{AreBytes}
use Rattle.ia32_types.specs.declared.flags.Regs.{Regs}
use Rattle.ia32_types.specs.declared.insn.Insn.{Insn}
use Rattle.ia32_exec.specs.declared.outcome.Stores.{Stores}
use Rattle.ia32_exec.specs.declared.outcome.Outcome.TheVariants as outcomes
use Rattle.paging.specs.declared.entry.Entry.{Entry}
use Rattle.paging.specs.Space.{Space}
use Rattle.host_cpl3.specs.declared.view.View.{View}
use Rattle.machine_model.specs.State.{Setting, State, wedge_mode}
use Rattle.machine_model.specs.Clash.{instruction_clashes}
use Rattle.machine_model.specs.Step.{Report, Went, stepped}
use Rattle.native_steps.specs.Mirrors.{Sees}
use Rattle.native_steps.specs.Native.{effect_of}
use Rattle.native_steps.specs.Forward.{IsNext}
use Rattle.native_steps.specs.Backward.{IsTranslated}

-- the state, over memory and translations as a step's own translations leave them
abbrev pub settled : State → Space → State
settled b s = record b { ram = s.ram; set = s.set }

-- from there the step translates the same, by the entries of the set alone
pub record StepsAgain (m : Setting) (v : View) (b : State) (insn : Insn) (len : ℕ) (write : Space) : Type 0 where
  pub fetched : Space
  pub reads : Space
  pub writes : Space
  pub translated : IsTranslated m (settled b write) insn len fetched reads writes
  pub ram : writes.ram ≡ write.ram
  pub set : writes.set ≡ write.set
  pub visited : writes.visited ≡ write.visited
  -- and what both do is the same, but for what the step itself notes of its walks and writes
  pub same : (regs : Regs) (stores : Stores) → effect_of v (settled b write) insn len ≡ outcomes.Done regs stores
      → (report : Report) (after : State) → stepped m (settled b write) ≡ Went report after
      → stepped m b ≡ Went (record report { tables = write.tables; wrote = write.wrote }) after
  -- what the step reports is what its translations went through, read and wrote
  pub reported : (regs : Regs) (stores : Stores) → effect_of v (settled b write) insn len ≡ outcomes.Done regs stores
      → (report : Report) (after : State) → stepped m b ≡ Went report after → (report.pages ≡ write.visited)
      × (report.tables ≡ write.tables) × (report.wrote ≡ write.wrote)

-- entries lead to the guest's frames
abbrev pub AreWithin : Setting → FinMap nat_cmp Entry → Type 0
AreWithin m set = (page : ℕ) → ForSome (get set page) (λ e. e.frame < m.frames)

abbrev pub Again : Type 0
Again =
    (m : Setting) (v : View) (b : State)
    → m.mode ≡ wedge_mode m.image → 4096 * m.frames ≤ length b.ram → AreBytes b.ram → AreWithin m b.set → Sees v b.cpu → IsNext m v.kernel b
    → b.cpu.regs.eip < 2 ^ 32
    → (insn : Insn) (len : ℕ) (fetch read write : Space) → IsTranslated m b insn len fetch read write → instruction_clashes m b ≡ false
    → StepsAgain m v b insn len write
