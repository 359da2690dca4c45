-- What the guest translates, and the host's tables lend, the host does.
use Rattle.std.specs.Prelude.{◌≡◌, ℕ, ◌/◌, ◌==◌, List, length, Bool, true, false, Option, Some, None, Ok}
use Rattle.std.specs.List.{Contains}
use Rattle.descriptors.specs.Controls.{wp_of}
use Rattle.ia32_types.specs.declared.flags.Regs.{Regs}
use Rattle.ia32_types.specs.declared.insn.Insn.{Insn}
use Rattle.ia32_decode.specs.declared.answer.Decoded.TheVariants as begins
use Rattle.ia32_exec.specs.declared.access.Range.{Range}
use Rattle.ia32_exec.specs.declared.access.Ranges.{Ranges}
use Rattle.ia32_exec.specs.declared.outcome.Stores.{Stores}
use Rattle.ia32_exec.specs.declared.outcome.Outcome.TheVariants as outcomes
use Rattle.ia32_exec.specs.Effect.{ranges_of}
use Rattle.paging.specs.Reached as walks
use Rattle.paging.specs.Space.{Space}
use Rattle.step_exec.specs.Plain.{reached, is_refused}
use Rattle.host_cpl3.specs.declared.view.View.{View}
use Rattle.host_cpl3.specs.declared.exit.Completion.TheVariants.{Completed}
use Rattle.host_cpl3.specs.Access.{last_page}
use Rattle.host_cpl3.specs.Permit.{permitted}
use Rattle.host_cpl3.specs.HostStep.{host_step}
use Rattle.machine_model.specs.State.{Setting, State, space_at_start}
use Rattle.machine_model.specs.Instruction.{is_plain, fetched}
use Rattle.native_steps.specs.Lends.{Lends}
use Rattle.native_steps.specs.Mirrors.{IsWedge, Mirrors}
use Rattle.native_steps.specs.Native.{effect_of, IsNative}
use Rattle.native_steps.specs.Forward.{IsNext, Follows}

-- The guest's instruction was fetched, and its ranges were translated: memory after each. It is one that the host may
-- do by itself, and at level 0 no sensitive one.
pub record IsTranslated (m : Setting) (b : State) (insn : Insn) (len : ℕ) (after_fetch after_read after_write : Space) : Type 0 where
  pub fetched : fetched (b.cpu.cpl == 3) b.cpu.regs.eip (space_at_start m.mode m.frames b.cpu b.ram b.set) ≡ Ok
      (begins.Insn insn len, after_fetch)
  pub permitted : permitted insn ≡ Ok tt
  pub plain : (b.cpu.cpl == 3) ≡ false → is_plain insn.op ≡ true
  pub segments : is_refused b.cpu (ranges_of insn b.cpu.regs) ≡ false
  pub read : reached b.cpu false (ranges_of insn b.cpu.regs).read after_fetch ≡ Ok (tt, after_read)
  pub write : reached b.cpu true (ranges_of insn b.cpu.regs).write after_read ≡ Ok (tt, after_write)

-- the tables in the host's memory let the access pass
abbrev pub IsReached : List ℕ → ℕ → Bool → ℕ → Type 0
IsReached memory root write page = (frame : ℕ) × (walks.reached memory (length memory / 4096) root page write ≡ Some frame)

abbrev pub IsRangeReached : List ℕ → ℕ → Bool → Option Range → Type 0
IsRangeReached memory root write None = Unit {0}
IsRangeReached memory root write (Some r) = IsReached memory root write (r.at / 4096) × IsReached memory root write (last_page r)

-- all pages that the instruction uses: those that its fetch went through, and those of its ranges
pub record AreReached (memory : List ℕ) (root : ℕ) (pages : List ℕ) (ranges : Ranges) : Type 0 where
  pub fetch : (page : ℕ) → Contains pages page → IsReached memory root false page
  pub read : IsRangeReached memory root false ranges.read
  pub write : IsRangeReached memory root true ranges.write

abbrev pub Backward : Type 0
Backward =
    (m : Setting) (memory : List ℕ) (v : View) (b : State)
    → IsWedge m → Mirrors m memory v b → Lends m memory v.root v.kernel (wp_of b.cpu) b.set → IsNext m v.kernel b
    → (insn : Insn) (len : ℕ) (fetch read write : Space) → IsTranslated m b insn len fetch read write
    → AreReached memory v.root fetch.visited (ranges_of insn b.cpu.regs) → IsNative m memory v b insn len

-- what both do, they complete alike
pub record Completes (m : Setting) (memory : List ℕ) (v : View) (b : State) (regs : Regs) : Type 0 where
  pub after_memory : List ℕ
  pub host : host_step v memory b.cpu.regs ≡ Ok (Completed regs, after_memory)
  pub follows : Follows m v b memory regs after_memory

abbrev pub NativeCompletes : Type 0
NativeCompletes =
    (m : Setting) (memory : List ℕ) (v : View) (b : State)
    → IsWedge m → Mirrors m memory v b → Lends m memory v.root v.kernel (wp_of b.cpu) b.set → IsNext m v.kernel b
    → (insn : Insn) (len : ℕ) (fetch read write : Space) → IsTranslated m b insn len fetch read write
    → AreReached memory v.root fetch.visited (ranges_of insn b.cpu.regs)
    → (regs : Regs) (stores : Stores) → effect_of v b insn len ≡ outcomes.Done regs stores → Completes m memory v b regs
