-- What a step's translations leave, where its instruction doesn't clash: each page that the instruction uses has an entry
-- that lets the use pass and leads where the view may lead, and the rest of the step is the pure effect over them.
use Rattle.std.specs.Prelude.{◌≡◌, ℕ, ◌*◌, ◌/◌, ◌^◌, ◌≤◌, ◌<◌, List, length, Bool, true, false, not, Option, Some, None}
use Rattle.std.specs.List.{Contains}
use Rattle.std.specs.FinMap.{get}
use Rattle.descriptors.specs.Controls.{wp_of}
use Rattle.guest_ram.specs.Bytes.{AreBytes}
use Rattle.ia32_types.specs.declared.insn.Insn.{Insn}
use Rattle.ia32_exec.specs.declared.access.Range.{Range}
use Rattle.ia32_exec.specs.declared.access.Ranges.{Ranges}
use Rattle.ia32_exec.specs.Effect.{ranges_of}
use Rattle.ia32_exec.specs.UserEffect.{user_effect}
use Rattle.paging.specs.declared.entry.Entry.{Entry}
use Rattle.paging.specs.Fresh.{allows}
use Rattle.paging.specs.Space.{Space}
use Rattle.step_exec.specs.Divided.{byte_of}
use Rattle.step_exec.specs.Users.{selectors_of, user_finished}
use Rattle.host_cpl3.specs.declared.view.View.{View}
use Rattle.host_cpl3.specs.Access.{last_page}
use Rattle.image_check.specs.Image.{Image}
use Rattle.machine_model.specs.State.{Setting, State, wedge_mode}
use Rattle.machine_model.specs.Clash.{instruction_clashes}
use Rattle.machine_model.specs.Step.{after_instruction, begun, unheld, stepped}
use Rattle.native_steps.specs.Lends.{IsOpen}
use Rattle.native_steps.specs.Mirrors.{Sees}
use Rattle.native_steps.specs.Native.{effect_of}
use Rattle.native_steps.specs.Forward.{IsNext}
use Rattle.native_steps.specs.Backward.{IsTranslated}
use Rattle.native_steps.specs.Again.{settled, AreWithin}

-- The step went through the page, whose entry lets the access pass and leads where this side's view may lead. A write's
-- frame was noted.
pub record IsGranted (image : Image) (kernel wp : Bool) (s : Space) (write : Bool) (page : ℕ) : Type 0 where
  pub entry : Entry
  pub kept : get s.set page ≡ Some entry
  pub allowed : allows entry (record { write = write; user = not kernel }) wp ≡ true
  pub is_open : IsOpen kernel image page entry.frame
  pub through : Contains s.visited page
  pub told : write ≡ true → Contains s.wrote entry.frame

abbrev pub IsRangeGranted : Image → Bool → Bool → Space → Bool → Option Range → Type 0
IsRangeGranted image kernel wp s write None = Unit {0}
IsRangeGranted image kernel wp s write (Some r) =
    IsGranted image kernel wp s write (r.at / 4096) × IsGranted image kernel wp s write (last_page r)

-- all pages that the instruction uses: those that its fetch went through, and those of its ranges
pub record AreGranted (image : Image) (kernel wp : Bool) (s : Space) (pages : List ℕ) (ranges : Ranges) : Type 0 where
  pub fetch : (page : ℕ) → Contains pages page → IsGranted image kernel wp s false page
  pub read : IsRangeGranted image kernel wp s false ranges.read
  pub write : IsRangeGranted image kernel wp s true ranges.write

pub record Leaves (m : Setting) (v : View) (b : State) (insn : Insn) (len : ℕ) (fetch write : Space) : Type 0 where
  pub granted : AreGranted m.image v.kernel (wp_of b.cpu) write fetch.visited (ranges_of insn b.cpu.regs)
  -- the outcome of the instruction over the step's memory is its effect over the state that is left
  pub effect : user_effect (selectors_of b.cpu) insn len b.cpu.regs (byte_of (ranges_of insn b.cpu.regs) write) ≡ effect_of v
      (settled b write) insn len
  -- and the step goes on by it, whether it is done, raises or stops
  pub step : stepped m b ≡ after_instruction m (unheld b) (begun b insn)
      (user_finished (unheld b).cpu (effect_of v (settled b write) insn len) write)

abbrev pub Grants : Type 0
Grants =
    (m : Setting) (v : View) (b : State)
    → m.mode ≡ wedge_mode m.image → 4096 * m.frames ≤ length b.ram → AreBytes b.ram → AreWithin m b.set → Sees v b.cpu → IsNext m v.kernel b
    → b.cpu.regs.eip < 2 ^ 32
    → (insn : Insn) (len : ℕ) (fetch read write : Space) → IsTranslated m b insn len fetch read write → instruction_clashes m b ≡ false
    → Leaves m v b insn len fetch write
