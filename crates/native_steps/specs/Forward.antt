-- What the host completes, the guest's step does.
use Rattle.std.specs.Prelude.{◌≡◌, ℕ, ◌+◌, ◌-◌, ◌*◌, ◌^◌, ◌≤◌, ◌<◌, List, [], length, drop, Bool, true, false, Some, None, Ok}
use Rattle.descriptors.specs.Controls.{wp_of}
use Rattle.guest_ram.specs.Bytes.{frame}
use Rattle.ia32_types.specs.declared.addresses.TheConstants.{TEXT_ADDRESS}
use Rattle.ia32_types.specs.declared.flags.Regs.{Regs}
use Rattle.paging.specs.Fresh.{has}
use Rattle.board.specs.Boards.{board_step}
use Rattle.sites.specs.declared.site.Site.{Site}
use Rattle.image_check.specs.Standing.{site_at}
use Rattle.image_check.specs.Image.{Image}
use Rattle.image_laws.specs.WaysIn.{IsWayIn}
use Rattle.image_laws.specs.Patches.{window_at}
use Rattle.host_cpl3.specs.declared.view.View.{View}
use Rattle.host_cpl3.specs.declared.exit.Completion.{Completion}
use Rattle.host_cpl3.specs.declared.exit.Completion.TheVariants.{Completed, Entered}
use Rattle.host_cpl3.specs.HostStep.{host_step}
use Rattle.machine_model.specs.State.{Setting, State}
use Rattle.machine_model.specs.Rules.{is_start}
use Rattle.machine_model.specs.Step as step
use Rattle.machine_model.specs.Taken.{is_load}
use Rattle.native_steps.specs.Lends.{Lends, IsUnlent, AreKept}
use Rattle.native_steps.specs.Mirrors.{IsWedge, Mirrors}
use Rattle.machine_model.specs.Counts.{is_direct}

-- the linear address is that of a way into the text
pub record IsEntrance (image : Image) (eip : ℕ) : Type 0 where
  pub above : TEXT_ADDRESS ≤ eip
  pub start : is_start image eip ≡ true
  pub way_in : IsWayIn image (eip - TEXT_ADDRESS)

-- The processor is about to do an instruction: it isn't halted and takes no interrupt. At level 0 the instruction is
-- one of the text, outside sites.
pub record IsNext (m : Setting) (kernel : Bool) (b : State) : Type 0 where
  pub awake : b.cpu.halted ≡ false
  pub quiet : step.interrupt_of b.cpu b.board ≡ None
  pub small : kernel ≡ false → b.cpu.regs.eip < 2 ^ 32
  pub start : kernel ≡ true → is_start m.image b.cpu.regs.eip ≡ true
  pub outside : kernel ≡ true → site_at m.image.sites (b.cpu.regs.eip - TEXT_ADDRESS) ≡ None

-- The guest's step goes, with nothing seen and no walk. Its instruction counts, loads no CR3, and leaves these registers and, over
-- this memory, the guest's. Nothing else changes but the board, and that a hold ends; IF stays. Of the host's memory nothing past the
-- guest's frames has changed, and of the guest's no frame to which the tables let no write pass.
pub record Follows (m : Setting) (v : View) (b : State) (memory : List ℕ) (regs : Regs) (after_memory : List ℕ) : Type 0 where
  pub report : step.Report
  pub after : State
  pub went : step.stepped m b ≡ step.Went report after
  pub unseen : report.items ≡ []
  pub unwalked : report.tables ≡ []
  pub pages : AreKept b.set report.pages
  pub completed : step.Completed
  pub completes : report.completed ≡ Some completed
  pub through : is_load report.completed ≡ false
  pub direct : is_direct m.image.sites completed ≡ true
  pub eip : completed.eip ≡ b.cpu.regs.eip
  pub cpu : after.cpu ≡ record b.cpu { regs = regs; held = false }
  pub set : after.set ≡ b.set
  pub board : after.board ≡ board_step b.board
  pub count : after.step ≡ b.step + 1
  pub stands : Mirrors m after_memory v after
  pub interrupts : has regs.flags.bits 0x200 ≡ has b.cpu.regs.flags.bits 0x200
  pub size : length after_memory ≡ length memory
  pub behind : drop (4096 * m.frames) after_memory ≡ drop (4096 * m.frames) memory
  pub untouched : (at : ℕ) → IsUnlent memory v.root at → frame after_memory at ≡ frame memory at
  pub guest_untouched : (at : ℕ) → IsUnlent memory v.root at → frame after.ram at ≡ frame b.ram at
  pub leads : v.kernel ≡ true → IsEntrance m.image regs.eip

abbrev pub Forward : Type 0
Forward =
    (m : Setting) (memory : List ℕ) (v : View) (b : State)
    → IsWedge m → Mirrors m memory v b → Lends m memory v.root v.kernel (wp_of b.cpu) b.set → IsNext m v.kernel b
    → (regs : Regs) (after_memory : List ℕ) → host_step v memory b.cpu.regs ≡ Ok (Completed regs, after_memory)
    → Follows m v b memory regs after_memory

-- outside sites the host doesn't enter the window
abbrev pub NotEntered : Type 0
NotEntered =
    (m : Setting) (memory : List ℕ) (v : View) (b : State)
    → IsWedge m → Mirrors m memory v b → Lends m memory v.root v.kernel (wp_of b.cpu) b.set → IsNext m v.kernel b
    → (regs : Regs) (after_memory : List ℕ) → host_step v memory b.cpu.regs ≡ Ok (Entered regs, after_memory) → ⊥

-- At the first byte of a site the host does nothing but jump into the window, to the address that names the site.
abbrev pub AtSites : Type 0
AtSites =
    (m : Setting) (memory : List ℕ) (v : View) (b : State)
    → IsWedge m → Mirrors m memory v b → Lends m memory v.root v.kernel (wp_of b.cpu) b.set → v.kernel ≡ true
    → (site : Site) → TEXT_ADDRESS ≤ b.cpu.regs.eip → site_at m.image.sites (b.cpu.regs.eip - TEXT_ADDRESS) ≡ Some site
    → site.at ≡ b.cpu.regs.eip - TEXT_ADDRESS
    → (done : Completion) (after_memory : List ℕ) → host_step v memory b.cpu.regs ≡ Ok (done, after_memory)
    → (done ≡ Entered (record b.cpu.regs { eip = window_at site.at })) × (after_memory ≡ memory)
