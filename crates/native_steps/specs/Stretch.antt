-- A stretch: instructions that the host completes one after the other, over tables that lend no more than the guest's
-- translations whatever its frames hold, are as many steps of the guest, each with the translations that are there.
use Rattle.std.specs.Prelude.{◌≡◌, ℕ, zero, suc, ◌+◌, ◌*◌, ◌≤◌, false, true, List, [], length, replicate, drop, Some, None}
use Rattle.std.specs.List.{All}
use Rattle.descriptors.specs.Controls.{wp_of}
use Rattle.guest_ram.specs.Bytes.{frame}
use Rattle.board.specs.declared.devices.Board.{Board}
use Rattle.board.specs.Boards.{given}
use Rattle.board.specs.Quiet.{board_steps, comes_within}
use Rattle.sites.specs.declared.site.Site.{Site}
use Rattle.image_check.specs.Places.{linear}
use Rattle.image_check.specs.Standing.{site_at}
use Rattle.image_laws.specs.Patches.{window_at}
use Rattle.host_cpl3.specs.declared.view.View.{View}
use Rattle.host_cpl3.specs.declared.exit.Exit.{Exit}
use Rattle.host_cpl3.specs.declared.exit.Exit.TheVariants as exits
use Rattle.host_cpl3.specs.HostRun.{Standing, host_run}
use Rattle.machine_model.specs.State.{Setting, State}
use Rattle.machine_model.specs.Step.{Report, interrupt_of}
use Rattle.machine_model.specs.Run.{Steps, trace_of}
use Rattle.machine_model.specs.Taken.{Taken, is_load, steps_by}
use Rattle.machine_model.specs.Untold.{AreLeft}
use Rattle.machine_model.specs.Counts.{direct_count, passed_digest}
use Rattle.native_steps.specs.Lends.{Lends, IsUnlent, AreKept}
use Rattle.native_steps.specs.Mirrors.{IsWedge, Mirrors}
use Rattle.native_steps.specs.Forward.{IsEntrance}

-- the same memory past the guest's frames
pub record SameBehind (m : Setting) (old new : List ℕ) : Type 0 where
  pub size : length new ≡ length old
  pub beyond : drop (4096 * m.frames) new ≡ drop (4096 * m.frames) old

-- These tables let no user's write pass to the frame, whatever the guest's frames hold.
abbrev pub StaysUnlent : Setting → View → List ℕ → ℕ → Type 0
StaysUnlent m v old at = (memory : List ℕ) → SameBehind m old memory → IsUnlent memory v.root at

-- The host, with these registers and this memory, and the guest stand at the same instruction, which the host may do:
-- the processor is awake, and no delivery is held off. The tables lend no more than the guest's translations, whatever
-- its frames hold.
pub record Beside (m : Setting) (v : View) (b : State) (s : Standing) : Type 0 where
  pub stands : Mirrors m s.ram v b
  pub lends : (memory : List ℕ) → SameBehind m s.ram memory → Lends m memory v.root v.kernel (wp_of b.cpu) b.set
  pub regs : b.cpu.regs ≡ s.regs
  pub awake : b.cpu.halted ≡ false
  pub unheld : b.cpu.held ≡ false
  pub entrance : v.kernel ≡ true → IsEntrance m.image b.cpu.regs.eip

-- the board with the events of the state's step
abbrev pub board_now : Setting → State → Board
board_now m b = given b.board m.script b.step

-- In the next k steps no interrupt is taken: none is in the first, and neither an edge nor an event comes before the
-- others.
abbrev pub AreQuiet : Setting → State → ℕ → Type 0
AreQuiet m b zero = Unit {0}
AreQuiet m b (suc k) = (interrupt_of b.cpu (board_now m b) ≡ None) × (comes_within (board_now m b) m.script b.step k ≡ false)

-- the board n quiet steps later
abbrev pub board_after : Setting → State → ℕ → Board
board_after m b zero = b.board
board_after m b (suc n) = board_steps (suc n) (board_now m b)

-- What the exit leaves: all as it was after the last completed instruction, but at a site, where the jump into the
-- window was done.
abbrev pub EndsAs : Setting → View → Exit → Standing → Standing → Type 0
EndsAs m v (exits.Entry at) last t =
    (site : Site) × (v.kernel ≡ true) × (last.regs.eip ≡ linear site.at) × (site_at m.image.sites site.at ≡ Some site)
    × (at ≡ window_at site.at)
    × (t ≡ record last { regs = record last.regs { eip = at } })
EndsAs m v (exits.Fault vector code cr2) last t = t ≡ last
EndsAs m v (exits.Soft vector) last t = t ≡ last
EndsAs m v exits.Outside last t = t ≡ last
EndsAs m v exits.FlagBits last t = t ≡ last
EndsAs m v exits.Wrap last t = t ≡ last
EndsAs m v exits.Budget last t = t ≡ last

-- The step loaded no CR3. It left the control registers, and as much memory as there was.
pub record IsQuiet (t : Taken) : Type 0 where
  pub through : is_load t.report.completed ≡ false
  pub cr0 : t.after.cpu.cr0 ≡ t.before.cpu.cr0
  pub cr3 : t.after.cpu.cr3 ≡ t.before.cpu.cr3
  pub cr4 : t.after.cpu.cr4 ≡ t.before.cpu.cr4
  pub size : length t.after.ram ≡ length t.before.ram

-- The host completes n instructions, and stands at last. The guest has done n steps by then, with the translations that
-- it had, which none of them changes: all of them count, none loads CR3 or changes a control register, nothing is seen in
-- them, no walk is done, and both stand beside one another again. Of the host's memory nothing past the guest's frames has
-- changed, and of the guest's no frame to which the tables let no write pass.
pub record Advanced (m : Setting) (v : View) (b : State) (k : ℕ) (s : Standing) (exit : Exit) (t : Standing) : Type 0 where
  pub n : ℕ
  pub few : n ≤ k
  pub last : Standing
  pub after : State
  pub reports : List Report
  pub steps : Steps m b (replicate n b.set) reports after
  pub sets : AreLeft m b (replicate n b.set)
  pub quiet : All IsQuiet (steps_by m b (replicate n b.set))
  pub beside : Beside m v after last
  pub cpu : after.cpu ≡ record b.cpu { regs = last.regs }
  pub set : after.set ≡ b.set
  pub board : after.board ≡ board_after m b n
  pub count : after.step ≡ b.step + n
  pub unseen : trace_of reports ≡ []
  pub pages : All (λ (r : Report). AreKept b.set r.pages) reports
  pub unwalked : All (λ (r : Report). r.tables ≡ []) reports
  pub through : All (λ (r : Report). is_load r.completed ≡ false) reports
  pub direct : direct_count m.image.sites reports ≡ n
  pub passed : last.passed ≡ passed_digest m.image.sites s.passed reports
  pub retired : last.retired ≡ s.retired + n
  pub behind : SameBehind m s.ram last.ram
  pub untouched : (at : ℕ) → StaysUnlent m v s.ram at → frame last.ram at ≡ frame s.ram at
  pub guest_untouched : (at : ℕ) → StaysUnlent m v s.ram at → frame after.ram at ≡ frame b.ram at
  pub ends : EndsAs m v exit last t

-- what a run of the host is, begun beside the guest in quiet steps
abbrev pub Advances : Type 0
Advances =
    (m : Setting) (v : View) (k : ℕ) (b : State) (s : Standing)
    → IsWedge m → Beside m v b s → AreQuiet m b k → Advanced m v b k s (host_run v k s).0 (host_run v k s).1
