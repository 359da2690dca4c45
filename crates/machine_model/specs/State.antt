-- The state of a machine, what it runs with, and the state in which it starts.
use Rattle.std.specs.Prelude.{◌≡◌, ◌⊎◌, ℕ, ◌^◌, ◌<◌, Bool, true, List, Some}
use Rattle.std.specs.Option.{ForSome}
use Rattle.std.specs.FinMap.{FinMap, get, empty}
use Rattle.std.specs.Ordering.{nat_cmp}
use Rattle.descriptors.specs.Controls.{pse_of}
pub use Rattle.descriptors.specs.Starting.{space_at_start}
use Rattle.descriptors.specs.declared.cpu.Cpu.{Cpu}
use Rattle.paging.specs.declared.entry.Entry.{Entry}
use Rattle.paging.specs.declared.entry.Walk.TheVariants.{Found}
use Rattle.paging.specs.Fresh.{fresh, has}
use Rattle.paging.specs.Space.{Mode, Wedge, no_own}
use Rattle.guest_ram.specs.Bytes.{word32}
use Rattle.ia32_types.specs.declared.addresses.TheConstants.{TEXT_FRAME}
use Rattle.board.specs.declared.devices.Board.{Board}
use Rattle.board.specs.Scripts.{Events}
use Rattle.board.specs.Boards.{at_reset}
use Rattle.image_check.specs.Image.{Image}
use Rattle.image_load.specs.Boot.{text_pages, boot_ram, boot_cpu}

-- what stays the same over a run
pub record Setting : Type 0 where
  pub mode : Mode
  pub image : Image
  pub script : Events
  pub frames : ℕ

-- A monitor's rules over so many frames of text: the loader gave it those from the text's first on, and no byte is an
-- instruction's own yet.
abbrev pub rules_over : ℕ → Mode
rules_over count = Wedge TEXT_FRAME count no_own

-- those over an image
abbrev pub wedge_mode : Image → Mode
wedge_mode image = rules_over (text_pages image)

abbrev pub wedge : Image → Events → ℕ → Setting
wedge image script frames = record { mode = wedge_mode image; image = image; script = script; frames = frames }

-- the processor, the bytes of its memory, its cached translations by page, the board, and how many steps were done
pub record State : Type 0 where
  pub cpu : Cpu
  pub ram : List ℕ
  pub set : FinMap nat_cmp Entry
  pub board : Board
  pub step : ℕ

-- where every run begins
abbrev pub boot : Setting → State
boot s = record { cpu = boot_cpu s.image s.frames; ram = boot_ram s.image s.frames; set = empty; board = at_reset; step = 0 }

-- A fresh walk of a page of the address space finds this entry, though its dirty flag may be clear in the entry, with the
-- accessed flag set in both words, which for a page of 4 MB are one word.
pub record IsCacheable (s : Setting) (b : State) (page : ℕ) (e : Entry) : Type 0 where
  pub page_in : page < 2 ^ 20
  pub dir_at : ℕ
  pub word_at : ℕ
  pub dirty : Bool
  pub found : fresh b.ram s.frames b.cpu.cr3 (pse_of b.cpu) page ≡ Found (record e { dirty = dirty }) dir_at word_at
  pub accessed : (has (word32 b.ram dir_at) 0x20 ≡ true) × (has (word32 b.ram word_at) 0x20 ≡ true)
  pub is_dirty : e.dirty ≡ true → dirty ≡ true

-- before a step any translation may be dropped, and any that a walk could use without setting a flag may be added
pub record Loosened (s : Setting) (b : State) (set : FinMap nat_cmp Entry) : Type 0 where
  pub each : (page : ℕ) → ForSome (get set page) (λ e. (get b.set page ≡ Some e) ⊎ IsCacheable s b page e)
