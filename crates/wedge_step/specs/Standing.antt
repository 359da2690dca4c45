-- What a guest stands for over its host's memory and a pool, between two of its steps.
use Rattle.std.specs.Prelude.{◌≡◌, ℕ, ◌+◌, ◌*◌, ◌%◌, ◌^◌, ◌<◌, ◌≤◌, List, [], length, Bool, true, false, Option, if◌then◌else◌}
use Rattle.std.specs.Option.{ForSome}
use Rattle.frame_pool.specs.Held.{Owns}
use Rattle.frame_pool.specs.Pool.{base_of, free_list}
use Rattle.frame_pool.specs.declared.Pool.{Pool}
use Rattle.paging.specs.Fresh.{allows}
use Rattle.step_mem.specs.Changes.{AreWithin}
use Rattle.shadow_tables.specs.Entries.{entries_of}
use Rattle.shadow_tables.specs.Slots.{Slot, is_user}
use Rattle.shadow_tables.specs.declared.shadows.Shadows as shadows
use Rattle.shadow_tables.specs.declared.words.Side.{Side}
use Rattle.shadow_tables.specs.declared.words.Side.TheVariants.{Kernel, User}
use Rattle.descriptors.specs.Controls.{wp_of}
use Rattle.image_check.specs.Image.{Image}
use Rattle.machine_model.specs.State.{Setting, State, wedge}
pub use Rattle.machine_model.specs.Able.{IsAble}
use Rattle.native_steps.specs.Lends.{IsOpen}
use Rattle.native_steps.specs.Mirrors.{IsWedge, IsHost, shown}
use Rattle.wedge_step.specs.declared.running.Running.{Running}

abbrev pub is_kernel : Side → Bool
is_kernel Kernel = true
is_kernel User = false

-- the side of a processor at this level
abbrev pub side_of : Bool → Side
side_of true = User
side_of false = Kernel

-- the host's right to the access
abbrev pub lets : Slot → Bool → Bool
lets slot write = if write then slot.writes else slot.reads

-- What the host may do in a view, the guest's entry lets pass there, and it leads where that view may lead.
pub record IsOpenSlot (image : Image) (wp : Bool) (slot : Slot) : Type 0 where
  pub allowed : (write : Bool) → lets slot write ≡ true → allows slot.entry (record { write = write; user = is_user slot.side }) wp ≡ true
  pub leads : (write : Bool) → lets slot write ≡ true → IsOpen (is_kernel slot.side) image slot.entry.page slot.entry.frame

abbrev pub AreOpen : Image → Bool → (ℕ → Option Slot) → Type 0
AreOpen image wp slots = (page : ℕ) → page < 2 ^ 20 → ForSome (slots page) (IsOpenSlot image wp)

-- a setting in which no event comes; what a guest stands for doesn't depend on events
abbrev pub ground : Image → ℕ → Setting
ground image frames = wedge image [] frames

module _ {S : Type 0} (g : shadows.Ghosts S) where
  -- the translations that the shadows keep
  abbrev pub set_of : Running S → List ℕ → Rattle.machine_model.specs.Run.Set
  set_of r memory = entries_of (g.slots r.shadows memory)

  -- The guest's state: its memory is the front of the host's, with the text as it was before it was patched.
  abbrev pub state_of : Setting → Running S → List ℕ → State
  state_of m r memory = record { cpu = r.cpu; ram = shown m memory; set = set_of r memory; board = r.board; step = r.step }

  -- The host's memory has the patched text in the guest's frames, and after them the pool, of which the guest holds
  -- its shadows' frames.
  pub record IsHeld (m : Setting) (r : Running S) (pool : Pool) (memory : List ℕ) : Type 0 where
    pub wedge : IsWedge m
    pub frames_are : r.frames ≡ m.frames
    pub size : (2048 ≤ m.frames) × (m.frames ≤ 16384)
    pub host : IsHost m memory
    pub whole : length memory % 4096 ≡ 0
    pub behind : m.frames ≤ base_of pool
    pub stand : ∥ g.stands r.shadows memory ∥₁
    pub owns : Owns pool memory (g.frames r.shadows memory)
    pub counted : r.held ≡ length (g.frames r.shadows memory)
    pub few : length (free_list pool memory) + length (g.frames r.shadows memory) < 2 ^ 32
    pub fills : r.fills ≤ 128 * r.step
    pub within : AreWithin m.frames (set_of r memory)
    pub open_to : AreOpen m.image (wp_of r.cpu) (g.slots r.shadows memory)
