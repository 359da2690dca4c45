-- What the calls of a guest ask for and promise, over its scene.
use Rattle.std.specs.Prelude.{◌≡◌, ℕ, ◌+◌, ◌*◌, ◌%◌, ◌≤◌, ◌<◌, ◌^◌, Bool, List, [], length, take, None, Result}
use Rattle.std.specs.FinMap.{empty}
use Rattle.guest_ram.specs.Bytes.{part}
use Rattle.ia32_types.specs.declared.addresses.TheConstants.{TEXT_FRAME, TEXT_PLACE}
use Rattle.frame_pool.specs.Held.{Moves, Owns}
use Rattle.frame_pool.specs.Pool.{SameOutside, Stands, base_of, count_of, free_list}
use Rattle.frame_pool.specs.declared.Pool.{Pool}
use Rattle.descriptors.specs.declared.cpu.Cpu.{Cpu}
use Rattle.board.specs.Scripts.{Events}
use Rattle.board.specs.declared.devices.Board.{Board}
use Rattle.image_check.specs.Image.{Image}
use Rattle.image_load.specs.Boot.{text_pages}
use Rattle.pv_io.specs.declared.answer.Failed.{Failed}
use Rattle.run_trace.specs.Pauses.{IfReached}
use Rattle.run_trace.specs.declared.pause.Pause.{Pause}
use Rattle.shadow_cache.specs.declared.roots.Roots.{Roots}
use Rattle.shadow_tables.specs.Sight.{StaysBeside, sight}
use Rattle.machine_model.specs.State.{Setting, State, wedge}
use Rattle.wedge_step.specs.Filled.{WereFilled}
use Rattle.wedge_step.specs.Pools.{Keeps}
use Rattle.wedge_step.specs.Scene.{Scene, frames_in, kept_in, set_in, state_in}
use Rattle.wedge_step.specs.Standing.{ground}
use Rattle.wedge_core.specs.OfRoots.{of_roots}
use Rattle.wedge_core.specs.Promises.{with_patches}
use Rattle.wedge_core.specs.Scenes.{IsHeldIn, IsReadyIn, StaysHeld}
use Rattle.wedge_core.specs.Starts.{IsAsNew}

-- The host's memory has the image's text in its place at the front, and a pool past the guest's frames, of which two are free.
pub record MayAdopt (image : Image) (frames : ℕ) (pool : Pool) (memory : List ℕ) : Type 0 where
  pub size : (2048 ≤ frames) × (frames ≤ 16384)
  pub room : 4096 * frames ≤ length memory
  pub whole : length memory % 4096 ≡ 0
  pub fits : TEXT_FRAME + text_pages image ≤ frames
  pub text : part memory TEXT_PLACE (length image.text) ≡ image.text
  pub behind : frames ≤ base_of pool
  pub stands : Stands pool memory
  pub free : 2 ≤ length (free_list pool memory)

-- the state from which a guest goes on that is adopted
abbrev pub adopted : Cpu → Board → ℕ → ℕ → List ℕ → State
adopted cpu board step frames memory = record { cpu = cpu; ram = take (4096 * frames) memory; set = empty; board = board; step = step }

-- The guest stands in that state, with no translation, and holds two frames of the pool.
pub record Adopts (image : Image) (frames : ℕ) (first : State) (before : Pool) (memory : List ℕ) (new : Scene Roots) : Type 0 where
  pub held : IsHeldIn of_roots (ground image frames) new
  pub ready : IsReadyIn of_roots (ground image frames) new
  pub state : (script : Events) → state_in of_roots (wedge image script frames) new ≡ first
  pub two : new.guest.held ≡ 2
  pub fills : new.guest.fills ≡ 0
  pub none : kept_in of_roots new ≡ 0
  pub filled : WereFilled (kept_in of_roots new) new.guest.fills
  pub pool : Keeps before new.pool memory new.memory [] (frames_in of_roots new)

-- Before a slice what it keeps may be dropped, where only roots are held: all else stays.
pub record BeginsSlice (old new : Scene Roots) : Type 0 where
  pub running : new.guest ≡ record old.guest { shadows = new.guest.shadows }
  pub held : StaysHeld of_roots old new
  pub ready : (image : Image) → IsReadyIn of_roots (ground image old.guest.frames) old
      → IsReadyIn of_roots (ground image old.guest.frames) new
  pub state : (m : Setting) → m.frames ≡ old.guest.frames → state_in of_roots m new ≡ state_in of_roots m old
  pub keeps : Keeps old.pool new.pool old.memory new.memory (frames_in of_roots old) (frames_in of_roots new)
  pub fewer : kept_in of_roots new ≤ kept_in of_roots old
  pub anew : old.guest.held ≡ 2 → IsAsNew of_roots new.guest.shadows new.memory
  pub beside : StaysBeside (sight of_roots old.guest.shadows old.memory) (sight of_roots new.guest.shadows new.memory)
  pub tables : (indices : ℕ → Bool) → of_roots.has_tables_under old.guest.shadows old.memory indices
      → of_roots.has_tables_under new.guest.shadows new.memory indices

-- After a slice: where all steps were done the front of the host's memory is the guest's, with the text patched. However the
-- slice ended its frames are its own, and no more pages are kept than were filled, if that was so before.
pub record GuestLeaves (image : Image) (script : Events) (old new : Scene Roots) (result : Result Pause Failed) : Type 0 where
  pub memory : IfReached result
      (take (4096 * old.guest.frames) new.memory ≡ with_patches image (state_in of_roots (wedge image script old.guest.frames) new).ram)
  pub owns : Owns new.pool new.memory (frames_in of_roots new)
  pub filled : WereFilled (kept_in of_roots old) old.guest.fills → WereFilled (kept_in of_roots new) new.guest.fills

-- All shadows were dropped: two frames are held, and no page is kept, for no value of CR3. The value of CR3 that they stand
-- for and all else of the guest are as they were.
pub record Releases (old new : Scene Roots) : Type 0 where
  pub running : new.guest ≡ record old.guest { shadows = new.guest.shadows; held = 2 }
  pub stands : ∥ of_roots.stands new.guest.shadows new.memory ∥₁
  pub owns : Owns new.pool new.memory (frames_in of_roots new)
  pub two : length (frames_in of_roots new) ≡ 2
  pub none : (page : ℕ) → page < 2 ^ 20 → of_roots.slots new.guest.shadows new.memory page ≡ None
  pub entries : set_in of_roots new ≡ empty
  pub other_roots : of_roots.other_roots new.guest.shadows new.memory ≡ []
  pub same_cr3 : of_roots.cr3 new.guest.shadows ≡ of_roots.cr3 old.guest.shadows
  pub moves : Moves old.pool new.pool old.memory new.memory (frames_in of_roots old) (frames_in of_roots new)
  pub again : StaysHeld of_roots old new
  pub ready : (image : Image) → IsReadyIn of_roots (ground image old.guest.frames) old
      → IsReadyIn of_roots (ground image old.guest.frames) new
  pub filled : WereFilled (kept_in of_roots new) new.guest.fills
  pub outside : SameOutside (base_of old.pool) (count_of old.pool) old.memory new.memory
