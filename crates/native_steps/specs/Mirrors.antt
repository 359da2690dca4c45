-- What the guest's state is over the host's memory, its registers and the view.
use Rattle.std.specs.Prelude.{◌≡◌, ℕ, ◌+◌, ◌*◌, ◌≤◌, List, length, take, Bool, true, false}
use Rattle.guest_ram.specs.Bytes.{part, with_part}
use Rattle.ia32_types.specs.declared.addresses.TheConstants.{TEXT_FRAME, TEXT_PLACE}
use Rattle.descriptors.specs.declared.cpu.Cpu.{Cpu}
use Rattle.sites.specs.Patched.{patched}
use Rattle.image_check.specs.Accepts.{IsAccepted}
use Rattle.image_load.specs.Boot.{text_pages}
use Rattle.descriptors.specs.Segments.{seg_of}
use Rattle.host_cpl3.specs.declared.view.View.{View}
use Rattle.machine_model.specs.State.{Setting, State, wedge_mode}
use Rattle.machine_model.specs.Rules.{is_open}

-- a run under the monitor's rules, of an accepted image whose text has its place in the guest's memory
pub record IsWedge (m : Setting) : Type 0 where
  pub mode : m.mode ≡ wedge_mode m.image
  pub accepted : IsAccepted m.image
  pub room : TEXT_FRAME + text_pages m.image ≤ m.frames

-- the guest's memory: the front of the host's, with the text as it was before it was patched
unfoldable pub shown : Setting → List ℕ → List ℕ
shown m memory = with_part (take (4096 * m.frames) memory) TEXT_PLACE m.image.text

-- the host's memory has the guest's frames at its front, and in them the patched text
pub record IsHost (m : Setting) (memory : List ℕ) : Type 0 where
  pub room : 4096 * m.frames ≤ length memory
  pub text : part memory TEXT_PLACE (length m.image.text) ≡ patched m.image.text 0 m.image.sites

-- the level of the view's side
abbrev pub IsLevelOf : Bool → ℕ → Type 0
IsLevelOf true cpl = cpl ≡ 0
IsLevelOf false cpl = cpl ≡ 3

-- the view has the processor's selectors, and denies what its null segments deny
pub record Sees (v : View) (cpu : Cpu) : Type 0 where
  pub level : IsLevelOf v.kernel cpu.cpl
  pub es : v.es ≡ (seg_of cpu 0).sel
  pub cs : v.cs ≡ (seg_of cpu 1).sel
  pub ss : v.ss ≡ (seg_of cpu 2).sel
  pub ds : v.ds ≡ (seg_of cpu 3).sel
  pub es_null : v.es_null ≡ (seg_of cpu 0).null
  pub cs_null : (seg_of cpu 1).null ≡ false
  pub ss_null : (seg_of cpu 2).null ≡ false
  pub ds_null : v.ds_null ≡ (seg_of cpu 3).null
  pub user_flags : v.kernel ≡ false → is_open cpu ≡ true

-- The guest's state over the host's memory; the host's registers are those of the state's processor.
pub record Mirrors (m : Setting) (memory : List ℕ) (v : View) (b : State) : Type 0 where
  pub host : IsHost m memory
  pub ram : b.ram ≡ shown m memory
  pub sees : Sees v b.cpu
