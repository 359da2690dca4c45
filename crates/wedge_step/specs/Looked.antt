-- What a look through a view of the guest's memory finds.
use Rattle.std.specs.Prelude.{ℕ, List}
use Rattle.descriptors.specs.declared.cpu.Cpu.{Cpu}
use Rattle.shadow_tables.specs.Entries.{entries_of}
use Rattle.shadow_tables.specs.declared.shadows.Shadows as shadows
use Rattle.machine_model.specs.Run.{Set}
use Rattle.machine_model.specs.State.{Setting, State}
use Rattle.native_steps.specs.Mirrors.{shown}
use Rattle.wedge_step.specs.Clashing.{looked}
use Rattle.wedge_step.specs.Standing.{ground}
use Rattle.wedge_step.specs.declared.sight.GuestView.{GuestView}

-- the setting in which it is looked at
abbrev pub ground_of : GuestView → Setting
ground_of view = ground view.image.now view.frames

-- memory as the guest sees it
abbrev pub bytes_of : GuestView → List ℕ
bytes_of view = shown (ground_of view) view.ram.now

module _ {S : Type 0} (g : shadows.Ghosts S) where
  -- the translations that are kept
  abbrev pub set_at : S → GuestView → Set
  set_at s view = entries_of (g.slots s view.ram.now)

  -- the state whose next instruction is looked at
  abbrev pub looked_at : Cpu → S → GuestView → State
  looked_at cpu s view = looked cpu (bytes_of view) (set_at s view)
