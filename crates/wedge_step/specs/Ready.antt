-- What the shadows keep under a value of CR3 may be used again when the value is loaded: fresh walks find it.
use Rattle.std.specs.Prelude.{◌≡◌, ℕ, ◌^◌, ◌<◌, List, [], ◌∷◌, Bool, false, ◌==◌, ◌/◌, ◌&&◌, Option, Some}
use Rattle.std.specs.Option.{ForSome}
use Rattle.std.specs.FinMap.{get}
use Rattle.std.specs.List.{list_any}
use Rattle.descriptors.specs.Controls.{pse_of, wp_of}
use Rattle.descriptors.specs.declared.cpu.Cpu.{Cpu}
use Rattle.image_check.specs.Image.{Image}
use Rattle.shadow_tables.specs.OtherRoot.{OtherRoot}
use Rattle.guest_ram.specs.Among.{is_among}
use Rattle.shadow_tables.specs.Slots.{Slot}
use Rattle.shadow_tables.specs.declared.shadows.Shadows as shadows
use Rattle.machine_model.specs.Reloading.{IsFoundBy}
use Rattle.machine_model.specs.Run.{Set}
use Rattle.machine_model.specs.State.{Setting}
use Rattle.machine_step.specs.declared.worked.Dropped.{Dropped}
use Rattle.machine_step.specs.declared.worked.Dropped.TheVariants as dropped
pub use Rattle.machine_step.specs.Worked.{is_all}
use Rattle.native_steps.specs.Mirrors.{shown}
use Rattle.wedge_mem.specs.Told.{read_by}
use Rattle.wedge_step.specs.Standing.{AreOpen}

-- in the guest's memory, with the processor's pages of 4 MB, a walk from this directory finds the page's entry, by words in
-- frames of which the test holds
abbrev pub IsFoundIn : Setting → Cpu → List ℕ → ℕ → (ℕ → Bool) → ℕ → Slot → Type 0
IsFoundIn m cpu ram cr3 tables page slot = IsFoundBy ram m.frames cr3 (pse_of cpu) tables page slot.entry

-- so of each page that is kept
abbrev pub AreFound : Setting → Cpu → List ℕ → ℕ → (ℕ → Bool) → (ℕ → Option Slot) → Type 0
AreFound m cpu ram cr3 tables slots = (page : ℕ) → page < 2 ^ 20 → ForSome (slots page) (IsFoundIn m cpu ram cr3 tables page)

-- What is kept under a value that isn't present is found, and the views may show it.
pub record IsReadyRoot (m : Setting) (cpu : Cpu) (ram : List ℕ) (a : OtherRoot) : Type 0 where
  pub found : AreFound m cpu ram a.cr3 a.tables a.slots
  pub open_to : AreOpen m.image (wp_of cpu) a.slots

abbrev pub AreReady : Setting → Cpu → List ℕ → List OtherRoot → Type 0
AreReady m cpu ram [] = Unit {0}
AreReady m cpu ram (a ∷ other_roots) = IsReadyRoot m cpu ram a × AreReady m cpu ram other_roots

abbrev pub AllOpen : Image → Bool → List OtherRoot → Type 0
AllOpen image wp [] = Unit {0}
AllOpen image wp (a ∷ other_roots) = AreOpen image wp a.slots × AllOpen image wp other_roots

-- those whose tables lie in none of the frames that were written
abbrev pub AreReadyBehind : List ℕ → Setting → Cpu → List ℕ → List OtherRoot → Type 0
AreReadyBehind wrote m cpu ram [] = Unit {0}
AreReadyBehind wrote m cpu ram (a ∷ other_roots) =
    (list_any a.tables wrote ≡ false → IsReadyRoot m cpu ram a) × AreReadyBehind wrote m cpu ram other_roots

-- the pages that leave at the end of a step; where all leave, those that the step went through
abbrev pub leaving : Dropped → List ℕ → ℕ → Bool
leaving dropped.Nothing pages page = false
leaving (dropped.Page gone) pages page = page == gone
leaving (dropped.Dir index) pages page = page / 1024 == index
leaving dropped.All pages page = is_among page pages

-- those of them that are left to leave where CR3 was loaded
abbrev pub left_out : Dropped → List ℕ → ℕ → Bool
left_out dropped pages page = is_all dropped && is_among page pages

module _ {S : Type 0} (g : shadows.Ghosts S) where
  -- The shadows keep what is present under the processor's CR3, where no frame of its tables was written: it is found, but
  -- for the pages that the test leaves out. So is what is kept under other values.
  pub record IsReadyBut (out : ℕ → Bool) (m : Setting) (cpu : Cpu) (s : S) (memory : List ℕ) : Type 0 where
    pub cr3_is : g.cr3 s ≡ Some cpu.cr3
    pub present : g.stale s ≡ false → (page : ℕ) → page < 2 ^ 20 → out page ≡ false
        → ForSome (g.slots s memory page) (IsFoundIn m cpu (shown m memory) cpu.cr3 (g.read_from s) page)
    pub others : AreReady m cpu (shown m memory) (g.other_roots s memory)

  abbrev pub IsReady : Setting → Cpu → S → List ℕ → Type 0
  IsReady m cpu s memory = IsReadyBut (λ page. false) m cpu s memory

  -- The same after the accesses of a step, for the translations that it left: it has read these frames as tables, and
  -- written those.
  pub record IsReadyBehind (out : ℕ → Bool) (m : Setting) (cpu : Cpu) (s : S) (memory : List ℕ) (set : Set)
      (tables wrote : List ℕ) : Type 0 where
    pub cr3_is : g.cr3 s ≡ Some cpu.cr3
    pub present : g.stale s ≡ false → list_any (read_by (g.read_from s) tables) wrote ≡ false → (page : ℕ)
        → page < 2 ^ 20 → out page ≡ false
        → ForSome (get set page) (IsFoundBy (shown m memory) m.frames cpu.cr3 (pse_of cpu) (read_by (g.read_from s) tables) page)
    pub others : AreReadyBehind wrote m cpu (shown m memory) (g.other_roots s memory)
