-- What a step does to the control registers by which pages are translated.
use Rattle.std.specs.Prelude.{◌≡◌, true, false, Option, Some, None}
use Rattle.descriptors.specs.Controls.{pse_of}
use Rattle.descriptors.specs.declared.cpu.Cpu.{Cpu}
use Rattle.sys_exec.specs.declared.effect.SysEffect.{SysEffect}
use Rattle.sys_exec.specs.declared.effect.SysEffect.TheVariants as effects
use Rattle.machine_model.specs.Taken.{is_load}
use Rattle.machine_step.specs.declared.worked.Completed.{Completed}
use Rattle.machine_step.specs.declared.worked.Dropped.{Dropped}
use Rattle.machine_step.specs.declared.worked.Dropped.TheVariants as dropped
use Rattle.machine_step.specs.declared.worked.Seen.TheVariants as seen
use Rattle.machine_step.specs.declared.worked.Worked.{Worked}
use Rattle.machine_step.specs.Worked.{completed_by, is_all}

-- What a step that went did to CR3 and to CR0.WP and CR4.PSE, by what it dropped.
pub record RootsAs (before : Cpu) (w : Worked) : Type 0 where
  pub through : is_load (completed_by w.completed) ≡ false → w.cpu.cr3 ≡ before.cr3
  pub load : is_load (completed_by w.completed) ≡ true → (is_all w.dropped ≡ true) × (w.cpu.cr0 ≡ before.cr0) × (w.cpu.cr4 ≡ before.cr4)
  pub all : is_all w.dropped ≡ true → is_load (completed_by w.completed) ≡ false → (pse_of w.cpu ≡ pse_of before → ⊥)
  pub page_size : (pse_of w.cpu ≡ pse_of before → ⊥) → is_all w.dropped ≡ true

-- CR0, CR3 and CR4 are as before
pub record KeepsRoots (before after : Cpu) : Type 0 where
  pub cr0 : after.cr0 ≡ before.cr0
  pub cr3 : after.cr3 ≡ before.cr3
  pub cr4 : after.cr4 ≡ before.cr4

-- the step completed this instruction, or none, kept them and dropped nothing
pub record EndsWith (completed : Option Completed) (before : Cpu) (w : Worked) : Type 0 where
  pub completed_is : w.completed ≡ completed
  pub dropped_is : w.dropped ≡ dropped.Nothing
  pub roots : KeepsRoots before w.cpu

-- what an effect drops
abbrev pub dropped_by : SysEffect → Dropped
dropped_by (effects.DropPage page) = dropped.Page page
dropped_by (effects.DropDir index) = dropped.Dir index
dropped_by effects.DropAll = dropped.All
dropped_by _ = dropped.Nothing

-- an instruction with this effect does it; one that raises keeps them
abbrev pub EffectRoots : Completed → Cpu → SysEffect → Cpu → Type 0
EffectRoots completed before (effects.Raise vector code) after = KeepsRoots before after
EffectRoots completed before (effects.Stop stop) after = Unit {0}
EffectRoots completed before effect after =
    RootsAs before (record { seen = seen.Nothing; completed = Some completed; cpu = after; dropped = dropped_by effect; raised = None })
