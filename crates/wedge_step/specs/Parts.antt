-- Some of a set of translations.
use Rattle.std.specs.Prelude.{◌≡◌, Bool, false, if◌then◌else◌}
use Rattle.std.specs.FinMap.{empty}
pub use Rattle.paging.specs.Part.{IsPartOf}
use Rattle.machine_model.specs.Run.{Set, with_set}
use Rattle.machine_model.specs.State.{Setting, State, Loosened}
use Rattle.wedge_step.specs.declared.running.Lost.{Lost}

-- what is left of some translations, where all of them may have been dropped
abbrev pub left_of : Bool → Set → Set
left_of dropped set = if dropped then empty else set

-- What is kept in a state after a step that left a set: all of it, or nothing where all were dropped. Where the step loaded
-- CR3 and what was kept under the value came back, it is what a run may go on with.
pub record IsLeft (m : Setting) (new : State) (whole : Set) (lost : Lost) : Type 0 where
  pub allowed : Loosened m (with_set new whole) new.set
  pub exact : lost.reloaded ≡ false → new.set ≡ left_of lost.after whole
