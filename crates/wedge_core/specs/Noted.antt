-- Which translations the steps of a slice use, and what is reported of those that it loses.
use Rattle.std.specs.Prelude.{◌≡◌, ℕ, ◌+◌, ◌≤◌, ◌==◌, Bool, true, false, List, [], ◌∷◌, ◌++◌, length, Result, Ok, Err, IsSome}
use Rattle.std.specs.List.{list_any, filter}
use Rattle.std.specs.FinMap.{get}
use Rattle.pv_io.specs.declared.answer.Failed.{Failed}
use Rattle.run_trace.specs.declared.pause.Pause.{Pause}
use Rattle.run_trace.specs.declared.pause.Pause.TheVariants.{Reached, Stopped}
use Rattle.run_trace.specs.Notes.{Note, emptied_at}
use Rattle.machine_model.specs.State.{Setting, State}
use Rattle.machine_model.specs.Step.{Halts, step_of}
use Rattle.machine_model.specs.Run.{Set}
use Rattle.machine_model.specs.Notes.{AreTold, AreNotes, step_in, is_dropped, set_told}
use Rattle.wedge_step.specs.declared.running.Lost.{Lost}

-- What is kept at the end, or what the step that stops uses: what the last step left, but for what the notes report.
abbrev pub EndsTold : Setting → State → State → List Note → Result Pause Failed → Type 0
EndsTold m last new notes (Ok Reached) = new.set ≡ set_told notes last.step last.set
EndsTold m last new notes (Ok (Stopped stop)) = step_of m last (set_told notes last.step last.set) ≡ Halts stop
EndsTold m last new notes (Err failed) = Unit {0}

-- Before each step of a slice the translations are those that the step before left, without those that were dropped by
-- these notes; and so at its end. At most two are reported of a step. A page that is dropped after the last step is one that
-- the set which this step left holds.
pub record IsNoted (m : Setting) (old new : State) (sets : List Set) (last : State) (notes : List Note)
    (result : Result Pause Failed) : Type 0 where
  pub told : AreTold m old sets notes
  pub are : AreNotes m old sets last.step notes
  pub two : (step : ℕ) → length (filter (λ (note : Note). step_in note == step) notes) ≤ 2
  pub held : (page : ℕ) → list_any (is_dropped last.step page) notes ≡ true → IsSome (get last.set page)
  pub ends : EndsTold m last new notes result

-- where notes are wanted, and some were reported, these come after them
abbrev pub NotesOn : Bool → (List Note → Type 0) → (List Note → Type 0) → List Note → Type 0
NotesOn notes_wanted told tells notes = notes_wanted ≡ true → (so_far : List Note) → told so_far → tells (so_far ++ notes)

-- a note of all translations, where they were dropped before a step
abbrev pub emptied_if : Bool → ℕ → List Note
emptied_if true step = emptied_at step ∷ []
emptied_if false step = []

-- what is reported of a step that went, and of the next one
abbrev pub notes_then : Lost → ℕ → List Note
notes_then lost step = emptied_if lost.before step ++ emptied_if lost.after (step + 1)
