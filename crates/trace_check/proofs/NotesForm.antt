-- The choices that a run's notes report have the form of a file.
use Rattle.std.proofs.Common.{◌≡◌, ℕ, suc, ◌<◌, ◌≤◌, ◌^◌, true, List, [], ◌∷◌, length, refl, ap, arith}
use Rattle.std.specs.Prelude.{nat_le}
use Rattle.std.specs.List.{All}
use Rattle.std.proofs.lemmas.Bool.{leb-true, and_parts}
use Rattle.run_trace.specs.Notes.{Note, emptied_at, dropped_at}
use Rattle.machine_model.specs.Notes.{step_in, is_ordered, IsPage}
use Rattle.trace_check.specs.declared.list.Choice.{Choice}
use Rattle.trace_check.specs.Form.{AreFrom}
use Rattle.trace_check.specs.ChoicesTold.{choices_of}
use Rattle.trace_check.specs.RunLaws.{NotesAreChoices}

as_many : (notes : List Note) → length (choices_of notes) ≡ length notes
as_many [] = refl
as_many (note ∷ notes) = ap suc (as_many notes)

-- what holds of each note holds of the first, and of each after it
pub first_of : (P : Note → Type 0) (note : Note) (notes : List Note) → All P (note ∷ notes) → P note
first_of P note notes h = h 0 note (omega arith)

pub later_of : (P : Note → Type 0) (note : Note) (notes : List Note) → All P (note ∷ notes) → All P notes
later_of P note notes h = λ k d lt. h (suc k) d (omega (arith, lt))

are_from : (low last : ℕ) (notes : List Note) → last < 2 ^ 64 → is_ordered low notes ≡ true → All (λ note. step_in note ≤ last) notes
    → All IsPage notes → AreFrom low (choices_of notes)
are_from low last [] lt ordered until pages = tt
are_from low last (emptied_at step ∷ notes) lt ordered until pages =
    let h = and_parts (nat_le low step) (is_ordered step notes) ordered in
    let at : step ≤ last = first_of (λ note. step_in note ≤ last) (emptied_at step) notes until in (
      leb-true low step h.0,
      omega (arith, at, lt),
      refl,
      are_from step last notes lt h.1 (later_of (λ note. step_in note ≤ last) (emptied_at step) notes until)
          (later_of IsPage (emptied_at step) notes pages),
    )
are_from low last (dropped_at step page ∷ notes) lt ordered until pages =
    let h = and_parts (nat_le low step) (is_ordered step notes) ordered in
    let at : step ≤ last = first_of (λ note. step_in note ≤ last) (dropped_at step page) notes until in (
      leb-true low step h.0,
      omega (arith, at, lt),
      first_of IsPage (dropped_at step page) notes pages,
      are_from step last notes lt h.1 (later_of (λ note. step_in note ≤ last) (dropped_at step page) notes until)
          (later_of IsPage (dropped_at step page) notes pages),
    )

lower : (a b : ℕ) (list : List Choice) → a ≤ b → AreFrom b list → AreFrom a list
lower a b [] le h = tt
lower a b (c ∷ rest) le h = let at : b ≤ c.step = h.0 in (omega (arith, le, at), h.1, h.2, h.3)

pub notes_are_choices : NotesAreChoices
notes_are_choices m old sets last notes lt few are = record {
  few = omega (arith, few, as_many notes);
  each = lower 0 old.step (choices_of notes) (omega arith) (are_from old.step last notes lt are.ordered are.until are.pages);
}
