-- The lines of steps: of one, of one that isn't printed, and of items alone.
use Rattle.std.proofs.Common.{◌≡◌, ℕ, ◌<◌, nat_le, ◌&&◌, Bool, false, List, [], ◌∷◌, ◌++◌, map, refl, sym, ap, ◌∙◌}
use Rattle.std.specs.List.{flat_map}
use Rattle.std.proofs.lemmas.Bool.{lt-leb}
use Rattle.run_trace.specs.Text.{lines_of, end_line}
use Rattle.look_words.specs.Words.{Only}
use Rattle.machine_model.specs.State.{Setting, State}
use Rattle.machine_model.specs.Step.{Report, Went, step_of}
use Rattle.machine_model.specs.Run.{Set, trace_of, with_set}
use Rattle.machine_model.specs.Taken.{Taken, steps_by}
use Rattle.machine_model.proofs.Runs.{taken_first, steps_are_taken}
use Rattle.machine_model.proofs.Texts.{lines_join, text_is}
use Rattle.step_trace.specs.Lines.{is_printed, line_if_printed, line_of, step_lines}
use Rattle.step_trace.specs.Traces.{lines_by, WithoutLines}

-- one step
pub lines_by_one : (m : Setting) (from : ℕ) (only : Only) (b after : State) (set : Set) (sets : List Set) (report : Report)
    → step_of m b set ≡ Went report after
    → lines_by m from only b (set ∷ sets) ≡ line_if_printed m from only (with_set b set) after ++ lines_of report.items
    ++ lines_by m from only after sets
lines_by_one m from only b after set sets report is =
    ap (λ (l : List Taken). flat_map (step_lines m from only) l) (taken_first m b after set sets report is)

-- whatever is cached after it
pub same_line : (m : Setting) (from : ℕ) (only : Only) (b new : State) (whole : Set) → line_if_printed m from only b (with_set new whole)
    ≡ line_if_printed m from only b new
unfolding line_if_printed line_of
same_line m from only b new whole = refl

-- nothing is printed before the first step that is asked for
not_yet : (from k : ℕ) (b : Bool) → k < from → (nat_le from k && b) ≡ false
not_yet from k b lt = let f : nat_le from k ≡ false = lt-leb _ _ lt in rw f refl

pub unprinted : (m : Setting) (from : ℕ) (only : Only) (b after : State) → b.step < from → line_if_printed m from only b after ≡ []
unfolding line_if_printed is_printed
unprinted m from only b after lt = rw (not_yet from b.step _ lt) refl

-- ---- without the lines that are added

of_items : (taken : List Taken) → flat_map (λ (t : Taken). lines_of t.report.items) taken ≡ lines_of
    (trace_of (map (λ (t : Taken). t.report) taken))
of_items [] = refl
of_items (t ∷ taken) =
    ap (λ (l : List ℕ). lines_of t.report.items ++ l) (of_items taken)
    ∙ sym (lines_join t.report.items (trace_of (map (λ (u : Taken). u.report) taken)))

pub without_lines : WithoutLines
without_lines m old last sets reports end steps =
    ap (λ (l : List ℕ). l ++ end_line last.step end)
    (of_items (steps_by m old sets) ∙ ap (λ (r : List Report). lines_of (trace_of r))
    (steps_are_taken m old last sets reports steps).reports_are)
    ∙ text_is reports last.step end
