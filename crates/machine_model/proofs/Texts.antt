-- The text of a run that goes on.
use Rattle.std.proofs.Common.{◌≡◌, ℕ, List, [], ◌∷◌, ◌++◌, refl, sym, ap, ◌∙◌, append_assoc}
use Rattle.run_trace.specs.declared.items.End.{End}
use Rattle.run_trace.specs.declared.items.Item.{Item}
use Rattle.run_trace.specs.Text.{item_line, lines_of, end_line, text_of}
use Rattle.machine_model.specs.Step.{Report}
use Rattle.machine_model.specs.Run.{trace_of}
use Rattle.machine_model.proofs.Runs.{trace_join}

pub lines_join : (xs ys : List Item) → lines_of (xs ++ ys) ≡ lines_of xs ++ lines_of ys
lines_join [] ys = refl
lines_join (x ∷ xs) ys =
    ap (λ (l : List ℕ). item_line x ++ l) (lines_join xs ys) ∙ sym (append_assoc (item_line x) (lines_of xs) (lines_of ys))

-- the lines of what two runs report
pub reported : (reports later : List Report) → lines_of (trace_of (reports ++ later)) ≡ lines_of (trace_of reports)
    ++ lines_of (trace_of later)
reported reports later = ap lines_of (trace_join reports later) ∙ lines_join (trace_of reports) (trace_of later)

pub text_is : (reports : List Report) (count : ℕ) (end : End) → lines_of (trace_of reports)
    ++ end_line count end ≡ text_of (trace_of reports) count end
unfolding text_of
text_is reports count end = refl

-- its lines, those of what comes later and the last one
pub text_join : (reports later : List Report) (count : ℕ) (end : End)
    → text_of (trace_of (reports ++ later)) count end ≡ lines_of (trace_of reports) ++ (lines_of (trace_of later) ++ end_line count end)
text_join reports later count end =
    sym (text_is (reports ++ later) count end)
    ∙ (ap (λ (l : List ℕ). l ++ end_line count end) (reported reports later)
    ∙ append_assoc (lines_of (trace_of reports)) (lines_of (trace_of later)) (end_line count end))

-- its lines and the text of what comes later
pub text_behind : (reports later : List Report) (count : ℕ) (end : End)
    → text_of (trace_of (reports ++ later)) count end ≡ lines_of (trace_of reports) ++ text_of (trace_of later) count end
text_behind reports later count end =
    text_join reports later count end ∙ ap (λ (l : List ℕ). lines_of (trace_of reports) ++ l) (text_is later count end)
