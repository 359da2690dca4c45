-- A run that is to rest: what it puts, and what a sink has taken of it that failed.
use Rattle.std.proofs.Common.{◌≡◌, ℕ, ◌≤◌, List, [], ◌++◌, Option, Result, Ok, Err, inl, inr, refl, sym, ap, ◌∙◌}
use Rattle.std.proofs.lemmas.List.{append-nil}
use Rattle.pv_io.specs.Sink.{Appends, AppendsFront}
use Rattle.pv_io.proofs.Pieces.{front_of, appends_none}
use Rattle.ia32_types.specs.declared.stop.Stop as stops
use Rattle.image_load.specs.Boot.{need}
use Rattle.image_load.specs.declared.fault.RunFault.{RunFault}
use Rattle.image_load.specs.declared.fault.RunFault.TheVariants as fault
use Rattle.run_trace.specs.declared.items.End.{End}
use Rattle.run_trace.specs.declared.items.End.TheVariants as ends
use Rattle.run_trace.specs.Text.{lines_of, end_line, text_of}
use Rattle.machine_model.specs.State.{Setting, State, boot}
use Rattle.machine_model.specs.Step.{Report}
use Rattle.machine_model.specs.Run.{Set, Steps, Run, trace_of}
use Rattle.machine_model.proofs.Ending.{each_ends}
use Rattle.machine_model.proofs.Texts.{text_behind, text_is, lines_join}
use Rattle.machine_model.proofs.Runs.{steps_join, trace_join}
use Rattle.checkpoint.specs.declared.rested.Rested.{Rested}
use Rattle.checkpoint.specs.declared.rested.Rested.TheVariants.{At, Stopped}
use Rattle.checkpoint.specs.Rested.{rested_text, RestsTo}
use Rattle.checkpoint.specs.RestAnswers.{RestsAs, RestsFromStart}

-- what a run puts that goes on: the lines so far, and then what is put from there
rested_join : (reports later : List Report) (count : ℕ) (end : End)
    → rested_text (trace_of (reports ++ later)) count end ≡ lines_of (trace_of reports) ++ rested_text (trace_of later) count end
rested_join reports later count ends.Bound = ap lines_of (trace_join reports later) ∙ lines_join (trace_of reports) (trace_of later)
rested_join reports later count (ends.Stopped stop) = text_behind reports later count (ends.Stopped stop)

abbrev pub FailsIn : Setting → ℕ → State → Option (List ℕ) → Option (List ℕ) → Type 0
FailsIn m n old a b = (last : State) × (end : End) × (text : List ℕ) × RestsTo m n old (λ _. Unit {0}) text last end × AppendsFront a b text

-- the sink failed at a line of a step
pub fails_in_lines : (m : Setting) (n : ℕ) (old mid : State) (sets : List Set) (reports : List Report) (a b : Option (List ℕ))
    → Steps m old sets reports mid → mid.step ≤ n → AppendsFront a b (lines_of (trace_of reports)) → FailsIn m n old a b
fails_in_lines m n old mid sets reports a b steps within front =
    let e = each_ends m n mid within in (
      e.last,
      e.end,
      rested_text (trace_of (reports ++ e.reports)) e.last.step e.end,
      record {
        sets = sets ++ e.sets;
        reports = reports ++ e.reports;
        run = record { steps = steps_join m old mid e.last sets e.sets reports e.reports steps e.run.steps; ends = e.run.ends };
        text_is = refl;
        counted = tt;
      },
      front_of a a b [] (lines_of (trace_of reports)) (rested_text (trace_of e.reports) e.last.step e.end) _ (appends_none a) front
          (rested_join reports e.reports e.last.step e.end),
    )

-- the sink failed at the last line
pub fails_at_end : (m : Setting) (n : ℕ) (old last : State) (sets : List Set) (reports : List Report) (stop : stops.Stop) (steps : ℕ)
    (a b c : Option (List ℕ))
    → Run m n old sets reports last (ends.Stopped stop) → steps ≡ last.step
    → Appends a b (lines_of (trace_of reports)) → AppendsFront b c (end_line steps (ends.Stopped stop)) → FailsIn m n old a c
fails_at_end m n old last sets reports stop steps a b c run is put front = (
  last,
  ends.Stopped stop,
  text_of (trace_of reports) last.step (ends.Stopped stop),
  record { sets = sets; reports = reports; run = run; text_is = refl; counted = tt },
  front_of a b c (lines_of (trace_of reports)) (end_line steps (ends.Stopped stop)) [] _ put front
      (sym (text_is reports last.step (ends.Stopped stop))
      ∙ ap (λ (l : List ℕ). lines_of (trace_of reports) ++ l)
      (ap (λ (k : ℕ). end_line k (ends.Stopped stop)) (sym is) ∙ sym (append-nil (end_line steps (ends.Stopped stop))))),
)

-- the same of a run from the start
pub from_start : (m : Setting) (n : ℕ) (counts : List Report → Type 0) (old new : Option (List ℕ)) (before now : ℕ)
    (result : Result Rested RunFault)
    → need m.image ≤ m.frames → RestsAs m n (boot m) counts old new before now result → RestsFromStart m n counts old new before now result
from_start m n counts old new before now (Ok (At state)) fits h = (fits, h)
from_start m n counts old new before now (Ok (Stopped ended)) fits h = (fits, h)
from_start m n counts old new before now (Err fault.Write) fits h = (fits, h)
from_start m n counts old new before now (Err (fault.TooSmall small)) fits h = absurd h
from_start m n counts old new before now (Err fault.Memory) fits (inl none) = inl none
from_start m n counts old new before now (Err fault.Memory) fits (inr lines) = inr (fits, lines)
