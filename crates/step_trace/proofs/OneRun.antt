-- The steps of a trace are those of a run.
use Rattle.std.proofs.Common.{◌≡◌, ℕ, zero, suc, ◌+◌, ◌-◌, List, [], ◌∷◌, ◌++◌, refl, sym, ap, ◌∙◌, append_assoc, arith}
use Rattle.run_trace.specs.Text.{lines_of, end_line}
use Rattle.look_words.specs.Words.{Only}
use Rattle.paging.specs.Part.{IsPartOf}
use Rattle.machine_model.specs.State.{Setting, State, boot}
use Rattle.machine_model.specs.Step as steps
use Rattle.machine_model.specs.Step.{Report, Went, Halts, step_of}
use Rattle.machine_model.specs.Run.{Set, Steps, stopping, with_set}
use Rattle.machine_model.specs.Ends.{StepsTo}
use Rattle.machine_model.proofs.Counting.{each_counts}
use Rattle.bare_mem.specs.Keeping.{Keeps, kept_after}
use Rattle.bare_machine.specs.Settings.{bare}
use Rattle.bare_machine.specs.FreshRuns.{after_step}
use Rattle.bare_machine.specs.Buffered.{cut_to, kept_by, kept_course, in_buffer}
use Rattle.bare_machine.proofs.Leaving.{left_part}
use Rattle.bare_machine.proofs.Runs.{part_allowed, part_same, same_step}
use Rattle.step_trace.specs.Lines.{line_if_printed, lines_of_stop}
use Rattle.step_trace.specs.Traces.{after_lines, kept_trace, lines_by, trace_text, IsTraceOf, EachTraceIsOfItsRun, EachTraceIsOfTheBareRun}
use Rattle.step_trace.proofs.Quiet.{lines_by_one, same_line}

-- the lines of a step before those of the later ones, whatever is cached after it
one_more : (m : Setting) (from : ℕ) (only : Only) (b new last : State) (whole kept : Set) (now : Report) (sets : List Set)
    (stopped end later : List ℕ) → step_of m (with_set b whole) b.set ≡ Went now new
    → later ≡ lines_by m from only new sets ++ stopped ++ end
    → (line_if_printed m from only b (with_set new kept) ++ lines_of now.items) ++ later
    ≡ lines_by m from only (with_set b whole) (b.set ∷ sets) ++ stopped ++ end
one_more m from only b new last whole kept now sets stopped end later went is =
    let front = line_if_printed m from only b new ++ lines_of now.items in
    let after = lines_by m from only new sets in
    ap (λ (l : List ℕ). (l ++ lines_of now.items) ++ later) (same_line m from only b new kept)
    ∙ (ap (λ (l : List ℕ). front ++ l) is
    ∙ (sym (append_assoc front (after ++ stopped) end)
    ∙ (ap (λ (l : List ℕ). l ++ end) (sym (append_assoc front after stopped))
    ∙ ap (λ (l : List ℕ). l ++ stopped ++ end) (sym (lines_by_one m from only (with_set b whole) new b.set sets now went)))))

-- a step, and the trace after it
traced_from : (keeping : Keeps) (k : ℕ) (m : Setting) (n from : ℕ) (only : Only) (b : State) (whole : Set) (r : steps.Result)
    → IsPartOf b.set whole → step_of m b b.set ≡ r → StepsTo (b.step + 1) r → b.step + suc k ≡ n
    → ((mid : State) (left_then : Set) → IsPartOf mid.set left_then → mid.step + k ≡ n
    → IsTraceOf m n from only (with_set mid left_then) (kept_course keeping m k mid) (kept_trace keeping m from only k mid))
    → IsTraceOf m n from only (with_set b whole) (after_step b (kept_by keeping b.set r) (λ mid. kept_course keeping m k mid))
    (after_lines m from only b (kept_by keeping b.set r) (λ mid. kept_trace keeping m from only k mid))
unfolding Steps trace_text
traced_from keeping k m n from only b whole (Went now new) part is counts left later =
    let kept = cut_to new.set (kept_after keeping b.set now.pages new.set) in
    let mid = with_set new kept in
    let l = later mid new.set (left_part new.set (kept_after keeping b.set now.pages new.set)) (omega (arith, counts, left)) in
    let c = kept_course keeping m k mid in
    let went = same_step m b whole b.set ∙ is in
    record {
      sets = b.set ∷ l.sets;
      last = l.last;
      run = record {
        steps = (new, now, c.reports, part_allowed m b whole b.set part, went, l.run.steps, refl);
        ends = l.run.ends;
      };
      last_is = l.last_is;
      count_is = l.count_is;
      end_is = l.end_is;
      text_is = one_more m from only b new l.last whole kept now l.sets (lines_of_stop m from l.last (stopping m n l.last c.end l.run.ends))
          (end_line l.last.step c.end) (kept_trace keeping m from only k mid).text went l.text_is;
    }
traced_from keeping k m n from only b whole (Halts stop) part is counts left later = record {
  sets = [];
  last = with_set b whole;
  run = record {
    steps = (refl, refl);
    ends =
        (omega (arith, left), record { set = b.set; allowed = part_allowed m b whole b.set part; halts = same_step m b whole b.set ∙ is });
  };
  last_is = refl;
  count_is = refl;
  end_is = refl;
  text_is = refl;
}

traced : (keeping : Keeps) (k : ℕ) (m : Setting) (n from : ℕ) (only : Only) (b : State) (whole : Set) → IsPartOf b.set whole
    → b.step + k ≡ n
    → IsTraceOf m n from only (with_set b whole) (kept_course keeping m k b) (kept_trace keeping m from only k b)
unfolding Steps kept_course kept_trace trace_text
traced keeping zero m n from only b whole part left = record {
  sets = [];
  last = with_set b whole;
  run = record { steps = (refl, refl); ends = omega (arith, left) };
  last_is = refl;
  count_is = refl;
  end_is = refl;
  text_is = refl;
}
traced keeping (suc k) m n from only b whole part left =
    traced_from keeping k m n from only b whole (step_of m b b.set) part refl (each_counts m b b.set) left
    (λ mid set p h. traced keeping k m n from only mid set p h)

pub each_trace_is_of_its_run : EachTraceIsOfItsRun
each_trace_is_of_its_run keeping m n from only old le =
    traced keeping (n - old.step) m n from only old old.set (part_same old.set) (omega (arith, le))

pub each_trace_is_of_the_bare_run : EachTraceIsOfTheBareRun
each_trace_is_of_the_bare_run image script frames n from only =
    let m = bare image script frames in
    traced in_buffer n m n from only (boot m) (boot m).set (part_same (boot m).set) (omega arith)
