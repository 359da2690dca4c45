-- From every state a run can go on to its end.
use Rattle.std.proofs.Common.{◌≡◌, ℕ, zero, suc, ◌+◌, ◌-◌, [], ◌∷◌, refl, sym, ◌∙◌, arith}
use Rattle.std.specs.FinMap.{empty, get-empty}
use Rattle.std.specs.Ordering.{nat_cmp}
use Rattle.std.proofs.lemmas.Option.{none-some}
use Rattle.run_trace.specs.declared.items.End.TheVariants.{Bound, Stopped}
use Rattle.machine_model.specs.State.{Setting, State, Loosened}
use Rattle.machine_model.specs.Step.{Report, Result, Went, Halts, step_of}
use Rattle.machine_model.specs.Run.{Steps}
use Rattle.machine_model.specs.Ends.{StepsTo, HasEnd, EachRunHasAnEnd}
use Rattle.machine_model.proofs.Counting.{each_counts}
use Rattle.machine_model.proofs.Runs.{no_steps}

-- nothing is kept
empty_allowed : (s : Setting) (b : State) → Loosened s b empty
empty_allowed s b = record { each = λ page e is. absurd (none-some e (sym (get-empty nat_cmp page) ∙ is)) }

one_before : (s : Setting) (n : ℕ) (b mid : State) (now : Report) → step_of s b empty ≡ Went now mid → HasEnd s n mid → HasEnd s n b
unfolding Steps
one_before s n b mid now is later = record {
  sets = empty ∷ later.sets;
  reports = now ∷ later.reports;
  last = later.last;
  end = later.end;
  run = record { steps = (mid, now, later.reports, empty_allowed s b, is, later.run.steps, refl); ends = later.run.ends };
}

bound_reached : (s : Setting) (n : ℕ) (b : State) → b.step ≡ n → HasEnd s n b
bound_reached s n b is = record { sets = []; reports = []; last = b; end = Bound; run = record { steps = no_steps s b; ends = is } }

from_step : (k : ℕ) (s : Setting) (n : ℕ) (b : State) (r : Result) → step_of s b empty ≡ r → StepsTo (b.step + 1) r → b.step + suc k ≡ n
    → ((mid : State) → mid.step + k ≡ n → HasEnd s n mid) → HasEnd s n b
from_step k s n b (Went now mid) is counts left later = one_before s n b mid now is (later mid (omega (arith, counts, left)))
from_step k s n b (Halts stop) is counts left later = record {
  sets = [];
  reports = [];
  last = b;
  end = Stopped stop;
  run = record { steps = no_steps s b; ends = (omega (arith, left), record { set = empty; allowed = empty_allowed s b; halts = is }) };
}

ends_after : (k : ℕ) (s : Setting) (n : ℕ) (b : State) → b.step + k ≡ n → HasEnd s n b
ends_after zero s n b left = bound_reached s n b (omega (arith, left))
ends_after (suc k) s n b left =
    from_step k s n b (step_of s b empty) refl (each_counts s b empty) left (λ mid h. ends_after k s n mid h)

pub each_ends : EachRunHasAnEnd
each_ends s n b le = ends_after (n - b.step) s n b (omega (arith, le))
