-- A step whose instruction the host did, from what was kept before its pages were filled.
use Rattle.std.proofs.Common.{◌≡◌, ℕ, List, Bool, false, refl, sym, ap}
use Rattle.machine_step.specs.declared.worked.Seen.TheVariants.{Nothing}
use Rattle.machine_model.specs.State.{Setting, State}
use Rattle.machine_model.specs.Step.{Report, Went, stepped}
use Rattle.wedge_step.specs.Parts.{left_of}
use Rattle.machine_model.specs.Run.{with_set}
use Rattle.wedge_core.specs.Slices.{Counts}
use Rattle.wedge_core.specs.Stepping.{Goes, Once}
use Rattle.wedge_step.specs.declared.running.Lost.{Lost}
use Rattle.wedge_step.proofs.Parts.{part_same, part_allowed}

-- what the step notes of its walks and writes may differ
pub once_goes : (m : Setting) (b filled new : State) (before after : Counts) (lost : Lost) → (lost.after ≡ false) × (lost.reloaded ≡ false)
    → Once m filled new before after
    → ((report : Report) (then : State) → stepped m filled ≡ Went report then → (tables : List ℕ) × (wrote : List ℕ)
    × (stepped m (with_set b (left_of lost.before b.set)) ≡ Went (record report { tables = tables; wrote = wrote }) then))
    → Goes m b lost Nothing new before after
once_goes m b filled new before after lost kept once same =
    let s = same once.report new once.went in
    record {
      report = record once.report { tables = s.0; wrote = s.1 };
      whole = new.set;
      went = s.2;
      kept = record {
        allowed = part_allowed m (with_set new new.set) new.set (part_same new.set new.set refl);
        exact = λ back. ap (λ (x : Bool). left_of x new.set) (sym kept.0);
      };
      items = once.silent;
      counts = record { retired = once.counts.retired; passed = once.counts.passed };
    }
