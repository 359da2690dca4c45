-- Laws of runs, one after the other, and of the steps that they take.
use Rattle.std.specs.Prelude.{◌≡◌, ℕ, ◌+◌, List, [], ◌∷◌, ◌++◌, map}
use Rattle.sites.specs.declared.site.Site.{Site}
use Rattle.machine_model.specs.State.{Setting, State}
use Rattle.machine_model.specs.Step.{Report}
use Rattle.machine_model.specs.Run.{Set, Steps}
use Rattle.machine_model.specs.Counts.{direct_count, passed_digest}
use Rattle.machine_model.specs.Taken.{Taken, steps_by}
use Rattle.machine_model.specs.Keeping.{Roomy, IsKept, Kept}

-- some steps and then others are steps
abbrev pub StepsJoin : Type 0
StepsJoin =
    (m : Setting) (old mid new : State) (sets more : List Set) (reports later : List Report)
    → Steps m old sets reports mid → Steps m mid more later new → Steps m old (sets ++ more) (reports ++ later) new

-- and the steps that are taken by the sets of both are those of the first and then those of the others
abbrev pub TakenJoin : Type 0
TakenJoin =
    (m : Setting) (old mid : State) (sets more : List Set) (reports : List Report)
    → Steps m old sets reports mid → steps_by m old (sets ++ more) ≡ steps_by m old sets ++ steps_by m mid more

-- what is counted of them is a sum, and the digest of the first goes on with the others
abbrev pub CountsJoin : Type 0
CountsJoin = (sites : List Site) (reports later : List Report) → direct_count sites (reports ++ later) ≡ direct_count sites reports
    + direct_count sites later

abbrev pub DigestsJoin : Type 0
DigestsJoin =
    (sites : List Site) (p : ℕ) (reports later : List Report)
    → passed_digest sites p (reports ++ later) ≡ passed_digest sites (passed_digest sites p reports) later

-- the steps that a run takes have its sets and its reports
pub record AreOf (taken : List Taken) (sets : List Set) (reports : List Report) : Type 0 where
  pub sets_are : map (λ (t : Taken). t.set) taken ≡ sets
  pub reports_are : map (λ (t : Taken). t.report) taken ≡ reports

abbrev pub StepsAreTaken : Type 0
StepsAreTaken =
    (m : Setting) (old new : State) (sets : List Set) (reports : List Report) → Steps m old sets reports new
    → AreOf (steps_by m old sets) sets reports

-- with one step more, which goes or stops, and of which the rule holds, the rule holds of all
abbrev pub KeptOn : Type 0
KeptOn =
    (m : Setting) (old mid : State) (sets : List Set) (set : Set) (reports : List Report) → Steps m old sets reports mid → Kept m old sets
    → (Roomy (steps_by m old sets) → IsKept m (steps_by m old sets) mid set)
    → Kept m old (sets ++ set ∷ [])

-- of the first of some steps the rule holds, where it holds of all
abbrev pub KeptBefore : Type 0
KeptBefore = (m : Setting) (old : State) (sets more : List Set) → Kept m old (sets ++ more) → Kept m old sets
