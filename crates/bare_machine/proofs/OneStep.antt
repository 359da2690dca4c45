-- One step by itself.
use Rattle.std.proofs.Common.{◌≡◌, Bool, List, [], ◌∷◌, length, refl, sym, ap, subst, ◌∙◌}
use Rattle.run_trace.specs.declared.items.What.{What}
use Rattle.machine_model.specs.State.{Setting, State}
use Rattle.machine_model.specs.Step.{Report, Went, step_of}
use Rattle.machine_model.specs.Fit.{Fit}
use Rattle.machine_model.specs.StaysFit.{RunsKeepFit}
use Rattle.machine_model.specs.Run.{Set, with_set}
use Rattle.bare_mem.specs.Keeping.{Keeps, kept_after}
use Rattle.bare_machine.specs.Buffered.{LedTo, cut_to, kept_by, kept_step}
use Rattle.bare_machine.specs.KeptLaws.{KeptSets}
use Rattle.bare_machine.specs.Machine.{translations_of, Goes, Passes}
use Rattle.bare_machine.proofs.Runs.{part_allowed, part_same, steps_one, by_none, by_on}

-- it is a run of one step
pub passes_once : (s : Setting) (exact : Bool) (old new : State) (whats : List What)
    → (r : Goes (step_of s old old.set) old.step whats exact new) → Passes s exact old (r.report ∷ []) new
passes_once s exact old new whats r = record {
  sets = old.set ∷ [];
  whole = r.whole;
  steps = steps_one s old (with_set new r.whole) old.set r.report (part_allowed s old old.set old.set (part_same old.set)) r.went;
  part = r.part;
  first = refl;
  exactly = λ e. by_on s translations_of old old new [] r.report (by_none s translations_of old)
      (r.went ∙ ap (λ (set : Set). Went r.report (with_set new set)) (sym (r.all e)));
}

-- what the cache keeps of it is of the same report
kept_as : (keeping : Keeps) (s : Setting) (old new left : State) (now led : Report) → step_of s old old.set ≡ Went now left
    → kept_step keeping s old ≡ Went led new → kept_step keeping s old ≡ Went now new
kept_as keeping s old new left now led went is =
    let both : kept_by keeping old.set (Went now left) ≡ Went led new = sym (ap (kept_by keeping old.set) went) ∙ is in
    let same : led ≡ now = cc in
    subst (λ (r : Report). kept_step keeping s old ≡ Went r new) same is

pub kept_with : (keeping : Keeps) (s : Setting) (exact : Bool) (old new : State) (whats : List What)
    → (r : Goes (step_of s old old.set) old.step whats exact new) → LedTo (kept_step keeping s old) old.step whats new
    → kept_step keeping s old ≡ Went r.report new
kept_with keeping s exact old new whats r led = kept_as keeping s old new (with_set new r.whole) r.report led.report r.went led.went

-- the translations that it keeps
pub kept_sets : KeptSets
kept_sets keeping s exact old new done w =
    let left = with_set new (cut_to w.whole (kept_after keeping old.set w.report.pages w.whole)) in
    let both : Went w.report left ≡ Went w.report new = sym (ap (kept_by keeping old.set) w.went) ∙ w.kept in
    let same : left ≡ new = cc in
    sym (ap (λ (b : State). b.set) same)

-- it leaves the processor fit
pub fit_once : RunsKeepFit → (s : Setting) (exact : Bool) (old new : State) (whats : List What)
    → (r : Goes (step_of s old old.set) old.step whats exact new) → Fit old.cpu → length old.cpu.seg ≡ 4 → Fit new.cpu
fit_once law s exact old new whats r fit four =
    (law s old (with_set new r.whole) (old.set ∷ []) (r.report ∷ [])
    (steps_one s old (with_set new r.whole) old.set r.report (part_allowed s old old.set old.set (part_same old.set)) r.went) fit four).0
