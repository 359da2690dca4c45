-- How many pages were filled in a slice of a patched run.
use Rattle.std.proofs.Common.{ℕ, ◌*◌, ◌≤◌, [], ◌∷◌, ◌++◌, Ok, arith}
use Rattle.std.specs.FinMap.{len}
use Rattle.std.proofs.lemmas.List.Elements.{All-weaker}
use Rattle.run_trace.specs.declared.pause.Pause.{Pause}
use Rattle.run_trace.specs.declared.pause.Pause.TheVariants.{Reached, Stopped}
use Rattle.machine_model.specs.State.{Setting, State, Loosened}
use Rattle.machine_model.specs.Run.{Set}
use Rattle.wedge_step.specs.Filled.{CountsFills}
use Rattle.wedge_core.specs.Promises.{HasFills}
use Rattle.wedge_core.specs.Slices.{Filling, Knowing, Noting, Outward, PausesAs, SliceAs}
use Rattle.wedge_core.proofs.WholeRuns.{count_by}

-- a run that paused may go on with what it left
allowed_by : (m : Setting) (n : ℕ) (last new : State) (end : Set) (pause : Pause) → PausesAs m n last new end (Ok pause)
    → Loosened m last end
allowed_by m n last new end Reached h = h.2
allowed_by m n last new end (Stopped stop) h = h.2

module _ {m : Setting} {n : ℕ} {old new : State} {out : Outward} {filling : Filling} {noting : Noting} {knows : Knowing} where
  -- where no more were kept before than were filled
  pub filled_in : (pause : Pause) → filling.pages ≤ filling.fills → filling.filled ≤ 128 * new.step
      → (h : SliceAs m n old new out filling noting knows (Ok pause)) → HasFills m h.sets h.last filling.filled
  filled_in pause were few h = record {
    end = h.end;
    allowed = allowed_by m n h.last new h.end pause h.ends;
    enough = All-weaker (λ (set : Set). CountsFills filling.pages (len set) filling.fills filling.filled)
        (λ (set : Set). len set ≤ filling.filled)
        (λ set f. let e = f.enough in omega (arith, e, were)) (h.sets ++ h.end ∷ []) h.each_filled;
    few = (let same = count_by m n h.last new h.end pause h.ends in omega (arith, few, same));
  }
