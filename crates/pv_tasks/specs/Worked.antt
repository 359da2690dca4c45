-- What the parts of `work` answer, and how it is reported.
use Rattle.std.specs.Prelude.{◌≡◌, ◌⊎◌, ℕ, ◌≤◌, ◌<◌, List}
use Rattle.image_check.specs.Image.{Image}
use Rattle.image_load.specs.Boot.{need}
use Rattle.run_trace.specs.declared.items.End.{End}
use Rattle.wedge_core.specs.Counts.{Counts}
use Rattle.wedge_core.specs.Promises.{Promise, HasOwnFills}
use Rattle.wedge_core.specs.Surroundings.{Around}
use Rattle.pv_build.specs.Lines.{too_small_line}
use Rattle.pv_build.specs.Telling.{Says}
use Rattle.pv_build.specs.declared.status.Status.{Status}
use Rattle.pv_build.specs.declared.status.Status.TheVariants as status
use Rattle.pv_tasks.specs.Outcome.{Outcome, HostDid}
use Rattle.pv_tasks.specs.Working.{Works, first_text, second_setting}

-- both texts, what was filled in the second run, and what the host has done of it
pub record HasTexts (image : Image) (first second : List ℕ) (fills : ℕ) (before after : Counts) (memory : List ℕ) : Type 0 where
  pub fits : need image ≤ 4096
  pub first_is : first ≡ first_text image
  pub count : ℕ
  pub end : End
  pub promise : Promise (second_setting image) 100000 512 second count end before after memory
  pub filled : HasOwnFills (second_setting image) 100000 512 promise.sets promise.last end promise.run.ends fills

-- the image needs more frames than there are, and the host has done nothing
abbrev pub IsTooLarge : Image → Counts → Counts → List ℕ → Type 0
IsTooLarge image before after line = (4096 < need image) × (line ≡ too_small_line (need image) 4096) × (after ≡ before)

-- The lines were put, or that of a refusal, and the host has done what is its part, unless no memory was found.
abbrev pub WorkedAs : ℕ → Around → List ℕ → Status → Type 0
WorkedAs number a memory result =
    ((w : Outcome) × Works number w × Says w.text w.status a.taken a.taken_after a.faults a.faults_after result
    × (result ≡ w.status → HostDid w.hosted a.counts a.counts_after memory))
    ⊎ ((result ≡ status.Memory) × (a.taken_after ≡ a.taken) × (a.faults_after ≡ a.faults))
