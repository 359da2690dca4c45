-- The words of a form as a form.
use Rattle.std.specs.Prelude.{ℕ, ◌≤◌, ◌<◌, ◌^◌, List, length, slice_index}
use Rattle.look_words.specs.Words as asked
use Rattle.look_words.specs.Words.{RunAsked, Look}
use Rattle.look_words.specs.declared.words.LookedRun.{LookedRun}
use Rattle.look_words.specs.declared.words.Aspect.{Aspect}
use Rattle.look_words.specs.declared.words.Aspect.TheVariants as aspect
use Rattle.look_words.specs.declared.words.Only.{Only}
use Rattle.look_words.specs.declared.words.Only.TheVariants as only
use Rattle.look_words.specs.declared.words.LookWords.{LookWords}
use Rattle.look_words.specs.declared.words.LookWords.TheVariants as words

abbrev pub run_view : LookedRun → RunAsked
run_view r = record { image = r.image.now; script = r.script.now; frames = r.frames }

abbrev pub aspect_view : Aspect → asked.Aspect
aspect_view aspect.Whole = asked.Whole
aspect_view (aspect.Walk address) = asked.Walk address
aspect_view (aspect.Memory address len) = asked.Memory address len

abbrev pub only_view : Only → asked.Only
only_view only.Each = asked.Each
only_view (only.At addresses) = asked.At addresses.items
only_view (only.On address len) = asked.On address len

abbrev pub look_view : LookWords → Look
look_view (words.List image) = asked.ListImage image.now
look_view (words.Steps run from to which) = asked.Steps (run_view run) from to (only_view which)
look_view (words.Before run steps of) = asked.Before (run_view run) steps.items (aspect_view of)
look_view (words.InFile state of) = asked.InFile state.now (aspect_view of)

-- ---- the limits

abbrev pub IsRun : LookedRun → Type 0
IsRun r = (2048 ≤ r.frames) × (r.frames ≤ 16384)

-- at least one
abbrev pub AreSteps : List ℕ → Type 0
AreSteps steps = (0 < length steps) × ((i : ℕ) → slice_index steps i ≤ 2 ^ 40)

abbrev pub IsAspect : Aspect → Type 0
IsAspect aspect.Whole = Unit {0}
IsAspect (aspect.Walk address) = Unit {0}
IsAspect (aspect.Memory address len) = len ≤ 2 ^ 24

abbrev pub IsWithin : LookWords → Type 0
IsWithin (words.List image) = Unit {0}
IsWithin (words.Steps run from to which) = IsRun run × (from ≤ 2 ^ 40) × (to ≤ 2 ^ 40)
IsWithin (words.Before run steps of) = IsRun run × AreSteps steps.items × IsAspect of
IsWithin (words.InFile state of) = IsAspect of
