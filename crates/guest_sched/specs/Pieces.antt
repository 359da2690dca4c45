-- What several kernels did in turns: the steps of each turn, the text of all, and what of it is one kernel's.
use Rattle.std.specs.Prelude.{◌≡◌, ℕ, suc, ◌+◌, ◌<◌, Bool, true, false, ◌&&◌, ◌==◌, List, [], ◌∷◌, ◌++◌, length, drop, Option, Some, None, is_some, if◌then◌else◌}
use Rattle.std.specs.List.{flat_map, list_any}
use Rattle.ia32_types.specs.declared.stop.Stop.{Stop}
use Rattle.text_lines.specs.Cuts.{cut_at}
use Rattle.run_trace.specs.declared.items.End.{End}
use Rattle.run_trace.specs.declared.items.End.TheVariants.{Bound, Stopped}
use Rattle.run_trace.specs.declared.items.Ended.{Ended}
use Rattle.run_trace.specs.Text.{lines_of, end_line}
use Rattle.sites.specs.declared.site.Site.{Site}
use Rattle.machine_model.specs.Step.{Report}
use Rattle.machine_model.specs.Run.{trace_of}
use Rattle.machine_model.specs.Counts.{direct_count, passed_digest}
use Rattle.wedge_core.specs.Counts.{Counts}
use Rattle.guest_sched.specs.Tags.{tag_of, tagged}
use Rattle.guest_sched.specs.declared.schedule.Slice.{Slice}

-- A kernel's turn: what its steps reported, how many steps the kernel has made after it, and the stop that it met there.
-- In the turns after a stop the kernel does nothing.
pub record Piece : Type 0 where
  pub kernel : ℕ
  pub reports : List Report
  pub steps : ℕ
  pub stop : Option Stop

-- Which turns these are.

-- a kernel has met a stop in one of these turns
abbrev pub has_stopped : ℕ → List Piece → Bool
has_stopped kernel pieces = list_any (λ (p : Piece). (p.kernel == kernel) && is_some p.stop) pieces

-- A turn of so many steps makes them all, or fewer where it ends at a stop. The turn of a kernel that has met a stop before
-- makes none.
abbrev pub MakesSteps : Bool → ℕ → List Report → Option Stop → Type 0
MakesSteps true steps reports stop = (reports ≡ []) × (stop ≡ None)
MakesSteps false steps reports None = length reports ≡ steps
MakesSteps false steps reports (Some stop) = length reports < steps

-- the turn of a slice, after these turns
pub record IsTurn (before : List Piece) (slice : Slice) (p : Piece) : Type 0 where
  pub kernel_is : p.kernel ≡ slice.kernel
  pub steps : MakesSteps (has_stopped slice.kernel before) slice.steps p.reports p.stop

-- the turns of slices, one for each, in their order
abbrev pub AreTurns : List Piece → List Slice → List Piece → Type 0
AreTurns before [] [] = Unit {0}
AreTurns before [] (p ∷ pieces) = ⊥
AreTurns before (slice ∷ slices) [] = ⊥
AreTurns before (slice ∷ slices) (p ∷ pieces) = IsTurn before slice p × AreTurns (before ++ p ∷ []) slices pieces

-- Their text.

-- the last line of a kernel, where it stops
abbrev pub stop_line : ℕ → Option Stop → List ℕ
stop_line steps None = []
stop_line steps (Some stop) = end_line steps (Stopped stop)

-- the text of a turn, with its kernel's number before each line
abbrev pub piece_text : Piece → List ℕ
piece_text p = tagged (tag_of p.kernel) (lines_of (trace_of p.reports)) ++ tagged (tag_of p.kernel) (stop_line p.steps p.stop)

-- the last lines of those that met no stop, in the order of the kernels
abbrev pub bound_line : ℕ → End → List ℕ
bound_line steps Bound = end_line steps Bound
bound_line steps (Stopped stop) = []

abbrev pub bound_texts : ℕ → List Ended → List ℕ
bound_texts kernel [] = []
bound_texts kernel (ended ∷ more) = tagged (tag_of kernel) (bound_line ended.steps ended.end) ++ bound_texts (suc kernel) more

-- the text of all turns, and then those lines
abbrev pub shared_text : List Piece → List Ended → List ℕ
shared_text pieces ended = flat_map piece_text pieces ++ bound_texts 0 ended

-- what the steps of a kernel reported in all of its turns
abbrev pub reports_of : ℕ → List Piece → List Report
reports_of kernel [] = []
reports_of kernel (p ∷ pieces) = if p.kernel == kernel then p.reports ++ reports_of kernel pieces else reports_of kernel pieces

-- its own text in all of its turns, without its number
abbrev pub own_text : ℕ → List Piece → List ℕ
own_text kernel [] = []
own_text kernel (p ∷ pieces) =
    if p.kernel == kernel then (lines_of (trace_of p.reports) ++ stop_line p.steps p.stop) ++ own_text kernel pieces
    else own_text kernel pieces

-- the count of direct instructions and their digest, turn by turn, over the sites of each kernel's image
abbrev pub counts_over : (ℕ → List Site) → Counts → List Piece → Counts
counts_over sites c [] = c
counts_over sites c (p ∷ pieces) =
    counts_over sites (record {
      retired = c.retired + direct_count (sites p.kernel) p.reports;
      passed = passed_digest (sites p.kernel) c.passed p.reports;
    }) pieces

-- What is read of the bytes: the lines of a text that begin with a kernel's tag, each without it. The part after the last
-- line's end is empty.
abbrev pub begins_with : List ℕ → List ℕ → Bool
begins_with [] line = true
begins_with (t ∷ tag) [] = false
begins_with (t ∷ tag) (b ∷ line) = (t == b) && begins_with tag line

abbrev pub without_tag : List ℕ → List ℕ → List ℕ
without_tag tag line = if begins_with tag line then drop (length tag) line ++ 10 ∷ [] else []

abbrev pub lines_of_kernel : ℕ → List ℕ → List ℕ
lines_of_kernel kernel bytes = flat_map (without_tag (tag_of kernel)) (cut_at 10 bytes)
