-- What `run_shared` promises.
use Rattle.std.specs.Prelude.{◌≡◌, ◌⊎◌, ℕ, zero, suc, ◌≤◌, ◌<◌, List, [], ◌∷◌, ◌++◌}
use Rattle.sites.specs.declared.site.Site.{Site}
use Rattle.run_trace.specs.declared.items.Ended.{Ended}
use Rattle.run_trace.specs.declared.items.End.TheVariants.{Stopped}
use Rattle.ia32_types.specs.declared.stop.Stop.{Stop}
use Rattle.run_trace.specs.Text.{lines_of, text_of}
use Rattle.image_load.specs.Boot.{need}
use Rattle.image_load.specs.declared.boot.TooSmall.{TooSmall}
use Rattle.machine_model.specs.State.{Setting, State, boot, wedge}
use Rattle.machine_model.specs.Step.{Report}
use Rattle.machine_model.specs.Run.{Set, Run, Steps, StopHolds, trace_of}
use Rattle.wedge_core.specs.Promises.{HasFills}
use Rattle.guest_sched.specs.declared.kernel.Kernel.{Kernel}
use Rattle.guest_sched.specs.declared.schedule.Slice.{Slice}
use Rattle.guest_sched.specs.Bounds.{bound_of}
use Rattle.guest_sched.specs.Pieces.{Piece, reports_of, own_text, bound_line, lines_of_kernel}

-- a kernel's own run, as if it were alone
abbrev pub alone : Kernel → ℕ → Setting
alone kernel frames = wedge kernel.image kernel.script.list frames

-- One run of the kernel alone, up to the sum of its turns, has these reports; it ended so, and this is its text.
pub record RanAlone (m : Setting) (n : ℕ) (reports : List Report) (text : List ℕ) (ended : Ended) : Type 0 where
  pub sets : List Set
  pub last : State
  pub run : Run m n (boot m) sets reports last ended.end
  pub steps_are : ended.steps ≡ last.step
  pub fills : HasFills m sets last ended.fills
  pub text_is : text ≡ text_of (trace_of reports) ended.steps ended.end

-- so of each kernel, from this number on
abbrev pub EachRan : ℕ → ℕ → List Slice → List Piece → List Kernel → List Ended → Type 0
EachRan number frames slices pieces [] [] = Unit {0}
EachRan number frames slices pieces [] (ended ∷ more) = ⊥
EachRan number frames slices pieces (kernel ∷ kernels) [] = ⊥
EachRan number frames slices pieces (kernel ∷ kernels) (ended ∷ more) =
    RanAlone (alone kernel frames) (bound_of number slices) (reports_of number pieces)
    (own_text number pieces ++ bound_line ended.steps ended.end) ended × EachRan (suc number) frames slices pieces kernels more

-- the sites of a kernel's image
abbrev pub sites_in : List Kernel → ℕ → List Site
sites_in [] number = []
sites_in (kernel ∷ kernels) zero = kernel.image.sites
sites_in (kernel ∷ kernels) (suc number) = sites_in kernels number

-- What is read of the bytes: the lines with a kernel's number, without it, are the text of its run alone.
abbrev pub LinesAreAlone : ℕ → List ℕ → List Piece → List Ended → Type 0
LinesAreAlone number text pieces [] = Unit {0}
LinesAreAlone number text pieces (ended ∷ more) =
    (lines_of_kernel number text ≡ text_of (trace_of (reports_of number pieces)) ended.steps ended.end)
    × LinesAreAlone (suc number) text pieces more

-- a kernel's first steps, as if it were alone, and their lines: with the last one where it met a stop after them
abbrev pub IsBegun : Setting → List Report → State → List ℕ → Type 0
IsBegun m reports last text =
    (text ≡ lines_of (trace_of reports))
    ⊎ ((stop : Stop) × StopHolds m last stop × (text ≡ text_of (trace_of reports) last.step (Stopped stop)))

pub record BeganAlone (m : Setting) (reports : List Report) (text : List ℕ) : Type 0 where
  pub sets : List Set
  pub last : State
  pub steps : Steps m (boot m) sets reports last
  pub text_is : IsBegun m reports last text

abbrev pub EachBegan : ℕ → ℕ → List Piece → List Kernel → Type 0
EachBegan number frames pieces [] = Unit {0}
EachBegan number frames pieces (kernel ∷ kernels) =
    BeganAlone (alone kernel frames) (reports_of number pieces) (own_text number pieces) × EachBegan (suc number) frames pieces kernels

-- the first kernel whose image needs more frames than there are
abbrev pub FirstTooSmall : ℕ → List Kernel → TooSmall → Type 0
FirstTooSmall frames [] small = ⊥
FirstTooSmall frames (kernel ∷ kernels) small =
    ((frames < need kernel.image) × (small ≡ record { need = need kernel.image; have = frames }))
    ⊎ ((need kernel.image ≤ frames) × FirstTooSmall frames kernels small)

abbrev pub AllFit : ℕ → List Kernel → Type 0
AllFit frames [] = Unit {0}
AllFit frames (kernel ∷ kernels) = (need kernel.image ≤ frames) × AllFit frames kernels
