-- The lines with a kernel's number are the text of its run alone.
use Rattle.std.proofs.Common.{◌≡◌, ℕ, suc, ◌+◌, List, [], ◌∷◌, ◌++◌, refl, ap, ◌∙◌, arith}
use Rattle.run_trace.specs.declared.items.Ended.{Ended}
use Rattle.guest_sched.specs.Pieces.{Piece, own_text, shared_text, lines_of_kernel}
use Rattle.guest_sched.specs.Shared.{EachRan, LinesAreAlone}
use Rattle.guest_sched.specs.declared.kernel.Kernel.{Kernel}
use Rattle.guest_sched.specs.declared.schedule.Slice.{Slice}
use Rattle.guest_sched.proofs.TaggedLines.{last_line, lines_are}

from : (number frames : ℕ) (slices : List Slice) (pieces : List Piece) (text : List ℕ) (all : List Ended) → text ≡ shared_text pieces all
    → (kernels : List Kernel) (more : List Ended)
    → ((k : ℕ) → last_line (number + k) all ≡ last_line k more) → EachRan number frames slices pieces kernels more
    → LinesAreAlone number text pieces more
unfolding last_line
from number frames slices pieces text all is kernels [] same ran = tt
from number frames slices pieces text all is [] (e ∷ more) same ran = absurd ran
from number frames slices pieces text all is (kernel ∷ kernels) (e ∷ more) same ran =
    let here : number ≡ number + 0 = omega arith in (
      ap (lines_of_kernel number) is ∙ lines_are number pieces all
          ∙ ap (λ (z : List ℕ). own_text number pieces ++ z) (ap (λ (k : ℕ). last_line k all) here ∙ same 0)
          ∙ ran.0.text_is,
      from (suc number) frames slices pieces text all is kernels more
          (λ k. ap (λ (j : ℕ). last_line j all) (let e : suc number + k ≡ number + suc k = omega arith in e) ∙ same (suc k)) ran.1,
    )

pub lines_alone : (frames : ℕ) (slices : List Slice) (pieces : List Piece) (kernels : List Kernel) (ended : List Ended)
    → EachRan 0 frames slices pieces kernels ended → LinesAreAlone 0 (shared_text pieces ended) pieces ended
lines_alone frames slices pieces kernels ended ran =
    from 0 frames slices pieces (shared_text pieces ended) ended refl kernels ended
    (λ k. ap (λ (j : ℕ). last_line j ended) (let e : 0 + k ≡ k = omega arith in e)) ran
