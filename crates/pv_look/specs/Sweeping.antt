-- The sweep of a text up to an offset, and from it on.
use Rattle.std.specs.Prelude.{◌≡◌, ℕ, ◌+◌, List, [], ◌∷◌, ◌++◌, length, drop}
use Rattle.image_check.specs.Sweep.{Swept}
use Rattle.image_check.specs.SweptTexts.{SweepsTo}
use Rattle.image_check.specs.Standing.{swept_of}
use Rattle.pv_look.specs.declared.here.Here.{Here}
use Rattle.pv_look.specs.Here.{swept}

-- The sweep comes to the offset after these instructions, and the others are those from there to the end of the text.
pub record Reached (text : List ℕ) (at : ℕ) (done rest : List Swept) : Type 0 where
  pub whole : done ++ rest ≡ swept_of text
  pub on : SweepsTo at (drop at text) rest (length text) []

abbrev pub IsReached : List ℕ → ℕ → Type 0
IsReached text at = (done : List Swept) × (rest : List Swept) × Reached text at done rest

-- Of the others this one is the first, and after it the sweep goes on.
pub record GoesOn (text : List ℕ) (h : Here) (done rest : List Swept) : Type 0 where
  pub more : List Swept
  pub whole : rest ≡ swept h ∷ more
  pub on : Reached text (h.at + h.len) (done ++ swept h ∷ []) more
