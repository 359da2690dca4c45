-- What the sweep of a text stands for: spellings that are joined to the text, or up to a place where none begins.
use Rattle.std.specs.Prelude.{◌≡◌, ◌≢◌, ℕ, ◌+◌, List, [], ◌∷◌, length, drop}
use Rattle.ia32_types.specs.declared.insn.Insn.{Insn}
use Rattle.ia32_decode.specs.Answer.{Begins}
use Rattle.image_check.specs.Sweep.{Swept}

-- The spellings of the instructions, joined in order, stand at the front of the bytes. They lead from one offset to
-- another, and some bytes are left.
abbrev pub SweepsTo : ℕ → List ℕ → List Swept → ℕ → List ℕ → Type 0
SweepsTo from bytes [] to rest = (from ≡ to) × (bytes ≡ rest)
SweepsTo from bytes (s ∷ swept) to rest =
    (s.at ≡ from) × Begins bytes s.insn s.len × SweepsTo (from + s.len) (drop s.len bytes) swept to rest

-- The spellings of the instructions, joined in order, are the text.
abbrev pub Sweep : List ℕ → List Swept → Type 0
Sweep text swept = SweepsTo 0 text swept (length text) []

-- After some instructions no spelling begins the bytes that are left, although some are.
pub record SweepStops (text : List ℕ) (at : ℕ) : Type 0 where
  pub swept : List Swept
  pub rest : List ℕ
  pub reached : SweepsTo 0 text swept at rest
  pub some : rest ≢ []
  pub none : (insn : Insn) (n : ℕ) → Begins rest insn n → ⊥
