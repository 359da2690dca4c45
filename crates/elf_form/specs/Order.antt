-- The first of the parts that pass the end, the lowest of several places, and the order in which causes count.
use Rattle.std.specs.Prelude.{◌≡◌, ◌⊎◌, ℕ, ◌+◌, ◌≤◌, ◌<◌, List, [], ◌∷◌, length, slice_get, Option, Some, None}
use Rattle.std.specs.List.{Contains}
use Rattle.elf_form.specs.declared.cause.ElfCause.{ElfCause}
use Rattle.elf_form.specs.declared.cause.ElfCause.TheVariants.{Truncated}
use Rattle.elf_form.specs.Header.{named_parts}

-- A part that begins here passes the end of a file of so many bytes.
abbrev pub IsPast : ℕ → List (ℕ × ℕ) → ℕ → Type 0
IsPast size parts at = (part : ℕ × ℕ) × Contains parts part × (size < part.0 + part.1) × (at ≡ part.0)

-- It is the first that does.
pub record IsFirstPast (size : ℕ) (parts : List (ℕ × ℕ)) (at : ℕ) : Type 0 where
  pub index : ℕ
  pub part : ℕ × ℕ
  pub there : slice_get parts index ≡ Some part
  pub begins : part.0 ≡ at
  pub past : size < part.0 + part.1
  pub before : (j : ℕ) (p : ℕ × ℕ) → j < index → slice_get parts j ≡ Some p → p.0 + p.1 ≤ size

-- the lowest place of those that have this
abbrev pub IsLowest : (ℕ → Type 0) → ℕ → Type 0
IsLowest P at = P at × ((k : ℕ) → P k → at ≤ k)

-- The place that a cause has, where these are the places at which a file is bad by each: the lowest, and of parts that pass the
-- end the first.
abbrev pub HasPlace : (ElfCause → ℕ → Type 0) → List ℕ → ElfCause → ℕ → Type 0
HasPlace bad bytes Truncated at = IsFirstPast (length bytes) (named_parts bytes) at
HasPlace bad bytes cause at = IsLowest (bad cause) at

-- A file is bad by a cause, which has this place, and at no place by a cause before it.
pub record IsRefused (bad : ElfCause → ℕ → Type 0) (causes : List ElfCause) (bytes : List ℕ) (at : ℕ) (cause : ElfCause) : Type 0 where
  pub index : ℕ
  pub there : slice_get causes index ≡ Some cause
  pub place : HasPlace bad bytes cause at
  pub before : (j : ℕ) (c : ElfCause) (k : ℕ) → j < index → slice_get causes j ≡ Some c → bad c k → ⊥

-- The same by the place of each cause: a file is wrong at a place by the first cause of a list by which it is wrong at all.
abbrev pub IsFirstOf : {C : Type 0} → (C → Option ℕ) → List C → ℕ → C → Type 0
IsFirstOf wrong [] at cause = ⊥
IsFirstOf wrong (c ∷ later) at cause = ((wrong c ≡ Some at) × (cause ≡ c)) ⊎ ((wrong c ≡ None) × IsFirstOf wrong later at cause)
