-- The form of a list of choices, and its layout in a file.
use Rattle.std.specs.Prelude.{◌≡◌, ℕ, ◌<◌, ◌≤◌, ◌^◌, List, [], ◌∷◌, ◌++◌, length}
use Rattle.std.specs.List.{flat_map}
use Rattle.std.specs.Int.{w32, w64, to_le_bytes}
use Rattle.trace_check.specs.declared.list.Choice.{Choice}
use Rattle.trace_check.specs.declared.list.ChoiceKind.{ChoiceKind}
use Rattle.trace_check.specs.declared.list.ChoiceKind.TheVariants.{Drop, Empty, Add}

-- a page's number is below 2^20, and where all pages are dropped it is 0
abbrev pub IsPageOf : ChoiceKind → ℕ → Type 0
IsPageOf Drop page = page < 2 ^ 20
IsPageOf Empty page = page ≡ 0
IsPageOf Add page = page < 2 ^ 20

-- steps don't fall, from this one on, and are numbers of 64 bits
abbrev pub AreFrom : ℕ → List Choice → Type 0
AreFrom least [] = Unit {0}
AreFrom least (c ∷ rest) = (least ≤ c.step) × (c.step < 2 ^ 64) × IsPageOf c.kind c.page × AreFrom c.step rest

-- how many choices a file has at most
abbrev pub most_choices : ℕ
most_choices = 1048576

pub record AreChoices (list : List Choice) : Type 0 where
  pub few : length list ≤ most_choices
  pub each : AreFrom 0 list

-- the number of a kind
abbrev pub kind_number : ChoiceKind → ℕ
kind_number Drop = 0
kind_number Empty = 1
kind_number Add = 2

-- sixteen bytes: step, page, kind, and three that are zero
abbrev pub choice_bytes : Choice → List ℕ
choice_bytes c = to_le_bytes w64 c.step ++ (to_le_bytes w32 c.page ++ (kind_number c.kind ∷ 0 ∷ 0 ∷ 0 ∷ []))

-- "PVT1", the count, the choices
unfoldable pub choices_bytes : List Choice → List ℕ
choices_bytes list = 80 ∷ 86 ∷ 84 ∷ 49 ∷ (to_le_bytes w32 (length list) ++ flat_map choice_bytes list)
