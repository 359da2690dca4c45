-- How many pages were filled, beside how many are kept.
use Rattle.std.specs.Prelude.{ℕ, ◌+◌, ◌≤◌, List, [], ◌∷◌}
use Rattle.std.specs.FinMap.{len}
use Rattle.shadow_tables.specs.OtherRoot.{OtherRoot}
use Rattle.shadow_tables.specs.Entries.{entries_of}
use Rattle.shadow_tables.specs.declared.shadows.Shadows as shadows

-- how many pages are kept for values of CR3 that aren't present
abbrev pub pages_of_others : List OtherRoot → ℕ
pages_of_others [] = 0
pages_of_others (a ∷ other_roots) = len (entries_of a.slots) + pages_of_others other_roots

module _ {S : Type 0} (g : shadows.Ghosts S) where
  -- and for all values, the present one among them
  abbrev pub pages_kept : S → List ℕ → ℕ
  pages_kept s memory = len (entries_of (g.slots s memory)) + pages_of_others (g.other_roots s memory)

-- The count of filled pages doesn't fall, and the pages that are kept grow by no more than it rises.
pub record CountsFills (old new before after : ℕ) : Type 0 where
  pub rises : before ≤ after
  pub enough : new + before ≤ old + after

-- no more pages are kept than were filled
abbrev pub WereFilled : ℕ → ℕ → Type 0
WereFilled pages fills = pages ≤ fills
