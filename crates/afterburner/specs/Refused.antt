-- The first item that is refused.
use Rattle.std.specs.Prelude.{◌≡◌, ℕ, List, ◌∷◌, ◌++◌, fold, Result, Ok, Err}
use Rattle.asm_source.specs.declared.tree.SourceItem.{SourceItem}
use Rattle.asm_source.specs.Names.{names_in}
use Rattle.afterburner.specs.declared.fault.BurnCause.{BurnCause}
use Rattle.afterburner.specs.declared.fault.BurnFault.{BurnFault}
use Rattle.afterburner.specs.declared.fault.BurnFault.TheVariants as faults
use Rattle.afterburner.specs.ObjectSoFar.{ObjectSoFar, fresh}
use Rattle.afterburner.specs.Burnt.{next_made}
use Rattle.afterburner.specs.Reasons.{IsLowestReason}

-- The items before it are made without a refusal, and after them the condition of this cause holds of the item of this line,
-- and that of no lower one.
pub record IsFirstRefused (names : List (List ℕ)) (start : ObjectSoFar) (items : List SourceItem) (line : ℕ)
    (cause : BurnCause) : Type 0 where
  pub before : List SourceItem
  pub item : SourceItem
  pub after : List SourceItem
  pub so_far : ObjectSoFar
  pub place : items ≡ before ++ item ∷ after
  pub earlier : fold (next_made names) (Ok start) before ≡ Ok so_far
  pub reason : IsLowestReason names so_far item.body cause
  pub on_line : item.line ≡ line

abbrev pub Refuses : {A : Type 0} → List SourceItem → Result A BurnFault → Type 0
Refuses items (Ok x) = Unit {0}
Refuses items (Err faults.Memory) = Unit {0}
Refuses items (Err (faults.At line c)) = IsFirstRefused (names_in items) (fresh (names_in items)) items line c

-- the refusal at this line for this cause, unless memory ran out
abbrev pub RefusesAs : {A : Type 0} → ℕ → BurnCause → Result A BurnFault → Type 0
RefusesAs line c (Ok x) = ⊥
RefusesAs line c (Err faults.Memory) = Unit {0}
RefusesAs line c (Err (faults.At l d)) = (l ≡ line) × (d ≡ c)
