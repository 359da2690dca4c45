-- What shadows show over a memory, as one value, and what stays of it beside the present translations.
use Rattle.std.specs.Prelude.{◌≡◌, ℕ, Bool, true, Option, List, []}
use Rattle.shadow_tables.specs.OtherRoot.{OtherRoot, AreSame}
use Rattle.shadow_tables.specs.Slots.{Slot}
use Rattle.shadow_tables.specs.declared.shadows.Shadows as shadows

-- What is kept of each page under the present value of CR3, the frames from which the tables under it were read, whether
-- one of these was written, that value where it is known, and what is kept for other values, the last used first.
pub record Sight : Type 0 where
  pub slots : ℕ → Option Slot
  pub read_from : ℕ → Bool
  pub stale : Bool
  pub cr3 : Option ℕ
  pub other_roots : List OtherRoot

abbrev pub sight : {S : Type 0} → shadows.Ghosts S → S → List ℕ → Sight
sight g s memory = record {
  slots = g.slots s memory;
  read_from = g.read_from s;
  stale = g.stale s;
  cr3 = g.cr3 s;
  other_roots = g.other_roots s memory;
}

-- no more is noted of the present tables, they are marked only where they were, and the same is kept for other values
pub record StaysBeside (v v' : Sight) : Type 0 where
  pub notes : (frame : ℕ) → v'.read_from frame ≡ true → v.read_from frame ≡ true
  pub marks : v'.stale ≡ true → v.stale ≡ true
  pub others : AreSame v.other_roots v'.other_roots

-- the same, but that nothing is kept for other values
pub record EmptiesBeside (v v' : Sight) : Type 0 where
  pub notes : (frame : ℕ) → v'.read_from frame ≡ true → v.read_from frame ≡ true
  pub marks : v'.stale ≡ true → v.stale ≡ true
  pub others : v'.other_roots ≡ []
