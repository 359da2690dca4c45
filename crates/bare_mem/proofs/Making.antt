-- Changes made one after another.
use Rattle.std.proofs.Common.{◌≡◌, List, [], ◌∷◌, ◌++◌, refl}
use Rattle.std.specs.FinMap.{remove}
use Rattle.step_mem.specs.declared.changes.Change.{Change}
use Rattle.step_mem.specs.declared.changes.Change.TheVariants.{Gone, Now}
use Rattle.bare_mem.specs.Keeping.{Set, Keeps, made_in}

-- one change more
pub made_push : (keeping : Keeps) (set : Set) (cs : List Change) (c : Change) → made_in keeping set (cs ++ c ∷ []) ≡ made_in keeping
    (made_in keeping set cs) (c ∷ [])
made_push keeping set [] c = refl
made_push keeping set (Gone page ∷ cs) c = made_push keeping (remove set page) cs c
made_push keeping set (Now entry ∷ cs) c = made_push keeping (keeping set entry) cs c
