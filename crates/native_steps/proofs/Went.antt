-- A page that is used is counted.
use Rattle.std.proofs.Common.{◌≡◌, ℕ, ◌+◌, [], ◌∷◌, ◌++◌, Bool, true, false, cond, Option, Some, None, refl}
use Rattle.std.specs.FinMap.{get}
use Rattle.ia32_types.specs.declared.stop.Stop.TheVariants as stops
use Rattle.paging.specs.declared.entry.Access.{Access}
use Rattle.paging.specs.declared.entry.Entry.{Entry}
use Rattle.paging.specs.declared.entry.Touch.{Touch}
use Rattle.paging.specs.declared.entry.Touch.TheVariants.{Ready, Stop}
use Rattle.paging.specs.Space.{Space}
use Rattle.paging.specs.Uses.{is_barred, usable, by_entry, page_uses}

by_entry_went : (s : Space) (fetch : Bool) (page at : ℕ) (access : Access) (o : Option Entry)
    → (by_entry s fetch page at access o).1.visited ≡ s.visited
by_entry_went s fetch page at access None = refl
by_entry_went s fetch page at access (Some e) = either (is_barred s.mode fetch access.user page e.frame)
  where
    either : (text : Bool) → (cond {A = Touch × Space} text (Stop stops.TextMapped, s) (Ready, s)).1.visited ≡ s.visited
    either true = refl
    either false = refl

pub page_went : (s : Space) (fetch : Bool) (page at : ℕ) (access : Access)
    → (page_uses s fetch page at access).1.visited ≡ s.visited ++ page ∷ []
unfolding page_uses
page_went s fetch page at access = by_entry_went (record s { pages = s.pages + 1; visited = s.visited ++ page ∷ [] }) fetch page at access
    (usable (get s.set page) access s.wp)
