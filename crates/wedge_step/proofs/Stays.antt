-- What is kept over memory that differs in front of the pool.
use Rattle.std.proofs.Common.{◌≡◌, ℕ, List, ap, arith}
use Rattle.std.specs.FinMap.{len}
use Rattle.machine_model.specs.Run.{Set}
use Rattle.shadow_tables.specs.OtherRoot.{AreSame}
use Rattle.shadow_tables.specs.Entries.{entries_of}
use Rattle.shadow_tables.specs.declared.shadows.Shadows as shadows
use Rattle.wedge_step.specs.Filled.{pages_kept}
use Rattle.wedge_step.proofs.Shedding.{same_shed, shed_pages}

module _ {S : Type 0} (shows : shadows.Ghosts S) where
  pub kept_same : (s : S) (memory then : List ℕ) → entries_of (shows.slots s then) ≡ entries_of (shows.slots s memory)
      → AreSame (shows.other_roots s memory) (shows.other_roots s then) → pages_kept shows s then ≡ pages_kept shows s memory
  kept_same s memory then e same =
      let a = ap (λ (set : Set). len set) e in
      let b = shed_pages (shows.other_roots s memory) (shows.other_roots s then)
      (same_shed (shows.other_roots s memory) (shows.other_roots s then) same) in
      omega (arith, a, b)
