-- What `Roots` keep over a memory, in the words of the traits that they meet.
use Rattle.std.specs.Prelude.{ℕ, List, Bool, Option, Some}
use Rattle.shadow_tables.specs.OtherRoot.{OtherRoot}
use Rattle.shadow_tables.specs.Slots.{Slot, slot_at}
use Rattle.shadow_cache.specs.OtherRoots.{other_roots_of}
use Rattle.shadow_cache.specs.Opening.{AllOpenedOnly}
use Rattle.shadow_cache.specs.Pairs.{reads, frames_of}
use Rattle.shadow_cache.specs.Roots.{pairs_of, IsStanding}
use Rattle.shadow_cache.specs.declared.roots.Roots.{Roots}

abbrev pub stands : Roots → List ℕ → Type 0
stands r m = IsStanding r m

abbrev pub frames : Roots → List ℕ → List ℕ
frames r m = frames_of (pairs_of r) m

abbrev pub slots : Roots → List ℕ → ℕ → Option Slot
slots r m page = slot_at r.present.shadow m page

abbrev pub read_from : Roots → ℕ → Bool
read_from r frame = reads r.present frame

abbrev pub stale : Roots → Bool
stale r = r.present.stale

abbrev pub cr3 : Roots → Option ℕ
cr3 r = Some r.present.cr3

abbrev pub has_tables_under : Roots → List ℕ → (ℕ → Bool) → Type 0
has_tables_under r m indices = AllOpenedOnly indices (pairs_of r) m

abbrev pub other_roots : Roots → List ℕ → List OtherRoot
other_roots r m = other_roots_of r.others m
