-- What `Roots` keep, as one cr3.
use Rattle.shadow_cache.specs.Pairs.{tables_of}
use Rattle.shadow_cache.specs.Roots.{pairs_of}
use Rattle.shadow_cache.specs.Views as roots
use Rattle.shadow_cache.specs.declared.roots.Roots.{Roots}
use Rattle.shadow_tables.specs.Seen.{seen_of}
use Rattle.shadow_tables.specs.Slots.{root_of}
use Rattle.shadow_tables.specs.declared.shadows.Shadows as shadows

abbrev pub of_roots : shadows.Ghosts Roots
of_roots = record {
  stands = roots.stands;
  frames = roots.frames;
  write_protected = λ r. tables_of (pairs_of r);
  read_from = roots.read_from;
  stale = roots.stale;
  cr3 = roots.cr3;
  other_roots = roots.other_roots;
  has_tables_under = roots.has_tables_under;
  slots = roots.slots;
  sight = λ r m. seen_of (roots.slots r m) (roots.read_from r) (roots.stale r) (roots.cr3 r) (roots.other_roots r m);
  directory = λ r side. root_of r.present.shadow side;
}
