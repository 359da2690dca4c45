-- What a load of CR3 makes of a sight.
use Rattle.std.specs.Prelude.{ℕ, false, Some, List}
use Rattle.shadow_tables.specs.OtherRoot.{OtherRoot}
use Rattle.shadow_tables.specs.Seen.{Seen}
use Rattle.shadow_cache.specs.Reloaded.{put_by, coming, staying}

abbrev pub loaded : ℕ → List OtherRoot → Seen
loaded cr3 other_roots = record {
  slots = (coming cr3 other_roots).slots;
  read_from = (coming cr3 other_roots).tables;
  stale = false;
  cr3 = Some cr3;
  other_roots = staying cr3 other_roots;
}

abbrev pub switched : ℕ → Seen → Seen
switched cr3 v = loaded cr3 (put_by v.cr3 v.stale v.read_from v.slots v.other_roots)
