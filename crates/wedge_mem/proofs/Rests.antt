-- Calls in a row leave the rest as it was where each does.
use Rattle.std.proofs.Common.{ℕ, List, refl, ◌∙◌}
use Rattle.shadow_tables.proofs.OtherRoots.{same-refl, same-trans}
use Rattle.shadow_tables.specs.declared.shadows.Shadows as shadows
use Rattle.wedge_mem.specs.Seen.{KeepsRest}

pub rest-refl : {S : Type 0} (g : shadows.Ghosts S) (a : S) (m : List ℕ) → KeepsRest g a a m m
rest-refl g a m = record {
  write_protected = refl;
  read_from = λ frame. refl;
  stale = refl;
  cr3 = refl;
  other_roots = same-refl (g.other_roots a m);
  roots = λ view. refl;
}

pub rest-trans : {S : Type 0} (g : shadows.Ghosts S) (a b c : S) (m m1 m2 : List ℕ) → KeepsRest g a b m m1 → KeepsRest g b c m1 m2
    → KeepsRest g a c m m2
rest-trans g a b c m m1 m2 h k = record {
  write_protected = k.write_protected ∙ h.write_protected;
  read_from = λ frame. k.read_from frame ∙ h.read_from frame;
  stale = k.stale ∙ h.stale;
  cr3 = k.cr3 ∙ h.cr3;
  other_roots = same-trans (g.other_roots a m) (g.other_roots b m1) (g.other_roots c m2) h.other_roots k.other_roots;
  roots = λ view. k.roots view ∙ h.roots view;
}
