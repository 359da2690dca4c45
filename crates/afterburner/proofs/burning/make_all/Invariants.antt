use Rattle.std.proofs.Common.{◌≡◌, length, fold, take}
use Rattle.std.specs.Prelude.{Ok}
use Rattle.afterburner.specs.ObjectSoFar.{fresh}
use Rattle.afterburner.specs.Burnt.{next_made}
use Rattle.afterburner.specs.Sound.{IsSound, IsWithin}
use Rattle.afterburner.proofs.burning.make_all.Given as goal

abbrev pub invariant-loop-item : goal.invariant-loop-item
invariant-loop-item l = record {
  so_far : fold (next_made l.names) (Ok (fresh l.names)) (take l.item-index l.items) ≡ Ok l.made;
  sound : IsSound (length l.names) l.made;
  within : IsWithin l.made;
}
