use Rattle.std.proofs.Common.{◌≡◌, drop, length}
use Rattle.sites.specs.Patched.{patched}
use Rattle.sites.specs.Room.{AreInside}
use Rattle.sites.proofs.patching.patch.Given as goal

abbrev pub invariant-loop-s : goal.invariant-loop-s
invariant-loop-s l = record {
  memory : patched l.ram l.text_at (drop l.s-index l.sites.list) ≡ patched l.fn.ram l.text_at l.sites.list;
  len : length l.ram ≡ length l.fn.ram;
  inside : AreInside (length l.fn.ram) l.text_at (drop l.s-index l.sites.list);
}
