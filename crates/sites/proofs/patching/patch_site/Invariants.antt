use Rattle.std.proofs.Common.{◌≡◌, length}
use Rattle.guest_ram.specs.Bytes.{with_part}
use Rattle.sites.specs.Patched.{patch_bytes}
use Rattle.sites.proofs.patching.patch_site.Given as goal

abbrev pub invariant-loop-i : goal.invariant-loop-i
invariant-loop-i l = record {
  memory : l.ram ≡ with_part l.fn.ram l.at (patch_bytes l.i);
  len : length l.ram ≡ length l.fn.ram;
}
