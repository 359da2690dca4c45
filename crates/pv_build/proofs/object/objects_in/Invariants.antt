use Rattle.std.proofs.Common.{◌≡◌, length, map, take, string_bytes}
use Rattle.std.specs.Prelude.{All}
use Rattle.elf_form.specs.Linkable.{IsLinkable}
use Rattle.pv_build.specs.Readings.{OnlyRead}
use Rattle.pv_build.specs.Objects.{HasObjects, FindsObjects}
use Rattle.pv_build.proofs.object.objects_in.Given as goal

abbrev pub invariant-loop-i : goal.invariant-loop-i
invariant-loop-i g l = record {
  objects : HasObjects (g.F.Files.held l.fn.files) (map string_bytes (take l.i l.names)) l.objects.items;
  linkable : All IsLinkable l.objects.items;
  count : length l.objects.items ≡ l.i;
  kept : g.F.Files.load_faults l.files ≡ g.F.Files.load_faults l.fn.files;
  read : OnlyRead g.F.Files (FindsObjects (g.F.Files.held l.fn.files) (map string_bytes l.names)) l.fn.files l.files;
}
