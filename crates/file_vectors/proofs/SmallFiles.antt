-- Small files are short enough.
use Rattle.std.proofs.Common.{◌≡◌, ◌+◌, ◌≤◌, ◌<◌, length, arith}
use Rattle.std.specs.Prelude.{All}
use Rattle.std.specs.List.{sum_by}
use Rattle.elf_form.specs.declared.object.Symbol.{Symbol}
use Rattle.elf_form.specs.ImageParts.{ImageParts}
use Rattle.elf_form.specs.ImageLayout.{init_from, sites_from, names_from, sections_from}
use Rattle.elf_form.specs.Writable.{IsWritableImage, IsWritableObject}
use Rattle.elf_form.specs.ObjectParts.{ObjectParts}
use Rattle.elf_form.proofs.ObjectBounds.{sections-most}

pub small_image : (p : ImageParts) → length p.text + length p.init + length p.sites + p.bss ≤ 4096 → IsWritableImage p
unfolding init_from sites_from names_from sections_from
small_image p le = record { file = omega arith; memory = omega arith }

pub small_object : (o : ObjectParts) → length o.symbols ≡ 4 → sum_by (λ (s : Symbol). length s.name) o.symbols ≡ 19 → length o.text
    + length o.init + length o.sites + o.bss + length o.relocs ≤ 4000 → All (λ r. r.symbol < 4) o.relocs → IsWritableObject o
small_object o count names le named =
    record { file = omega (arith, sections-most o); memory = omega arith; count = omega arith; named = rw count named }
