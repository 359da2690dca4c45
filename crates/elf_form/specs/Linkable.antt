-- Which objects can be linked.
use Rattle.std.specs.Prelude.{◌+◌, ◌^◌, ◌≤◌, ◌<◌, length, All, if◌then◌else◌}
use Rattle.elf_form.specs.ObjectParts.{ObjectParts}

-- Every relocation names a symbol of the list and its field lies in its section. The annotations are shorter than 2^32 bytes.
pub record IsLinkable (o : ObjectParts) : Type 0 where
  pub named : All (λ r. r.symbol < length o.symbols) o.relocs
  pub inside : All (λ r. r.at + 4 ≤ (if r.in_text then length o.text else length o.init)) o.relocs
  pub sites : length o.sites < 2 ^ 32
