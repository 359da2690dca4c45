-- The entries of a file in which no part passes the end.
use Rattle.std.proofs.Common.{◌≡◌, ℕ, ◌+◌, ◌*◌, ◌<◌, List, true, not, ◌&&◌, nat_lt, refl, arith}
use Rattle.std.specs.Prelude.{◌==◌}
use Rattle.std.proofs.lemmas.Bool.{ltb-true, and_parts}
use Rattle.elf_form.specs.Sections.{is_index}
use Rattle.guest_ram.specs.Bytes.{word16, word32}
use Rattle.elf_form.specs.Header.{section_count}
use Rattle.elf_form.specs.Cut.{header_passes, section_passes}
use Rattle.elf_form.specs.Whole.{IsWhole, IsHeader, IsSection}
use Rattle.elf_form.proofs.TableLaws.{none_passes}

pub header_at : (bytes : List ℕ) (table count i : ℕ) → table ≡ word32 bytes 28 → count ≡ word16 bytes 44 → IsWhole bytes → i < count
    → IsHeader bytes (table + 32 * i)
header_at bytes table count i t n whole lt =
    let room = whole.header_room in
    let below : i < word16 bytes 44 = omega arith in
    rw t (omega arith, none_passes (header_passes bytes) (word32 bytes 28) 32 (word16 bytes 44) i whole.header_parts below)

pub section_at : (bytes : List ℕ) (table count i : ℕ) → table ≡ word32 bytes 32 → count ≡ word16 bytes 48 → IsWhole bytes → i < count
    → IsSection bytes (table + 40 * i)
section_at bytes table count i t n whole lt =
    let room = whole.section_room in
    let below : i < word16 bytes 48 = omega arith in
    rw t (omega arith, none_passes (section_passes bytes) (word32 bytes 32) 40 (word16 bytes 48) i whole.section_parts below)

-- the section that an index names
pub section_of_index : (bytes : List ℕ) (table index : ℕ) → table ≡ word32 bytes 32 → IsWhole bytes → is_index bytes index ≡ true
    → IsSection bytes (table + 40 * index)
section_of_index bytes table index t whole h = section_at bytes table (section_count bytes) index t refl whole
    (ltb-true index (section_count bytes) (and_parts (not (index == 0) && nat_lt index 0xFF00) (nat_lt index (section_count bytes)) h).1)
