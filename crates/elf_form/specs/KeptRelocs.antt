-- The relocations that were collected.
use Rattle.std.specs.Prelude.{◌≡◌, ℕ, ◌+◌, ◌≤◌, List, length, All}
use Rattle.elf_form.specs.declared.abi.TheConstants.{REL_SIZE, SHDR_SIZE}
use Rattle.elf_form.specs.declared.roles.Role.TheVariants as role
use Rattle.elf_form.specs.declared.symbols.Entry.{Entry}
use Rattle.elf_form.specs.declared.object_reading.KeptRelocs.{KeptRelocs}
use Rattle.elf_form.specs.Sections.{names}
use Rattle.elf_form.specs.Symbols.{relocs_of}

-- an entry of eight bytes, of a section, in the file
pub record IsEntry (bytes : List ℕ) (e : Entry) : Type 0 where
  pub section : e.section + SHDR_SIZE ≤ length bytes
  pub at : e.at + REL_SIZE ≤ length bytes

-- those of the text, of the data and of the zeroed bytes, each in the file
pub record AreKept (bytes : List ℕ) (kept : KeptRelocs) : Type 0 where
  pub text : kept.text.items ≡ relocs_of role.Text (names bytes) bytes
  pub init : kept.init.items ≡ relocs_of role.Init (names bytes) bytes
  pub bss : kept.bss.items ≡ relocs_of role.Bss (names bytes) bytes
  pub in_text : All (IsEntry bytes) kept.text.items
  pub in_init : All (IsEntry bytes) kept.init.items
  pub in_bss : All (IsEntry bytes) kept.bss.items
