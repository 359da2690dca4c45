-- An object as contracts see it: the record of its fields, with a list in place of each vector.
use Rattle.std.specs.Prelude.{ℕ, List}
use Rattle.elf_form.specs.declared.object.Symbol.{Symbol}
use Rattle.elf_form.specs.declared.object.Reloc.{Reloc}

pub record ObjectParts : Type 0 where
  pub text : List ℕ
  pub init : List ℕ
  pub bss : ℕ
  pub sites : List ℕ
  pub symbols : List Symbol
  pub relocs : List Reloc
