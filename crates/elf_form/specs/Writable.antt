-- Which objects and images can be written, which are read back as they are, and what is known of their parts.
use Rattle.std.specs.Prelude.{◌≡◌, ◌≢◌, ℕ, ◌+◌, ◌*◌, true, false, ◌<◌, ◌≤◌, ◌^◌, not, List, ◌++◌, length, filter, count_by, All, if◌then◌else◌}
use Rattle.elf_form.specs.declared.object.TheConstants.{SYMBOL_LIMIT}
use Rattle.elf_form.specs.declared.object.Place.TheVariants.{Undefined}
use Rattle.elf_form.specs.declared.object.Symbol.{Symbol}
use Rattle.elf_form.specs.declared.object.Reloc.{Reloc}
use Rattle.elf_form.specs.declared.object_writing.Lengths.{Lengths}
use Rattle.elf_form.specs.declared.abi.TheConstants.{REL_SIZE, SYM_SIZE}
use Rattle.elf_form.specs.ObjectParts.{ObjectParts}
use Rattle.elf_form.specs.ObjectLayout.{strings_of, is_of, layout}
use Rattle.elf_form.specs.ImageParts.{ImageParts}
use Rattle.elf_form.specs.ImageLayout.{sections_from}
use Rattle.std.specs.Str.{bytes_eq}
use Rattle.std.specs.HashMap as hash
use Rattle.std.specs.HashMap.{HashMap}
use denote.Ref.{Bor}
use Rattle.elf_form.specs.StringTable.{place_in, table_bytes}

-- An object's file, and its data with the zeroed bytes, are shorter than 2 ^ 31 bytes. There are no more symbols than an object
-- may have, and each relocation names one.
pub record IsWritableObject (o : ObjectParts) : Type 0 where
  pub file : (layout o).sections + 400 < 2 ^ 31
  pub memory : length o.init + o.bss < 2 ^ 31
  pub count : length o.symbols ≤ SYMBOL_LIMIT
  pub named : All (λ r. r.symbol < length o.symbols) o.relocs

-- An undefined symbol is global and has the value 0.
abbrev pub IsPlaced : Symbol → Type 0
IsPlaced s = s.place ≡ Undefined → (s.global ≡ true) × (s.value ≡ 0)

-- the bytes that a relocation is in: the text, or the data
abbrev pub relocated_part : ObjectParts → Reloc → List ℕ
relocated_part o r = if r.in_text then o.text else o.init

-- An object of which a file is made that is read as it. In its lists the local symbols come before the global ones, and the
-- relocations of the text before those of the data. No name holds a zero byte. The field of each relocation, of four bytes, lies
-- in its section.
pub record IsWholeObject (o : ObjectParts) : Type 0 where
  pub writable : IsWritableObject o
  pub split : o.symbols ≡ filter (λ s. not s.global) o.symbols ++ filter (λ s. s.global) o.symbols
  pub names : All (λ s. All (λ b. b ≢ 0) s.name) o.symbols
  pub undefined : All IsPlaced o.symbols
  pub fields : All (λ r. r.at + 4 ≤ length (relocated_part o r)) o.relocs
  pub ordered : o.relocs ≡ filter (is_of true) o.relocs ++ filter (is_of false) o.relocs

-- An object's values have four bytes.
pub record HasValues (o : ObjectParts) : Type 0 where
  pub values : All (λ s. s.value < 2 ^ 32) o.symbols

-- how long the parts are, together less than 2 ^ 31 bytes
pub record AreLengths (o : ObjectParts) (lengths : Lengths) : Type 0 where
  pub text : lengths.text ≡ length o.text
  pub init : lengths.init ≡ length o.init
  pub sites : lengths.sites ≡ length o.sites
  pub text_relocs : lengths.text_relocs ≡ count_by (is_of true) o.relocs
  pub data_relocs : lengths.data_relocs ≡ count_by (is_of false) o.relocs
  pub symbols : lengths.symbols ≡ length o.symbols
  pub strings : lengths.strings ≡ length (strings_of o.symbols)
  pub small : lengths.text + lengths.init + lengths.sites + REL_SIZE * lengths.text_relocs + REL_SIZE * lengths.data_relocs
      + SYM_SIZE * lengths.symbols + lengths.strings < 2 ^ 31

-- The same of an image.
pub record IsWritableImage (p : ImageParts) : Type 0 where
  pub file : sections_from p + 240 < 2 ^ 31
  pub memory : length p.init + p.bss < 2 ^ 31

-- An image's numbers have four bytes.
pub record HasLongs (p : ImageParts) : Type 0 where
  pub entry : p.entry < 2 ^ 32
  pub text_at : p.text_at < 2 ^ 32
  pub init_at : p.init_at < 2 ^ 32

-- a map with the places of a table's names
pub record HasPlaces {S : Type 0} (names : List (List ℕ)) (map : HashMap (Bor (List ℕ)) ℕ S) : Type 0 where
  pub places : (name : List ℕ) → hash.get_by (λ k. bytes_eq name k.now) map ≡ place_in names name

-- a table's bytes, and such a map
pub record IsStringTable {S : Type 0} (names : List (List ℕ)) (strings : List ℕ) (map : HashMap (Bor (List ℕ)) ℕ S) : Type 0 where
  pub bytes : strings ≡ table_bytes names
  pub has : HasPlaces names map
