-- The parts of an object's file are no longer than it.
use Rattle.std.proofs.Common.{◌≡◌, ℕ, ◌+◌, ◌*◌, ◌<◌, ◌≤◌, ◌^◌, true, false, length, refl, arith}
use Rattle.std.specs.Prelude.{count_by, All}
use Rattle.elf_form.specs.ObjectParts.{ObjectParts}
use Rattle.elf_form.specs.ObjectLayout.{next, layout, strings_of, is_of}
use Rattle.elf_form.specs.Writable.{IsWritableObject}

next-least : (n : ℕ) → n ≤ next n
unfolding next
next-least n = omega arith

pub parts_fit : (o : ObjectParts) → length o.text + length o.init + length o.sites + 8 * count_by (is_of true) o.relocs
    + 8 * count_by (is_of false) o.relocs + 16 * length o.symbols + length (strings_of o.symbols) ≤ (layout o).sections
unfolding layout
parts_fit o = omega (arith, next-least)

-- where the parts end
pub record ArePlaced (o : ObjectParts) : Type 0 where
  pub text : 52 + length o.text ≤ (layout o).init
  pub init : (layout o).init + length o.init ≤ (layout o).sites
  pub sites : (layout o).sites + length o.sites ≤ (layout o).text_relocs
  pub text_relocs : (layout o).text_relocs + 8 * count_by (is_of true) o.relocs ≡ (layout o).data_relocs
  pub data_relocs : (layout o).data_relocs + 8 * count_by (is_of false) o.relocs ≡ (layout o).symbols
  pub symbols : (layout o).symbols + 16 * (length o.symbols + 1) ≡ (layout o).strings
  pub strings : (layout o).strings + length (strings_of o.symbols) ≤ (layout o).names
  pub names : (layout o).names + 74 ≤ (layout o).sections

pub are_placed : (o : ObjectParts) → ArePlaced o
unfolding layout
are_placed o = record {
  text = next-least _;
  init = next-least _;
  sites = next-least _;
  text_relocs = refl;
  data_relocs = refl;
  symbols = refl;
  strings = next-least _;
  names = next-least _;
}

-- each part of a file that is written begins below 2 ^ 32
pub part_small : (o : ObjectParts) (at : ℕ) → IsWritableObject o → at ≤ (layout o).sections → at < 2 ^ 32
part_small o at writable le = omega (arith, writable.file, le)

pub strings_placed : (o : ObjectParts) → (layout o).strings ≤ (layout o).sections
strings_placed o = omega (arith, (are_placed o).strings, (are_placed o).names)

pub names_placed : (o : ObjectParts) → (layout o).names ≤ (layout o).sections
names_placed o = omega (arith, (are_placed o).names)

-- a relocation's symbol has a number of two bytes
pub relocs_small : (o : ObjectParts) → IsWritableObject o → All (λ r. r.symbol < 65536) o.relocs
relocs_small o writable = λ k d lt. omega (arith, writable.count, writable.named k d lt)

pub init_placed : (o : ObjectParts) → (layout o).init ≤ (layout o).sections
init_placed o = let p = are_placed o in omega (arith, p.init, p.sites, p.text_relocs, p.data_relocs, p.symbols, p.strings, p.names)

pub sites_placed : (o : ObjectParts) → (layout o).sites ≤ (layout o).sections
sites_placed o = let p = are_placed o in omega (arith, p.sites, p.text_relocs, p.data_relocs, p.symbols, p.strings, p.names)
