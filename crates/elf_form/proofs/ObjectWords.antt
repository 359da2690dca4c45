-- The numbers and the parts that stand in the file of an object.
use Rattle.std.proofs.Common.{◌≡◌, ℕ, ◌+◌, ◌*◌, ◌<◌, ◌≤◌, ◌^◌, true, false, List, [], ◌++◌, length, get_or, replicate, refl, sym, ap, ◌∙◌, arith, append_assoc, add_assoc, add-zero, lit<, lit≤}
use Rattle.std.specs.Prelude.{count_by}
use Rattle.std.proofs.lemmas.List.{length-append, length-replicate, append-nil}
use Rattle.std.proofs.lemmas.Nat.{from_le_bytes-to_le_bytes_4}
use Rattle.guest_ram.specs.Bytes.{part, byte, word16, word32}
use Rattle.elf_form.specs.ObjectParts.{ObjectParts}
use Rattle.elf_form.specs.Output.{longs, pad}
use Rattle.elf_form.specs.ObjectLayout.{next, layout, strings_of, is_of, symbol_table, reloc_table, object_header, object_names, part_sections, table_sections, object_parts, object_tables, object_bytes}
use Rattle.elf_form.specs.Writable.{IsWritableObject}
use Rattle.elf_form.proofs.FileWords.{IsRow, AreSmall, row_of}
use Rattle.elf_form.proofs.AppendLaws.{behind_two, in_one_row}
use Rattle.elf_form.proofs.RowLaws.{part-middle, row_behind, length-longs}
use Rattle.elf_form.proofs.ObjectSizes.{ArePlaced}
use Rattle.elf_form.proofs.ObjectBounds.{length-symbols, length-relocs, length-header, length-parts, length-tables}

-- the header of the file f, with the section table at t
pub record HasObjectHeader (f : List ℕ) (t : ℕ) : Type 0 where
  pub magic : word32 f 0 ≡ 1179403647
  pub class : byte f 4 ≡ 1
  pub encoding : byte f 5 ≡ 1
  pub version : byte f 6 ≡ 1
  pub file_type : word16 f 16 ≡ 1
  pub machine : word16 f 18 ≡ 3
  pub second_version : word32 f 20 ≡ 1
  pub headers : word32 f 28 ≡ 0
  pub sections : word32 f 32 ≡ t
  pub header_size : word16 f 40 ≡ 52
  pub programs : word16 f 44 ≡ 0
  pub section_size : word16 f 46 ≡ 40
  pub section_count : word16 f 48 ≡ 10
  pub names : word16 f 50 ≡ 9

pub header_is : (o : ObjectParts) → IsWritableObject o → HasObjectHeader (object_bytes o) (layout o).sections
unfolding object_bytes object_header word32 word16 byte part
header_is o fits = record {
  magic = refl;
  class = refl;
  encoding = refl;
  version = refl;
  file_type = refl;
  machine = refl;
  second_version = refl;
  headers = refl;
  sections = from_le_bytes-to_le_bytes_4 (layout o).sections (omega arith);
  header_size = refl;
  programs = refl;
  section_size = refl;
  section_count = refl;
  names = refl;
}

-- ---- the section table

-- what stands before it
front : ObjectParts → List ℕ
front o = object_header o ++ (object_parts o ++ object_tables o)

file-front : (o : ObjectParts) → object_bytes o ≡ front o ++ (longs (part_sections o) ++ longs (table_sections o))
unfolding object_bytes front
file-front o =
    let table = longs (part_sections o) ++ longs (table_sections o) in
    let regrouped : (object_header o ++ (object_parts o ++ object_tables o)) ++ table ≡ object_bytes o =
    behind_two (object_header o) (object_parts o) (object_tables o) table in
    sym regrouped

length-front : (o : ObjectParts) → length (front o) ≡ (layout o).sections
unfolding front
length-front o = omega (
  arith,
  length-append (object_header o) (object_parts o ++ object_tables o),
  length-append (object_parts o) (object_tables o),
  length-header o,
  length-parts o,
  length-tables o,
)

file-middle : (o : ObjectParts) → object_bytes o ≡ (front o ++ longs (part_sections o)) ++ (longs (table_sections o) ++ [])
file-middle o = file-front o ∙ sym (append_assoc (front o) (longs (part_sections o)) (longs (table_sections o)))
    ∙ ap (λ (t : List ℕ). (front o ++ longs (part_sections o)) ++ t) (sym (append-nil (longs (table_sections o))))

length-middle : (o : ObjectParts) → length (front o ++ longs (part_sections o)) ≡ (layout o).sections + 200
length-middle o = omega (arith, length-append (front o) (longs (part_sections o)), length-longs (part_sections o), length-front o)

part_word : (o : ObjectParts) (k at : ℕ) → k < 50 → get_or (part_sections o) k 0 < 2 ^ 32 → (layout o).sections + 4 * k ≡ at
    → word32 (object_bytes o) at ≡ get_or (part_sections o) k 0
part_word o k at lt small e =
    rw (file-front o) (row_behind (front o) (part_sections o) (longs (table_sections o)) k at lt small
    (ap (λ (n : ℕ). n + 4 * k) (length-front o) ∙ e))

table_word : (o : ObjectParts) (k at : ℕ) → k < 50 → get_or (table_sections o) k 0 < 2 ^ 32 → (layout o).sections + 200 + 4 * k ≡ at
    → word32 (object_bytes o) at ≡ get_or (table_sections o) k 0
table_word o k at lt small e =
    rw (file-middle o) (row_behind (front o ++ longs (part_sections o)) (table_sections o) [] k at lt small
    (ap (λ (n : ℕ). n + 4 * k) (length-middle o) ∙ e))

-- a row of the headers of the parts, and one of those of the tables
part_row : (o : ObjectParts) (k s : ℕ) → k + 10 ≤ 50 → AreSmall (part_sections o) k → (layout o).sections + 4 * k ≡ s
    → IsRow (object_bytes o) s (get_or (part_sections o) k 0) (get_or (part_sections o) (k + 1) 0) (get_or (part_sections o) (k + 2) 0)
    (get_or (part_sections o) (k + 4) 0) (get_or (part_sections o) (k + 5) 0)
part_row o k s le small e = row_of (object_bytes o) (part_sections o) (layout o).sections k s (λ j at. part_word o j at) le small e

table_row : (o : ObjectParts) (k s : ℕ) → k + 10 ≤ 50 → AreSmall (table_sections o) k → (layout o).sections + 200 + 4 * k ≡ s
    → IsRow (object_bytes o) s (get_or (table_sections o) k 0) (get_or (table_sections o) (k + 1) 0) (get_or (table_sections o) (k + 2) 0)
    (get_or (table_sections o) (k + 4) 0) (get_or (table_sections o) (k + 5) 0)
table_row o k s le small e =
    row_of (object_bytes o) (table_sections o) ((layout o).sections + 200) k s (λ j at. table_word o j at) le small e

-- Each number of the section headers has four bytes.
pub record HasNumbers (o : ObjectParts) : Type 0 where
  text : length o.text < 2 ^ 32
  init : (layout o).init < 2 ^ 32
  init_size : length o.init < 2 ^ 32
  bss : o.bss < 2 ^ 32
  sites : (layout o).sites < 2 ^ 32
  sites_size : length o.sites < 2 ^ 32
  text_relocs : (layout o).text_relocs < 2 ^ 32
  text_relocs_size : 8 * count_by (is_of true) o.relocs < 2 ^ 32
  data_relocs : (layout o).data_relocs < 2 ^ 32
  data_relocs_size : 8 * count_by (is_of false) o.relocs < 2 ^ 32
  symbols : (layout o).symbols < 2 ^ 32
  symbols_size : 16 * (length o.symbols + 1) < 2 ^ 32
  strings : (layout o).strings < 2 ^ 32
  strings_size : length (strings_of o.symbols) < 2 ^ 32
  names : (layout o).names < 2 ^ 32

pub numbers_fit : (o : ObjectParts) → IsWritableObject o → ArePlaced o → HasNumbers o
numbers_fit o fits at = omega arith

pub null_row : (o : ObjectParts) → HasNumbers o → IsRow (object_bytes o) (layout o).sections 0 0 0 0 0
null_row o small = part_row o 0 (layout o).sections (lit≤ tt)
    (record { name = lit< tt; kind = lit< tt; flags = lit< tt; offset = lit< tt; size = lit< tt }) (add-zero _)

pub text_row : (o : ObjectParts) → HasNumbers o → IsRow (object_bytes o) ((layout o).sections + 40) 1 1 6 52 (length o.text)
text_row o small = part_row o 10 ((layout o).sections + 40) (lit≤ tt)
    (record { name = lit< tt; kind = lit< tt; flags = lit< tt; offset = lit< tt; size = small.text }) refl

pub data_row : (o : ObjectParts) → HasNumbers o → IsRow (object_bytes o) ((layout o).sections + 80) 7 1 3 (layout o).init (length o.init)
data_row o small = part_row o 20 ((layout o).sections + 80) (lit≤ tt)
    (record { name = lit< tt; kind = lit< tt; flags = lit< tt; offset = small.init; size = small.init_size }) refl

pub bss_row : (o : ObjectParts) → HasNumbers o → IsRow (object_bytes o) ((layout o).sections + 120) 13 8 3 0 o.bss
bss_row o small = part_row o 30 ((layout o).sections + 120) (lit≤ tt)
    (record { name = lit< tt; kind = lit< tt; flags = lit< tt; offset = lit< tt; size = small.bss }) refl

pub sites_row : (o : ObjectParts) → HasNumbers o → IsRow (object_bytes o) ((layout o).sections + 160) 18 1 0
    (layout o).sites (length o.sites)
sites_row o small = part_row o 40 ((layout o).sections + 160) (lit≤ tt)
    (record { name = lit< tt; kind = lit< tt; flags = lit< tt; offset = small.sites; size = small.sites_size }) refl

pub text_relocs_row : (o : ObjectParts) → HasNumbers o → IsRow (object_bytes o) ((layout o).sections + 200) 28 9 0 (layout o).text_relocs
    (8 * count_by (is_of true) o.relocs)
text_relocs_row o small = table_row o 0 ((layout o).sections + 200) (lit≤ tt)
    (record { name = lit< tt; kind = lit< tt; flags = lit< tt; offset = small.text_relocs; size = small.text_relocs_size })
    (add_assoc (layout o).sections 200 0)

pub data_relocs_row : (o : ObjectParts) → HasNumbers o → IsRow (object_bytes o) ((layout o).sections + 240) 38 9 0 (layout o).data_relocs
    (8 * count_by (is_of false) o.relocs)
data_relocs_row o small = table_row o 10 ((layout o).sections + 240) (lit≤ tt)
    (record { name = lit< tt; kind = lit< tt; flags = lit< tt; offset = small.data_relocs; size = small.data_relocs_size })
    (add_assoc (layout o).sections 200 40)

pub symbols_row : (o : ObjectParts) → HasNumbers o → IsRow (object_bytes o) ((layout o).sections + 280) 48 2 0 (layout o).symbols
    (16 * (length o.symbols + 1))
symbols_row o small = table_row o 20 ((layout o).sections + 280) (lit≤ tt)
    (record { name = lit< tt; kind = lit< tt; flags = lit< tt; offset = small.symbols; size = small.symbols_size })
    (add_assoc (layout o).sections 200 80)

pub strings_row : (o : ObjectParts) → HasNumbers o → IsRow (object_bytes o) ((layout o).sections + 320) 56 3 0 (layout o).strings
    (length (strings_of o.symbols))
strings_row o small = table_row o 30 ((layout o).sections + 320) (lit≤ tt)
    (record { name = lit< tt; kind = lit< tt; flags = lit< tt; offset = small.strings; size = small.strings_size })
    (add_assoc (layout o).sections 200 120)

pub names_row : (o : ObjectParts) → HasNumbers o → IsRow (object_bytes o) ((layout o).sections + 360) 64 3 0 (layout o).names 74
names_row o small = table_row o 40 ((layout o).sections + 360) (lit≤ tt)
    (record { name = lit< tt; kind = lit< tt; flags = lit< tt; offset = small.names; size = lit< tt })
    (add_assoc (layout o).sections 200 160)

-- the alignments, the links and the sizes of entries in the section table of the file f at t
pub record HasLinks (f : List ℕ) (t : ℕ) : Type 0 where
  pub data_alignment : word32 f (t + 80 + 32) ≡ 16
  pub bss_alignment : word32 f (t + 120 + 32) ≡ 16
  pub text_link : word32 f (t + 200 + 24) ≡ 7
  pub text_target : word32 f (t + 200 + 28) ≡ 1
  pub text_entry : word32 f (t + 200 + 36) ≡ 8
  pub data_link : word32 f (t + 240 + 24) ≡ 7
  pub data_target : word32 f (t + 240 + 28) ≡ 2
  pub data_entry : word32 f (t + 240 + 36) ≡ 8
  pub table_link : word32 f (t + 280 + 24) ≡ 8
  pub table_entry : word32 f (t + 280 + 36) ≡ 16

same_sum : (t a b c d : ℕ) → a + b ≡ c + d → t + a + b ≡ t + c + d
same_sum t a b c d e = omega arith

pub links_are : (o : ObjectParts) → HasLinks (object_bytes o) (layout o).sections
links_are o =
    let t = (layout o).sections in
    record {
      data_alignment = part_word o 28 (t + 80 + 32) (lit< tt) (lit< tt) (sym (add_assoc t 80 32));
      bss_alignment = part_word o 38 (t + 120 + 32) (lit< tt) (lit< tt) (sym (add_assoc t 120 32));
      text_link = table_word o 6 (t + 200 + 24) (lit< tt) (lit< tt) (same_sum t 200 24 200 24 refl);
      text_target = table_word o 7 (t + 200 + 28) (lit< tt) (lit< tt) (same_sum t 200 28 200 28 refl);
      text_entry = table_word o 9 (t + 200 + 36) (lit< tt) (lit< tt) (same_sum t 200 36 200 36 refl);
      data_link = table_word o 16 (t + 240 + 24) (lit< tt) (lit< tt) (same_sum t 200 64 240 24 refl);
      data_target = table_word o 17 (t + 240 + 28) (lit< tt) (lit< tt) (same_sum t 200 68 240 28 refl);
      data_entry = table_word o 19 (t + 240 + 36) (lit< tt) (lit< tt) (same_sum t 200 76 240 36 refl);
      table_link = table_word o 26 (t + 280 + 24) (lit< tt) (lit< tt) (same_sum t 200 104 280 24 refl);
      table_entry = table_word o 29 (t + 280 + 36) (lit< tt) (lit< tt) (same_sum t 200 116 280 36 refl);
    }

-- ---- the parts

pub before_text : ObjectParts → List ℕ
before_text o = object_header o

pub after_text : ObjectParts → List ℕ
after_text o = replicate (pad 4 (52 + length o.text)) 0
    ++ (o.init ++ (replicate (pad 4 ((layout o).init + length o.init)) 0
    ++ (o.sites ++ (replicate (pad 4 ((layout o).sites + length o.sites)) 0
    ++ (reloc_table true o.relocs
    ++ (reloc_table false o.relocs
    ++ (symbol_table o.symbols
    ++ (strings_of o.symbols
    ++ (replicate (pad 4 ((layout o).strings + length (strings_of o.symbols))) 0
    ++ (object_names ++ (replicate (pad 4 ((layout o).names + 74)) 0 ++ (longs (part_sections o) ++ (longs (table_sections o))))))))))))))

pub file-text : (o : ObjectParts) → object_bytes o ≡ before_text o ++ (o.text ++ after_text o)
unfolding object_bytes object_parts object_tables before_text after_text
file-text o =
    ap (λ (rest : List ℕ). object_header o ++ rest)
    (in_one_row o.text (replicate (pad 4 (52 + length o.text)) 0) o.init (replicate (pad 4 ((layout o).init + length o.init)) 0) o.sites
    (replicate (pad 4 ((layout o).sites + length o.sites)) 0) (reloc_table true o.relocs) (reloc_table false o.relocs)
    (symbol_table o.symbols) (strings_of o.symbols) (replicate (pad 4 ((layout o).strings + length (strings_of o.symbols))) 0) object_names
    (replicate (pad 4 ((layout o).names + 74)) 0) (longs (part_sections o) ++ longs (table_sections o)))

pub length-before_text : (o : ObjectParts) → length (before_text o) ≡ 52
unfolding before_text layout next
length-before_text o = length-header o

pub text_part : (o : ObjectParts) → part (object_bytes o) 52 (length o.text) ≡ o.text
text_part o = rw (file-text o) (part-middle (before_text o) o.text (after_text o) 52 (length o.text) (length-before_text o) (refl))

-- the front grows by a part and the zero bytes after it
grown : (f before x p rest : List ℕ) → f ≡ before ++ (x ++ (p ++ rest)) → f ≡ (before ++ (x ++ p)) ++ rest
grown f before x p rest e = e ∙ ap (λ (t : List ℕ). before ++ t) (sym (append_assoc x p rest)) ∙ sym (append_assoc before (x ++ p) rest)

length-grown : (before x : List ℕ) (n : ℕ) → length before ≡ n → length (before ++ (x ++ replicate (pad 4 (n + length x)) 0))
    ≡ next (n + length x)
unfolding next
length-grown before x n e = omega (
  arith,
  length-append before (x ++ replicate (pad 4 (n + length x)) 0),
  length-append x (replicate (pad 4 (n + length x)) 0),
  length-replicate {A = ℕ} (pad 4 (n + length x)) 0,
)

longer : (before x : List ℕ) (n k : ℕ) → length before ≡ n → length x ≡ k → length (before ++ x) ≡ n + k
longer before x n k e len = omega (arith, length-append before x)

pub before_init : ObjectParts → List ℕ
before_init o = before_text o ++ (o.text ++ replicate (pad 4 (52 + length o.text)) 0)

pub after_init : ObjectParts → List ℕ
after_init o = replicate (pad 4 ((layout o).init + length o.init)) 0
    ++ (o.sites ++ (replicate (pad 4 ((layout o).sites + length o.sites)) 0
    ++ (reloc_table true o.relocs
    ++ (reloc_table false o.relocs
    ++ (symbol_table o.symbols
    ++ (strings_of o.symbols
    ++ (replicate (pad 4 ((layout o).strings + length (strings_of o.symbols))) 0
    ++ (object_names ++ (replicate (pad 4 ((layout o).names + 74)) 0 ++ (longs (part_sections o) ++ (longs (table_sections o))))))))))))

pub file-init : (o : ObjectParts) → object_bytes o ≡ before_init o ++ (o.init ++ after_init o)
unfolding before_init after_text after_init
file-init o =
    grown (object_bytes o) (before_text o) o.text (replicate (pad 4 (52 + length o.text)) 0) (o.init ++ after_init o) (file-text o)

pub length-before_init : (o : ObjectParts) → length (before_init o) ≡ (layout o).init
unfolding before_init layout
length-before_init o = length-grown (before_text o) o.text 52 (length-before_text o)

pub init_part : (o : ObjectParts) → part (object_bytes o) (layout o).init (length o.init) ≡ o.init
init_part o =
    rw (file-init o) (part-middle (before_init o) o.init (after_init o) (layout o).init (length o.init) (length-before_init o) refl)

pub before_sites : ObjectParts → List ℕ
before_sites o = before_init o ++ (o.init ++ replicate (pad 4 ((layout o).init + length o.init)) 0)

pub after_sites : ObjectParts → List ℕ
after_sites o = replicate (pad 4 ((layout o).sites + length o.sites)) 0
    ++ (reloc_table true o.relocs
    ++ (reloc_table false o.relocs
    ++ (symbol_table o.symbols
    ++ (strings_of o.symbols
    ++ (replicate (pad 4 ((layout o).strings + length (strings_of o.symbols))) 0
    ++ (object_names ++ (replicate (pad 4 ((layout o).names + 74)) 0 ++ (longs (part_sections o) ++ (longs (table_sections o))))))))))

pub file-sites : (o : ObjectParts) → object_bytes o ≡ before_sites o ++ (o.sites ++ after_sites o)
unfolding before_sites after_init after_sites
file-sites o = grown (object_bytes o) (before_init o) o.init (replicate (pad 4 ((layout o).init + length o.init)) 0)
    (o.sites ++ after_sites o) (file-init o)

pub length-before_sites : (o : ObjectParts) → length (before_sites o) ≡ (layout o).sites
unfolding before_sites layout
length-before_sites o = length-grown (before_init o) o.init (layout o).init (length-before_init o)

pub sites_part : (o : ObjectParts) → part (object_bytes o) (layout o).sites (length o.sites) ≡ o.sites
sites_part o =
    rw (file-sites o) (part-middle (before_sites o) o.sites (after_sites o) (layout o).sites (length o.sites) (length-before_sites o) refl)

pub before_text_relocs : ObjectParts → List ℕ
before_text_relocs o = before_sites o ++ (o.sites ++ replicate (pad 4 ((layout o).sites + length o.sites)) 0)

pub after_text_relocs : ObjectParts → List ℕ
after_text_relocs o = reloc_table false o.relocs
    ++ (symbol_table o.symbols
    ++ (strings_of o.symbols
    ++ (replicate (pad 4 ((layout o).strings + length (strings_of o.symbols))) 0
    ++ (object_names ++ (replicate (pad 4 ((layout o).names + 74)) 0 ++ (longs (part_sections o) ++ (longs (table_sections o))))))))

pub file-text_relocs : (o : ObjectParts) → object_bytes o ≡ before_text_relocs o ++ (reloc_table true o.relocs ++ after_text_relocs o)
unfolding before_text_relocs after_sites after_text_relocs
file-text_relocs o = grown (object_bytes o) (before_sites o) o.sites (replicate (pad 4 ((layout o).sites + length o.sites)) 0)
    (reloc_table true o.relocs ++ after_text_relocs o) (file-sites o)

pub length-before_text_relocs : (o : ObjectParts) → length (before_text_relocs o) ≡ (layout o).text_relocs
unfolding before_text_relocs layout
length-before_text_relocs o = length-grown (before_sites o) o.sites (layout o).sites (length-before_sites o)

pub text_relocs_part : (o : ObjectParts) → part (object_bytes o) (layout o).text_relocs (8 * count_by (is_of true) o.relocs)
    ≡ reloc_table true o.relocs
text_relocs_part o =
    rw (file-text_relocs o) (part-middle (before_text_relocs o) (reloc_table true o.relocs) (after_text_relocs o) (layout o).text_relocs
    (8 * count_by (is_of true) o.relocs) (length-before_text_relocs o) (length-relocs true o.relocs))

pub before_data_relocs : ObjectParts → List ℕ
before_data_relocs o = before_text_relocs o ++ reloc_table true o.relocs

pub after_data_relocs : ObjectParts → List ℕ
after_data_relocs o = symbol_table o.symbols
    ++ (strings_of o.symbols
    ++ (replicate (pad 4 ((layout o).strings + length (strings_of o.symbols))) 0
    ++ (object_names ++ (replicate (pad 4 ((layout o).names + 74)) 0 ++ (longs (part_sections o) ++ (longs (table_sections o)))))))

pub file-data_relocs : (o : ObjectParts) → object_bytes o ≡ before_data_relocs o ++ (reloc_table false o.relocs ++ after_data_relocs o)
unfolding before_data_relocs after_text_relocs after_data_relocs
file-data_relocs o = file-text_relocs o
    ∙ sym (append_assoc (before_text_relocs o) (reloc_table true o.relocs) (reloc_table false o.relocs ++ after_data_relocs o))

pub length-before_data_relocs : (o : ObjectParts) → length (before_data_relocs o) ≡ (layout o).data_relocs
unfolding before_data_relocs layout
length-before_data_relocs o = longer (before_text_relocs o) (reloc_table true o.relocs) (layout o).text_relocs
    (8 * count_by (is_of true) o.relocs) (length-before_text_relocs o) (length-relocs true o.relocs)

pub data_relocs_part : (o : ObjectParts) → part (object_bytes o) (layout o).data_relocs (8 * count_by (is_of false) o.relocs)
    ≡ reloc_table false o.relocs
data_relocs_part o =
    rw (file-data_relocs o) (part-middle (before_data_relocs o) (reloc_table false o.relocs) (after_data_relocs o) (layout o).data_relocs
    (8 * count_by (is_of false) o.relocs) (length-before_data_relocs o) (length-relocs false o.relocs))

pub before_symbols : ObjectParts → List ℕ
before_symbols o = before_data_relocs o ++ reloc_table false o.relocs

pub after_symbols : ObjectParts → List ℕ
after_symbols o = strings_of o.symbols
    ++ (replicate (pad 4 ((layout o).strings + length (strings_of o.symbols))) 0
    ++ (object_names ++ (replicate (pad 4 ((layout o).names + 74)) 0 ++ (longs (part_sections o) ++ (longs (table_sections o))))))

pub file-symbols : (o : ObjectParts) → object_bytes o ≡ before_symbols o ++ (symbol_table o.symbols ++ after_symbols o)
unfolding before_symbols after_data_relocs after_symbols
file-symbols o =
    file-data_relocs o ∙ sym (append_assoc (before_data_relocs o) (reloc_table false o.relocs) (symbol_table o.symbols ++ after_symbols o))

pub length-before_symbols : (o : ObjectParts) → length (before_symbols o) ≡ (layout o).symbols
unfolding before_symbols layout
length-before_symbols o = longer (before_data_relocs o) (reloc_table false o.relocs) (layout o).data_relocs
    (8 * count_by (is_of false) o.relocs) (length-before_data_relocs o) (length-relocs false o.relocs)

pub symbols_part : (o : ObjectParts) → part (object_bytes o) (layout o).symbols (16 * (length o.symbols + 1)) ≡ symbol_table o.symbols
symbols_part o =
    rw (file-symbols o) (part-middle (before_symbols o) (symbol_table o.symbols) (after_symbols o) (layout o).symbols
    (16 * (length o.symbols + 1)) (length-before_symbols o) (length-symbols o.symbols))

pub before_strings : ObjectParts → List ℕ
before_strings o = before_symbols o ++ symbol_table o.symbols

pub after_strings : ObjectParts → List ℕ
after_strings o = replicate (pad 4 ((layout o).strings + length (strings_of o.symbols))) 0
    ++ (object_names ++ (replicate (pad 4 ((layout o).names + 74)) 0 ++ (longs (part_sections o) ++ (longs (table_sections o)))))

pub file-strings : (o : ObjectParts) → object_bytes o ≡ before_strings o ++ (strings_of o.symbols ++ after_strings o)
unfolding before_strings after_symbols after_strings
file-strings o = file-symbols o ∙ sym (append_assoc (before_symbols o) (symbol_table o.symbols) (strings_of o.symbols ++ after_strings o))

pub length-before_strings : (o : ObjectParts) → length (before_strings o) ≡ (layout o).strings
unfolding before_strings layout
length-before_strings o = longer (before_symbols o) (symbol_table o.symbols) (layout o).symbols (16 * (length o.symbols + 1))
    (length-before_symbols o) (length-symbols o.symbols)

pub strings_part : (o : ObjectParts) → part (object_bytes o) (layout o).strings (length (strings_of o.symbols)) ≡ strings_of o.symbols
strings_part o =
    rw (file-strings o) (part-middle (before_strings o) (strings_of o.symbols) (after_strings o) (layout o).strings
    (length (strings_of o.symbols)) (length-before_strings o) refl)

pub before_names : ObjectParts → List ℕ
before_names o = before_strings o ++ (strings_of o.symbols ++ replicate (pad 4 ((layout o).strings + length (strings_of o.symbols))) 0)

pub after_names : ObjectParts → List ℕ
after_names o = replicate (pad 4 ((layout o).names + 74)) 0 ++ (longs (part_sections o) ++ (longs (table_sections o)))

pub file-names : (o : ObjectParts) → object_bytes o ≡ before_names o ++ (object_names ++ after_names o)
unfolding before_names after_strings after_names
file-names o = grown (object_bytes o) (before_strings o) (strings_of o.symbols)
    (replicate (pad 4 ((layout o).strings + length (strings_of o.symbols))) 0) (object_names ++ after_names o) (file-strings o)

pub length-before_names : (o : ObjectParts) → length (before_names o) ≡ (layout o).names
unfolding before_names layout
length-before_names o = length-grown (before_strings o) (strings_of o.symbols) (layout o).strings (length-before_strings o)

pub names_part : (o : ObjectParts) → part (object_bytes o) (layout o).names 74 ≡ object_names
names_part o =
    rw (file-names o) (part-middle (before_names o) object_names (after_names o) (layout o).names 74 (length-before_names o) refl)
