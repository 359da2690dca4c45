-- The numbers and the parts that stand in a written file.
use Rattle.std.proofs.Common.{◌≡◌, ℕ, ◌+◌, ◌*◌, ◌<◌, ◌≤◌, ◌^◌, List, [], ◌++◌, length, get_or, replicate, refl, sym, ap, ◌∙◌, arith, lit<, lit≤}
use Rattle.std.proofs.lemmas.List.{length-append, length-replicate, append-nil}
use Rattle.std.proofs.lemmas.Nat.{from_le_bytes-to_le_bytes_4}
use Rattle.guest_ram.specs.Bytes.{part, byte, word16, word32}
use Rattle.elf_form.specs.ImageParts.{ImageParts}
use Rattle.elf_form.specs.Output.{longs, pad}
use Rattle.elf_form.specs.ImageLayout.{init_from, sites_from, names_from, sections_from, section_names, header, program_numbers, section_numbers, body, image_bytes}
use Rattle.elf_form.specs.Writable.{IsWritableImage, HasLongs}
use Rattle.elf_form.proofs.AppendLaws.{behind_front, behind_tables, behind_text, behind_init, behind_sites}
use Rattle.elf_form.proofs.RowLaws.{part-middle, row_behind, length-longs}

-- a section header of the file f at s
pub record IsRow (f : List ℕ) (s n k g o z : ℕ) : Type 0 where
  pub name : word32 f s ≡ n
  pub kind : word32 f (s + 4) ≡ k
  pub flags : word32 f (s + 8) ≡ g
  pub offset : word32 f (s + 16) ≡ o
  pub size : word32 f (s + 20) ≡ z

-- Those of its numbers that are read have four bytes, where the row begins at the number k.
pub record AreSmall (ns : List ℕ) (k : ℕ) : Type 0 where
  pub name : get_or ns k 0 < 2 ^ 32
  pub kind : get_or ns (k + 1) 0 < 2 ^ 32
  pub flags : get_or ns (k + 2) 0 < 2 ^ 32
  pub offset : get_or ns (k + 4) 0 < 2 ^ 32
  pub size : get_or ns (k + 5) 0 < 2 ^ 32

-- the row that begins at the number k of a table, which the file f has at t
pub row_of : (f ns : List ℕ) (t k s : ℕ)
    → ((j at : ℕ) → j < length ns → get_or ns j 0 < 2 ^ 32 → t + 4 * j ≡ at → word32 f at ≡ get_or ns j 0) → k + 10 ≤ length ns
    → AreSmall ns k → t + 4 * k ≡ s → IsRow f s (get_or ns k 0) (get_or ns (k + 1) 0) (get_or ns (k + 2) 0) (get_or ns (k + 4) 0)
    (get_or ns (k + 5) 0)
row_of f ns t k s words le small e = record {
  name = words k s (omega arith) small.name e;
  kind = words (k + 1) (s + 4) (omega arith) small.kind (omega arith);
  flags = words (k + 2) (s + 8) (omega arith) small.flags (omega arith);
  offset = words (k + 4) (s + 16) (omega arith) small.offset (omega arith);
  size = words (k + 5) (s + 20) (omega arith) small.size (omega arith);
}

-- a program header of the file f at h
pub record IsProgram (f : List ℕ) (h o a z m g : ℕ) : Type 0 where
  pub kind : word32 f h ≡ 1
  pub offset : word32 f (h + 4) ≡ o
  pub address : word32 f (h + 8) ≡ a
  pub size : word32 f (h + 16) ≡ z
  pub memory : word32 f (h + 20) ≡ m
  pub flags : word32 f (h + 24) ≡ g

-- where the parts stand
pub record IsLaidOut (p : ImageParts) : Type 0 where
  pub init : 4096 + length p.text ≤ init_from p
  pub sites : init_from p + length p.init ≤ sites_from p
  pub names : sites_from p + length p.sites ≡ names_from p
  pub sections : names_from p + 38 ≤ sections_from p

pub laid_out : (p : ImageParts) → IsLaidOut p
unfolding init_from sites_from names_from sections_from
laid_out p = record { init = omega arith; sites = omega arith; names = refl; sections = omega arith }

-- what stands before the section table
front : ImageParts → List ℕ
front p = header p ++ (longs (program_numbers p) ++ (replicate 3980 0 ++ body p))

file-front : (p : ImageParts) → image_bytes p ≡ front p ++ (longs (section_numbers p) ++ [])
unfolding image_bytes front
file-front p =
    let table = longs (section_numbers p) in
    let regrouped : (header p ++ (longs (program_numbers p) ++ (replicate 3980 0 ++ body p))) ++ table ≡ image_bytes p =
    behind_front (header p) (longs (program_numbers p)) (replicate 3980 0) (longs (section_numbers p)) (body p) in
    sym regrouped ∙ ap (λ (t : List ℕ). front p ++ t) (sym (append-nil table))

length-header : (p : ImageParts) → length (header p) ≡ 52
unfolding header
length-header p = refl

length-body : (p : ImageParts) → 4096 + length (body p) ≡ sections_from p
unfolding body init_from sites_from names_from sections_from
length-body p = simp (length-append, length-replicate) (omega arith)

length-front : (p : ImageParts) → length (front p) ≡ sections_from p
unfolding front
length-front p = simp (length-append, length-replicate) (omega (arith, length-header p, length-body p))

pub length-file : (p : ImageParts) → length (image_bytes p) ≡ sections_from p + 240
length-file p = rw (file-front p) (omega (
  arith,
  length-append (front p) (longs (section_numbers p) ++ []),
  length-append (longs (section_numbers p)) [],
  length-longs (section_numbers p),
  length-front p,
))

program_word : (p : ImageParts) (k at : ℕ) → k < 16 → get_or (program_numbers p) k 0 < 2 ^ 32 → 52 + 4 * k ≡ at
    → word32 (image_bytes p) at ≡ get_or (program_numbers p) k 0
unfolding image_bytes
program_word p k at lt small e = row_behind (header p) (program_numbers p) (replicate 3980 0 ++ (body p ++ longs (section_numbers p))) k at
    lt small (ap (λ (n : ℕ). n + 4 * k) (length-header p) ∙ e)

section_word : (p : ImageParts) (k at : ℕ) → k < 60 → get_or (section_numbers p) k 0 < 2 ^ 32 → sections_from p + 4 * k ≡ at
    → word32 (image_bytes p) at ≡ get_or (section_numbers p) k 0
section_word p k at lt small e =
    rw (file-front p) (row_behind (front p) (section_numbers p) [] k at lt small (ap (λ (n : ℕ). n + 4 * k) (length-front p) ∙ e))

-- ---- the header

pub record HasHeader (f : List ℕ) (e t : ℕ) : Type 0 where
  pub magic : word32 f 0 ≡ 1179403647
  pub class : byte f 4 ≡ 1
  pub encoding : byte f 5 ≡ 1
  pub version : byte f 6 ≡ 1
  pub file_type : word16 f 16 ≡ 2
  pub machine : word16 f 18 ≡ 3
  pub second_version : word32 f 20 ≡ 1
  pub entry : word32 f 24 ≡ e
  pub headers : word32 f 28 ≡ 52
  pub sections : word32 f 32 ≡ t
  pub header_size : word16 f 40 ≡ 52
  pub program_size : word16 f 42 ≡ 32
  pub programs : word16 f 44 ≡ 2
  pub section_size : word16 f 46 ≡ 40
  pub section_count : word16 f 48 ≡ 6
  pub names : word16 f 50 ≡ 5

pub header_is : (p : ImageParts) → IsWritableImage p → HasLongs p → HasHeader (image_bytes p) p.entry (sections_from p)
unfolding image_bytes header word32 word16 byte part
header_is p fits longs = record {
  magic = refl;
  class = refl;
  encoding = refl;
  version = refl;
  file_type = refl;
  machine = refl;
  second_version = refl;
  entry = from_le_bytes-to_le_bytes_4 p.entry longs.entry;
  headers = refl;
  sections = from_le_bytes-to_le_bytes_4 (sections_from p) (omega arith);
  header_size = refl;
  program_size = refl;
  programs = refl;
  section_size = refl;
  section_count = refl;
  names = refl;
}

-- ---- the tables

-- Each number of the tables has four bytes.
pub record HasNumbers (p : ImageParts) : Type 0 where
  pub text : length p.text < 2 ^ 32
  pub init : init_from p < 2 ^ 32
  pub init_size : length p.init < 2 ^ 32
  pub memory : length p.init + p.bss < 2 ^ 32
  pub bss : p.bss < 2 ^ 32
  pub sites : sites_from p < 2 ^ 32
  pub sites_size : length p.sites < 2 ^ 32
  pub names : names_from p < 2 ^ 32

numbers_placed : (p : ImageParts) → IsWritableImage p → IsLaidOut p → HasNumbers p
numbers_placed p fits at = omega arith

pub numbers_fit : (p : ImageParts) → IsWritableImage p → HasNumbers p
numbers_fit p fits = numbers_placed p fits (laid_out p)

pub text_fits : (p : ImageParts) → IsWritableImage p → length p.text < 2 ^ 32
text_fits p fits = (numbers_fit p fits).text

pub sites_fit : (p : ImageParts) → IsWritableImage p → length p.sites < 2 ^ 32
sites_fit p fits = (numbers_fit p fits).sites_size

pub init_placed : (p : ImageParts) → IsWritableImage p → init_from p < 2 ^ 32
init_placed p fits = (numbers_fit p fits).init

pub sites_placed : (p : ImageParts) → IsWritableImage p → sites_from p < 2 ^ 32
sites_placed p fits = (numbers_fit p fits).sites

pub names_placed : (p : ImageParts) → IsWritableImage p → names_from p < 2 ^ 32
names_placed p fits = (numbers_fit p fits).names

-- what writing a number as four bytes takes
pub ruleset numbers = (text_fits, sites_fit, init_placed, sites_placed, names_placed)

pub text_program : (p : ImageParts) → HasNumbers p → HasLongs p
    → IsProgram (image_bytes p) 52 4096 p.text_at (length p.text) (length p.text) 5
text_program p small longs = record {
  kind = program_word p 0 52 (lit< tt) (lit< tt) refl;
  offset = program_word p 1 56 (lit< tt) (lit< tt) refl;
  address = program_word p 2 60 (lit< tt) longs.text_at refl;
  size = program_word p 4 68 (lit< tt) small.text refl;
  memory = program_word p 5 72 (lit< tt) small.text refl;
  flags = program_word p 6 76 (lit< tt) (lit< tt) refl;
}

pub init_program : (p : ImageParts) → HasNumbers p → HasLongs p → IsProgram (image_bytes p) 84 (init_from p) p.init_at (length p.init)
    (length p.init + p.bss) 6
init_program p small longs = record {
  kind = program_word p 8 84 (lit< tt) (lit< tt) refl;
  offset = program_word p 9 88 (lit< tt) small.init refl;
  address = program_word p 10 92 (lit< tt) longs.init_at refl;
  size = program_word p 12 100 (lit< tt) small.init_size refl;
  memory = program_word p 13 104 (lit< tt) small.memory refl;
  flags = program_word p 14 108 (lit< tt) (lit< tt) refl;
}

section_row : (p : ImageParts) (k s : ℕ) → k + 10 ≤ 60 → AreSmall (section_numbers p) k → sections_from p + 4 * k ≡ s
    → IsRow (image_bytes p) s (get_or (section_numbers p) k 0) (get_or (section_numbers p) (k + 1) 0) (get_or (section_numbers p) (k + 2) 0)
    (get_or (section_numbers p) (k + 4) 0) (get_or (section_numbers p) (k + 5) 0)
section_row p k s le small e = row_of (image_bytes p) (section_numbers p) (sections_from p) k s (λ j at. section_word p j at) le small e

pub null_row : (p : ImageParts) (s : ℕ) → HasNumbers p → sections_from p + 0 ≡ s → IsRow (image_bytes p) s 0 0 0 0 0
null_row p s small e =
    section_row p 0 s (lit≤ tt) (record { name = lit< tt; kind = lit< tt; flags = lit< tt; offset = lit< tt; size = lit< tt }) e

pub text_row : (p : ImageParts) (s : ℕ) → HasNumbers p → sections_from p + 40 ≡ s → IsRow (image_bytes p) s 1 1 6 4096 (length p.text)
text_row p s small e =
    section_row p 10 s (lit≤ tt) (record { name = lit< tt; kind = lit< tt; flags = lit< tt; offset = lit< tt; size = small.text }) e

pub data_row : (p : ImageParts) (s : ℕ) → HasNumbers p → sections_from p + 80 ≡ s
    → IsRow (image_bytes p) s 7 1 3 (init_from p) (length p.init)
data_row p s small e =
    section_row p 20 s (lit≤ tt) (record { name = lit< tt; kind = lit< tt; flags = lit< tt; offset = small.init; size = small.init_size }) e

pub bss_row : (p : ImageParts) (s : ℕ) → HasNumbers p → sections_from p + 120 ≡ s → IsRow (image_bytes p) s 13 8 3 0 p.bss
bss_row p s small e =
    section_row p 30 s (lit≤ tt) (record { name = lit< tt; kind = lit< tt; flags = lit< tt; offset = lit< tt; size = small.bss }) e

pub sites_row : (p : ImageParts) (s : ℕ) → HasNumbers p → sections_from p + 160 ≡ s
    → IsRow (image_bytes p) s 18 1 0 (sites_from p) (length p.sites)
sites_row p s small e =
    section_row p 40 s (lit≤ tt) (record { name = lit< tt; kind = lit< tt; flags = lit< tt; offset = small.sites; size = small.sites_size })
    e

pub names_row : (p : ImageParts) (s : ℕ) → HasNumbers p → sections_from p + 200 ≡ s → IsRow (image_bytes p) s 28 3 0 (names_from p) 38
names_row p s small e =
    section_row p 50 s (lit≤ tt) (record { name = lit< tt; kind = lit< tt; flags = lit< tt; offset = small.names; size = lit< tt }) e

-- ---- the parts

pub text_part : (p : ImageParts) → part (image_bytes p) 4096 (length p.text) ≡ p.text
unfolding image_bytes body
text_part p =
    let rest = replicate (pad 4096 (4096 + length p.text)) 0
    ++ (p.init ++ (replicate (pad 4 (init_from p + length p.init)) 0
    ++ (p.sites ++ (section_names ++ replicate (pad 4 (names_from p + 38)) 0)))) in
    let before = header p ++ (longs (program_numbers p) ++ replicate 3980 0) in
    let regrouped : before ++ (p.text ++ (rest ++ longs (section_numbers p))) ≡ image_bytes p =
    behind_tables (header p) (longs (program_numbers p)) (replicate 3980 0) (longs (section_numbers p)) p.text rest in
    let len : length before ≡ 4096 = simp (length-append, length-replicate) (omega (arith, length-header p)) in
    ap (λ (f : List ℕ). part f 4096 (length p.text)) (sym regrouped) ∙ part-middle before p.text (rest ++ longs (section_numbers p)) 4096
    (length p.text) len refl

pub init_part : (p : ImageParts) → part (image_bytes p) (init_from p) (length p.init) ≡ p.init
unfolding image_bytes body init_from
init_part p =
    let rest =
    replicate (pad 4 (init_from p + length p.init)) 0 ++ (p.sites ++ (section_names ++ replicate (pad 4 (names_from p + 38)) 0)) in
    let before =
    header p ++ (longs (program_numbers p) ++ (replicate 3980 0 ++ (p.text ++ replicate (pad 4096 (4096 + length p.text)) 0))) in
    let regrouped : before ++ (p.init ++ (rest ++ longs (section_numbers p))) ≡ image_bytes p =
    behind_text (header p) (longs (program_numbers p)) (replicate 3980 0) (longs (section_numbers p)) p.text
    (replicate (pad 4096 (4096 + length p.text)) 0) p.init rest in
    let len : length before ≡ init_from p = simp (length-append, length-replicate) (omega (arith, length-header p)) in
    ap (λ (f : List ℕ). part f (init_from p) (length p.init)) (sym regrouped)
    ∙ part-middle before p.init (rest ++ longs (section_numbers p)) (init_from p) (length p.init) len refl

pub sites_part : (p : ImageParts) → part (image_bytes p) (sites_from p) (length p.sites) ≡ p.sites
unfolding image_bytes body init_from sites_from
sites_part p =
    let rest = section_names ++ replicate (pad 4 (names_from p + 38)) 0 in
    let before =
    header p ++ (longs (program_numbers p)
    ++ (replicate 3980 0 ++ (p.text
    ++ (replicate (pad 4096 (4096 + length p.text)) 0 ++ (p.init ++ replicate (pad 4 (init_from p + length p.init)) 0))))) in
    let regrouped : before ++ (p.sites ++ (rest ++ longs (section_numbers p))) ≡ image_bytes p =
    behind_init (header p) (longs (program_numbers p)) (replicate 3980 0) (longs (section_numbers p)) p.text
    (replicate (pad 4096 (4096 + length p.text)) 0) p.init (replicate (pad 4 (init_from p + length p.init)) 0) p.sites rest in
    let len : length before ≡ sites_from p = simp (length-append, length-replicate) (omega (arith, length-header p)) in
    ap (λ (f : List ℕ). part f (sites_from p) (length p.sites)) (sym regrouped)
    ∙ part-middle before p.sites (rest ++ longs (section_numbers p)) (sites_from p) (length p.sites) len refl

pub names_part : (p : ImageParts) → part (image_bytes p) (names_from p) 38 ≡ section_names
unfolding image_bytes body init_from sites_from names_from
names_part p =
    let rest = replicate (pad 4 (names_from p + 38)) 0 in
    let before =
    header p ++ (longs (program_numbers p)
    ++ (replicate 3980 0 ++ (p.text
    ++ (replicate (pad 4096 (4096 + length p.text)) 0 ++ (p.init ++ (replicate (pad 4 (init_from p + length p.init)) 0 ++ p.sites)))))) in
    let regrouped : before ++ (section_names ++ (rest ++ longs (section_numbers p))) ≡ image_bytes p =
    behind_sites (header p) (longs (program_numbers p)) (replicate 3980 0) (longs (section_numbers p)) p.text
    (replicate (pad 4096 (4096 + length p.text)) 0) p.init (replicate (pad 4 (init_from p + length p.init)) 0) p.sites section_names rest in
    let len : length before ≡ names_from p = simp (length-append, length-replicate) (omega (arith, length-header p)) in
    ap (λ (f : List ℕ). part f (names_from p) 38) (sym regrouped) ∙ part-middle before section_names (rest ++ longs (section_numbers p))
    (names_from p) 38 len refl
