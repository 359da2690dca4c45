-- What is written is read again.
use Rattle.std.proofs.Common.{◌≡◌, ℕ, ◌+◌, ◌*◌, ◌-◌, ◌≤◌, Bool, true, false, eqb, ltb, List, [], ◌∷◌, length, Option, None, Ok, refl, sym, ap, ◌∙◌, arith, eq-eqb, add_assoc, add-zero}
use Rattle.std.specs.Prelude.{filter}
use Rattle.std.specs.List.{find}
use Rattle.std.specs.Option.{option_or}
use Rattle.std.proofs.lemmas.Bool.{cond-true, cond-false, le-ltb}
use Rattle.plain_laws.proofs.Options.{neither, none_then}
use Rattle.guest_ram.specs.Bytes.{part, word32}
use Rattle.elf_form.specs.declared.segments.Found.TheVariants.{One, Two}
use Rattle.elf_form.specs.ImageParts.{ImageParts}
use Rattle.elf_form.specs.Faults.{tested, causes, ◌or_lower◌}
use Rattle.elf_form.specs.Tables.{entries, found, further}
use Rattle.elf_form.specs.Header.{headers, sections, passes, header_table, section_table, header_count, section_count, cut}
use Rattle.elf_form.specs.Cut.{header_passes, section_passes, part_begins, header_cut, header_table_cut, section_table_cut, header_part_cut, section_part_cut, cut_in_turn}
use Rattle.elf_form.specs.Segments.{is_load, loads, memory_sizes, sizes, order}
use Rattle.elf_form.specs.Sections.{contents, names, strings_in, is_sites, is_nameless, is_compressed, sites_sections, compressed, nameless}
use Rattle.elf_form.specs.Reading.{parts_at, section_form, wrong_image, image_at, image_in}
use Rattle.elf_form.specs.ImageLayout.{init_from, sites_from, names_from, sections_from, section_names, image_bytes}
use Rattle.elf_form.specs.Writable.{IsWritableImage, HasLongs}
use Rattle.elf_form.proofs.FileWords.{IsRow, IsProgram, HasHeader, IsLaidOut, laid_out, length-file, header_is, numbers_fit, text_program, init_program, null_row, text_row, data_row, bss_row, sites_row, names_row, text_part, init_part, sites_part, names_part}
use Rattle.elf_form.proofs.OrderLaws.{cut_met}

-- all that is known of the file f of p
record IsFileOf (f : List ℕ) (p : ImageParts) : Type 0 where
  len : length f ≡ sections_from p + 240
  small : length f ≤ 33554432
  at : IsLaidOut p
  header : HasHeader f p.entry (sections_from p)
  text : IsProgram f 52 4096 p.text_at (length p.text) (length p.text) 5
  init : IsProgram f 84 (init_from p) p.init_at (length p.init) (length p.init + p.bss) 6
  row0 : IsRow f (sections_from p) 0 0 0 0 0
  row1 : IsRow f (sections_from p + 40) 1 1 6 4096 (length p.text)
  row2 : IsRow f (sections_from p + 40 + 40) 7 1 3 (init_from p) (length p.init)
  row3 : IsRow f (sections_from p + 40 + 40 + 40) 13 8 3 0 p.bss
  row4 : IsRow f (sections_from p + 40 + 40 + 40 + 40) 18 1 0 (sites_from p) (length p.sites)
  row5 : IsRow f (sections_from p + 40 + 40 + 40 + 40 + 40) 28 3 0 (names_from p) 38
  names_at : IsRow f (sections_from p + 200) 28 3 0 (names_from p) 38
  text_is : part f 4096 (length p.text) ≡ p.text
  init_is : part f (init_from p) (length p.init) ≡ p.init
  sites_is : part f (sites_from p) (length p.sites) ≡ p.sites
  names_is : part f (names_from p) 38 ≡ section_names

file_is : (p : ImageParts) → IsWritableImage p → HasLongs p → length (image_bytes p) ≤ 33554432 → IsFileOf (image_bytes p) p
file_is p fits longs small =
    let s = sections_from p in
    let numbers = numbers_fit p fits in
    record {
      len = length-file p;
      small = small;
      at = laid_out p;
      header = header_is p fits longs;
      text = text_program p numbers longs;
      init = init_program p numbers longs;
      row0 = null_row p s numbers (add-zero s);
      row1 = text_row p (s + 40) numbers refl;
      row2 = data_row p (s + 40 + 40) numbers (sym (add_assoc s 40 40));
      row3 = bss_row p (s + 40 + 40 + 40) numbers (omega arith);
      row4 = sites_row p (s + 40 + 40 + 40 + 40) numbers (omega arith);
      row5 = names_row p (s + 40 + 40 + 40 + 40 + 40) numbers (omega arith);
      names_at = names_row p (s + 200) numbers refl;
      text_is = text_part p;
      init_is = init_part p;
      sites_is = sites_part p;
      names_is = names_part p;
    }

-- ---- the tables

headers-are : (f : List ℕ) (p : ImageParts) → IsFileOf f p → headers f ≡ 52 ∷ 84 ∷ []
unfolding entries
headers-are f p is = rw (is.header.headers, is.header.programs) refl

six_rows : ℕ → List ℕ
six_rows s = s ∷ (s + 40) ∷ (s + 40 + 40) ∷ (s + 40 + 40 + 40) ∷ (s + 40 + 40 + 40 + 40) ∷ (s + 40 + 40 + 40 + 40 + 40) ∷ []

sections-are : (f : List ℕ) (p : ImageParts) → IsFileOf f p → sections f ≡ six_rows (sections_from p)
unfolding entries six_rows
sections-are f p is = rw (is.header.sections, is.header.section_count) refl

pub not_first : (p : ℕ → Bool) (x : ℕ) (xs : List ℕ) → p x ≡ false → find p xs ≡ None → find p (x ∷ xs) ≡ None
not_first p x xs not_here none = cond-false _ _ _ not_here ∙ none

none_of_rows : (p : ℕ → Bool) (s : ℕ) → p s ≡ false → p (s + 40) ≡ false → p (s + 40 + 40) ≡ false → p (s + 40 + 40 + 40) ≡ false
    → p (s + 40 + 40 + 40 + 40) ≡ false → p (s + 40 + 40 + 40 + 40 + 40) ≡ false → find p (six_rows s) ≡ None
unfolding six_rows
none_of_rows p s a b c d e g = rw (a, b, c, d, e, g) refl

kept : (p : ℕ → Bool) (x : ℕ) (xs ys : List ℕ) → p x ≡ true → filter p xs ≡ ys → filter p (x ∷ xs) ≡ x ∷ ys
kept p x xs ys here rest = cond-true _ _ _ here ∙ ap (λ (r : List ℕ). x ∷ r) rest

fourth_of_rows : (p : ℕ → Bool) (s : ℕ) → p s ≡ false → p (s + 40) ≡ false → p (s + 40 + 40) ≡ false → p (s + 40 + 40 + 40) ≡ false
    → p (s + 40 + 40 + 40 + 40) ≡ true → p (s + 40 + 40 + 40 + 40 + 40) ≡ false → filter p (six_rows s) ≡ (s + 40 + 40 + 40 + 40) ∷ []
unfolding six_rows
fourth_of_rows p s a b c d e g = rw (a, b, c, d, e, g) refl

-- ---- no part passes the end

pub neither_lower : (a b : Option ℕ) → a ≡ None → b ≡ None → (a or_lower b) ≡ None
neither_lower a b e g = rw (e, g) refl

null_stays : (f : List ℕ) (s n g o z : ℕ) → IsRow f s n 0 g o z → section_passes f s ≡ false
null_stays f s n g o z row = rw row.kind refl

pub bss_stays : (f : List ℕ) (s n g o z : ℕ) → IsRow f s n 8 g o z → section_passes f s ≡ false
bss_stays f s n g o z row = rw row.kind refl

bytes_stay : (f : List ℕ) (s n g o z : ℕ) → IsRow f s n 1 g o z → o + z ≤ length f → section_passes f s ≡ false
bytes_stay f s n g o z row le = rw (row.kind, row.offset, row.size) (le-ltb (length f) (o + z) le)

names_stay : (f : List ℕ) (s n g o z : ℕ) → IsRow f s n 3 g o z → o + z ≤ length f → section_passes f s ≡ false
names_stay f s n g o z row le = rw (row.kind, row.offset, row.size) (le-ltb (length f) (o + z) le)

program_stays : (f : List ℕ) (h o a z m g : ℕ) → IsProgram f h o a z m g → o + z ≤ length f → header_passes f h ≡ false
program_stays f h o a z m g row le = rw (row.offset, row.size) (le-ltb (length f) (o + z) le)

not_cut : (f : List ℕ) (p : ImageParts) → IsFileOf f p → cut f ≡ None
unfolding cut_in_turn
not_cut f p is =
    let at = is.at in
    let s = sections_from p in
    let a : header_cut f ≡ None = none_then (passes f 0 52) 0 (le-ltb (length f) 52 (omega arith)) in
    let b : header_table_cut f ≡ None = none_then (passes f (header_table f) (32 * header_count f)) (header_table f)
    (rw (is.header.headers, is.header.programs) (le-ltb (length f) 116 (omega arith))) in
    let c : section_table_cut f ≡ None = none_then (passes f (section_table f) (40 * section_count f)) (section_table f)
    (rw (is.header.sections, is.header.section_count) (le-ltb (length f) (s + 240) (omega arith))) in
    let d : header_part_cut f ≡ None =
    ap (part_begins f 4) (ap (find (header_passes f)) (headers-are f p is) ∙ not_first (header_passes f) 52 (84 ∷ [])
    (program_stays f 52 _ _ _ _ _ is.text (omega arith))
    (not_first (header_passes f) 84 [] (program_stays f 84 _ _ _ _ _ is.init (omega arith)) refl)) in
    let e : section_part_cut f ≡ None = ap (part_begins f 16) (ap (find (section_passes f)) (sections-are f p is)
    ∙ none_of_rows (section_passes f) s (null_stays f _ _ _ _ _ is.row0) (bytes_stay f _ _ _ _ _ is.row1 (omega arith))
    (bytes_stay f _ _ _ _ _ is.row2 (omega arith)) (bss_stays f _ _ _ _ _ is.row3) (bytes_stay f _ _ _ _ _ is.row4 (omega arith))
    (names_stay f _ _ _ _ _ is.row5 (omega arith))) in
    cut_met f ∙ neither (header_cut f)
    (option_or (header_table_cut f) (option_or (section_table_cut f) (option_or (header_part_cut f) (section_part_cut f)))) a
    (neither (header_table_cut f) (option_or (section_table_cut f) (option_or (header_part_cut f) (section_part_cut f))) b
    (neither (section_table_cut f) (option_or (header_part_cut f) (section_part_cut f)) c
    (neither (header_part_cut f) (section_part_cut f) d e)))

-- ---- program headers

loads-are : (f : List ℕ) (p : ImageParts) → IsFileOf f p → loads f ≡ Two 52 84
unfolding loads found
loads-are f p is =
    let both : filter (is_load f) (52 ∷ 84 ∷ []) ≡ 52 ∷ 84 ∷ [] =
    kept (is_load f) 52 (84 ∷ []) (84 ∷ []) (eq-eqb _ _ is.text.kind) (kept (is_load f) 84 [] [] (eq-eqb _ _ is.init.kind) refl) in
    ap (λ (xs : List ℕ). found (filter (is_load f) xs)) (headers-are f p is) ∙ ap found both

sizes-none : (f : List ℕ) (p : ImageParts) → IsFileOf f p → sizes f ≡ None
unfolding sizes memory_sizes
sizes-none f p is =
    let same : eqb (word32 f 72) (word32 f 68) ≡ true = eq-eqb _ _ (is.text.memory ∙ sym is.text.size) in
    let more : ltb (word32 f 104) (word32 f 100) ≡ false = rw (is.init.memory, is.init.size) (le-ltb _ _ (omega arith)) in
    let long : ltb 33554432 (length f) ≡ false = le-ltb _ _ is.small in
    rw (is.header.header_size, is.header.program_size, is.header.section_size, loads-are f p is, same, more, long) refl

order-none : (f : List ℕ) (p : ImageParts) → IsFileOf f p → order f (Two 52 84) ≡ None
unfolding order
order-none f p is = rw (is.text.flags, is.init.flags) refl

-- ---- sections

names-are : (f : List ℕ) (p : ImageParts) → IsFileOf f p → names f ≡ section_names
unfolding names strings_in contents
names-are f p is = rw (is.header.names, is.header.section_count, is.header.sections)
    (rw is.names_at.kind (rw (is.names_at.offset, is.names_at.size) is.names_is))

sites-are : (f : List ℕ) (p : ImageParts) → IsFileOf f p → sites_sections f ≡ One (sections_from p + 40 + 40 + 40 + 40)
unfolding sites_sections found
sites-are f p is =
    let q = is_sites section_names f in
    rw (names-are f p is, sections-are f p is)
    (ap found (fourth_of_rows q (sections_from p) (rw is.row0.kind refl) (rw (is.row1.kind, is.row1.name) refl)
    (rw (is.row2.kind, is.row2.name) refl) (rw (is.row3.kind, is.row3.name) refl) (rw (is.row4.kind, is.row4.name) refl)
    (rw (is.row5.kind, is.row5.name) refl)))

not_compressed : (f : List ℕ) (p : ImageParts) → IsFileOf f p → compressed f ≡ None
unfolding compressed
not_compressed f p is =
    ap (further 8) (ap (find (is_compressed f)) (sections-are f p is) ∙ none_of_rows (is_compressed f) (sections_from p)
    (rw is.row0.kind refl) (rw (is.row1.kind, is.row1.flags) refl) (rw (is.row2.kind, is.row2.flags) refl)
    (rw (is.row3.kind, is.row3.flags) refl) (rw (is.row4.kind, is.row4.flags) refl) (rw (is.row5.kind, is.row5.flags) refl))

all_named : (f : List ℕ) (p : ImageParts) → IsFileOf f p → nameless f ≡ None
unfolding nameless
all_named f p is =
    rw (names-are f p is, sections-are f p is)
    (none_of_rows (is_nameless section_names f) (sections_from p) (rw is.row0.kind refl) (rw (is.row1.kind, is.row1.name) refl)
    (rw (is.row2.kind, is.row2.name) refl) (rw (is.row3.kind, is.row3.name) refl) (rw (is.row4.kind, is.row4.name) refl)
    (rw (is.row5.kind, is.row5.name) refl))

form-none : (f : List ℕ) (p : ImageParts) → IsFileOf f p → section_form f ≡ None
unfolding section_form
form-none f p is = rw (loads-are f p is, sites-are f p is, order-none f p is) refl

-- ---- the whole

tests-pass : (f : List ℕ) (p : ImageParts) → IsFileOf f p → tested (wrong_image f) causes (image_at f) ≡ Ok
    (parts_at f 52 84 (sections_from p + 40 + 40 + 40 + 40))
unfolding tested wrong_image
tests-pass f p is =
    rw (
      not_cut f p is,
      is.header.magic,
      is.header.class,
      is.header.encoding,
      is.header.version,
      is.header.second_version,
      is.header.file_type,
      is.header.machine,
      sizes-none f p is,
      form-none f p is,
      not_compressed f p is,
      all_named f p is,
      loads-are f p is,
      sites-are f p is,
    ) refl

parts-are : (f : List ℕ) (p : ImageParts) → IsFileOf f p → parts_at f 52 84 (sections_from p + 40 + 40 + 40 + 40) ≡ p
unfolding parts_at contents
parts-are f p is =
    let left : length p.init + p.bss - length p.init ≡ p.bss = omega arith in
    rw (
      is.text.offset,
      is.text.size,
      is.init.offset,
      is.init.size,
      is.init.memory,
      is.header.entry,
      is.text.address,
      is.init.address,
      is.row4.kind,
      is.row4.offset,
      is.row4.size,
    ) (rw (is.text_is, is.init_is, is.sites_is, left) refl)

pub read_again : (p : ImageParts) → IsWritableImage p → HasLongs p → length (image_bytes p) ≤ 33554432 → image_in (image_bytes p) ≡ Ok p
unfolding image_in
read_again p fits longs small =
    let is = file_is p fits longs small in
    rw (tests-pass (image_bytes p) p is) (ap (λ (x : ImageParts). Ok x) (parts-are (image_bytes p) p is))
