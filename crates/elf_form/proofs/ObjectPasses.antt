-- A written object passes the tests of its parts and of its sections.
use Rattle.std.proofs.Common.{◌≡◌, ℕ, ◌+◌, ◌*◌, ◌%◌, ◌<◌, ◌≤◌, Bool, true, false, ltb, List, length, None, refl, ap, ◌∙◌, arith, eq-eqb}
use Rattle.std.specs.Prelude.{count_by}
use Rattle.std.specs.List.{find}
use Rattle.std.specs.Option.{option_or}
use Rattle.std.proofs.lemmas.Bool.{le-ltb, lt-ltb, and_right}
use Rattle.plain_laws.proofs.Options.{neither, none_then}
use Rattle.guest_ram.specs.Bytes.{word32}
use Rattle.elf_form.specs.declared.roles.Role.TheVariants as role
use Rattle.elf_form.specs.declared.symbols.Table.{Table}
use Rattle.elf_form.specs.declared.symbols.SectionTest.TheVariants.{EntrySizes, Links}
use Rattle.elf_form.specs.ObjectParts.{ObjectParts}
use Rattle.elf_form.specs.Output.{pad}
use Rattle.elf_form.specs.Tables.{found, first_some, further}
use Rattle.elf_form.specs.Header.{passes, header_table, section_table, header_count, section_count, cut}
use Rattle.elf_form.specs.Cut.{header_passes, section_passes, part_begins, header_cut, header_table_cut, section_table_cut, header_part_cut, section_part_cut, cut_in_turn}
use Rattle.elf_form.specs.Sections.{is_nameless, is_compressed, compressed, nameless, has_strings}
use Rattle.elf_form.specs.Roles.{with_role, is_misaligned, misaligned, joined_fault}
use Rattle.elf_form.specs.Symbols.{section_test, sections_fault}
use Rattle.elf_form.specs.ObjectReading.{table_of, link_of, table_fault, inner_sizes, object_sizes, object_form, section_names_fault}
use Rattle.elf_form.specs.ObjectLayout.{layout, is_of, object_names}
use Rattle.elf_form.proofs.FileWords.{IsRow}
use Rattle.elf_form.proofs.RoundTrip.{bss_stays}
use Rattle.elf_form.proofs.ObjectFile.{IsFileOf}
use Rattle.elf_form.proofs.ObjectSections.{rows, headers-are, sections-are, names-are, HasRoles, with-role, table-is, text_target, data_target, role_at-symbols}
use Rattle.elf_form.proofs.OrderLaws.{cut_met}

-- ---- no part passes the end

none_of_ten : (p : ℕ → Bool) (s : ℕ) → p s ≡ false → p (s + 40) ≡ false → p (s + 80) ≡ false → p (s + 120) ≡ false → p (s + 160) ≡ false
    → p (s + 200) ≡ false → p (s + 240) ≡ false → p (s + 280) ≡ false → p (s + 320) ≡ false → p (s + 360) ≡ false → find p (rows s) ≡ None
unfolding rows
none_of_ten p s a b c d e g h i j k = rw (a, b, c, d, e, g, h, i, j, k) refl

stays : (f : List ℕ) (s n k g o z : ℕ) → IsRow f s n k g o z → o + z ≤ length f → section_passes f s ≡ false
stays f s n k g o z row le = rw (row.offset, row.size) (and_right _ _ (le-ltb (length f) (o + z) le))

pub not_cut : (f : List ℕ) (o : ObjectParts) → IsFileOf f o → cut f ≡ None
unfolding cut_in_turn
not_cut f o is =
    let at = is.at in
    let s = (layout o).sections in
    let a : header_cut f ≡ None = none_then (passes f 0 52) 0 (le-ltb (length f) 52 (omega arith)) in
    let b : header_table_cut f ≡ None = none_then (passes f (header_table f) (32 * header_count f)) (header_table f)
    (rw (is.header.headers, is.header.programs) (le-ltb (length f) 0 (omega arith))) in
    let c : section_table_cut f ≡ None = none_then (passes f (section_table f) (40 * section_count f)) (section_table f)
    (rw (is.header.sections, is.header.section_count) (le-ltb (length f) (s + 400) (omega arith))) in
    let d : header_part_cut f ≡ None = ap (part_begins f 4) (ap (find (header_passes f)) (headers-are f o is)) in
    let e : section_part_cut f ≡ None = ap (part_begins f 16) (ap (find (section_passes f)) (sections-are f o is)
    ∙ none_of_ten (section_passes f) s (stays f _ _ _ _ _ _ is.null (omega arith)) (stays f _ _ _ _ _ _ is.text (omega arith))
    (stays f _ _ _ _ _ _ is.init (omega arith)) (bss_stays f _ _ _ _ _ is.bss) (stays f _ _ _ _ _ _ is.sites (omega arith))
    (stays f _ _ _ _ _ _ is.text_relocs (omega arith)) (stays f _ _ _ _ _ _ is.data_relocs (omega arith))
    (stays f _ _ _ _ _ _ is.symbols (omega arith)) (stays f _ _ _ _ _ _ is.strings (omega arith))
    (stays f _ _ _ _ _ _ is.names (omega arith))) in
    cut_met f ∙ neither (header_cut f)
    (option_or (header_table_cut f) (option_or (section_table_cut f) (option_or (header_part_cut f) (section_part_cut f)))) a
    (neither (header_table_cut f) (option_or (section_table_cut f) (option_or (header_part_cut f) (section_part_cut f))) b
    (neither (section_table_cut f) (option_or (header_part_cut f) (section_part_cut f)) c
    (neither (header_part_cut f) (section_part_cut f) d e)))

-- ---- sizes

whole_pages : (n : ℕ) → n < 2147483648 → ltb (0 + (n + pad 4096 n)) 4294967296 ≡ true
whole_pages n lt = lt-ltb _ _ (omega arith)

whole_entries : (n : ℕ) → 16 * n % 16 ≡ 0
whole_entries n = omega arith

whole_eights : (n : ℕ) → 8 * n % 8 ≡ 0
whole_eights n = omega arith

module _ (f : List ℕ) (o : ObjectParts) (is : IsFileOf f o) (has : HasRoles f (layout o).sections) where
  init_joins : joined_fault role.Init object_names f 0 (rows (layout o).sections) ≡ None
  unfolding joined_fault rows
  init_joins =
      let small : length o.init < 2147483648 = omega (arith, is.fits.memory) in
      let fits : ltb (0 + (word32 f ((layout o).sections + 80 + 20) + pad 4096 (word32 f ((layout o).sections + 80 + 20)))) 4294967296
      ≡ true = rw is.init.size (whole_pages (length o.init) small) in
      rw (
        has.null,
        has.text,
        has.init,
        has.bss,
        has.sites,
        has.text_relocs,
        has.data_relocs,
        has.symbols,
        has.strings,
        has.names,
        fits,
      ) refl

  bss_joins : joined_fault role.Bss object_names f 0 (rows (layout o).sections) ≡ None
  unfolding joined_fault rows
  bss_joins =
      let small : o.bss < 2147483648 = omega (arith, is.fits.memory) in
      let fits : ltb (0 + (word32 f ((layout o).sections + 120 + 20) + pad 4096 (word32 f ((layout o).sections + 120 + 20)))) 4294967296
      ≡ true = rw is.bss.size (whole_pages o.bss small) in
      rw (
        has.null,
        has.text,
        has.init,
        has.bss,
        has.sites,
        has.text_relocs,
        has.data_relocs,
        has.symbols,
        has.strings,
        has.names,
        fits,
      ) refl

  reloc_sizes : (table : Table) → first_some (section_test EntrySizes table object_names f) (rows (layout o).sections) ≡ None
  unfolding first_some rows
  reloc_sizes table =
      rw (
        has.null,
        has.text,
        has.init,
        has.bss,
        has.sites,
        has.text_relocs,
        has.data_relocs,
        has.symbols,
        has.strings,
        has.names,
        text_target f o is has,
        data_target f o is has,
      ) (rw (
        is.text_relocs.size,
        is.data_relocs.size,
        is.links.text_entry,
        is.links.data_entry,
        whole_eights (count_by (is_of true) o.relocs),
        whole_eights (count_by (is_of false) o.relocs),
      ) refl)

  table_sizes : table_fault f (with_role role.Symbols object_names f) ≡ None
  unfolding found
  table_sizes =
      rw (with-role f o is has role.Symbols) (rw (is.symbols.size, is.links.table_entry, whole_entries (length o.symbols + 1)) refl)

  pub sizes-none : object_sizes f ≡ None
  unfolding object_sizes inner_sizes sections_fault
  sizes-none =
      let long : ltb 33554432 (length f) ≡ false = le-ltb _ _ is.small in
      rw (is.header.header_size, is.header.section_size, names-are f o is, sections-are f o is)
      (rw (init_joins, bss_joins, table_sizes, reloc_sizes (table_of f), long) refl)

  -- ---- sections

  aligned : find (is_misaligned object_names f) (rows (layout o).sections) ≡ None
  unfolding rows
  aligned = rw (
    has.null,
    has.text,
    has.init,
    has.bss,
    has.sites,
    has.text_relocs,
    has.data_relocs,
    has.symbols,
    has.strings,
    has.names,
    is.links.data_alignment,
    is.links.bss_alignment,
  ) refl

  pub form-none : object_form f ≡ None
  unfolding object_form misaligned found
  form-none = rw (names-are f o is) (rw (
    with-role f o is has role.Foreign,
    with-role f o is has role.Text,
    with-role f o is has role.Sites,
    sections-are f o is,
    aligned,
  ) refl)

  pub not_compressed : compressed f ≡ None
  unfolding compressed
  not_compressed =
      ap (further 8) (ap (find (is_compressed f)) (sections-are f o is) ∙ none_of_ten (is_compressed f) (layout o).sections
      (rw is.null.kind refl) (rw (is.text.kind, is.text.flags) refl) (rw (is.init.kind, is.init.flags) refl)
      (rw (is.bss.kind, is.bss.flags) refl) (rw (is.sites.kind, is.sites.flags) refl) (rw (is.text_relocs.kind, is.text_relocs.flags) refl)
      (rw (is.data_relocs.kind, is.data_relocs.flags) refl) (rw (is.symbols.kind, is.symbols.flags) refl)
      (rw (is.strings.kind, is.strings.flags) refl) (rw (is.names.kind, is.names.flags) refl))

  -- ---- names

  all_named : nameless f ≡ None
  unfolding nameless
  all_named =
      rw (names-are f o is, sections-are f o is)
      (none_of_ten (is_nameless object_names f) (layout o).sections (rw is.null.kind refl) (rw (is.text.kind, is.text.name) refl)
      (rw (is.init.kind, is.init.name) refl) (rw (is.bss.kind, is.bss.name) refl) (rw (is.sites.kind, is.sites.name) refl)
      (rw (is.text_relocs.kind, is.text_relocs.name) refl) (rw (is.data_relocs.kind, is.data_relocs.name) refl)
      (rw (is.symbols.kind, is.symbols.name) refl) (rw (is.strings.kind, is.strings.name) refl) (rw (is.names.kind, is.names.name) refl))

  pub section_names-none : section_names_fault f ≡ None
  section_names-none = rw (is.header.names, is.header.section_count, is.header.sections) (rw is.names.kind all_named)

  pub has_names : has_strings f (link_of f) ≡ true
  has_names = rw (table-is f o is has) (rw is.links.table_link (rw (is.header.section_count, is.header.sections) (rw is.strings.kind refl)))

  -- ---- links

  pub links-none : sections_fault Links (table_of f) object_names f ≡ None
  unfolding sections_fault first_some rows
  links-none =
      rw (sections-are f o is, table-is f o is has) (rw (
        has.null,
        has.text,
        has.init,
        has.bss,
        has.sites,
        has.text_relocs,
        has.data_relocs,
        has.symbols,
        has.strings,
        has.names,
        text_target f o is has,
        data_target f o is has,
      ) (rw (
        is.links.text_link,
        is.links.data_link,
        is.header.sections,
        role_at-symbols f o is has,
        eq-eqb ((layout o).sections + 280) ((layout o).sections + 280) refl,
      ) refl))
