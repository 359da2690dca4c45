-- The sections of a written object, and what each is read as.
use Rattle.std.proofs.Common.{◌≡◌, ℕ, ◌+◌, ◌/◌, Bool, true, false, cond, eqb, List, [], ◌∷◌, length, fold, map, refl, ap, ◌∙◌, arith}
use Rattle.std.specs.Prelude.{◌||◌, ◌==◌, filter}
use Rattle.std.specs.List.{flat_map}
use Rattle.std.proofs.lemmas.List.{append-nil}
use Rattle.std.proofs.lemmas.List.Sums.{length-filter}
use Rattle.elf_form.specs.declared.roles.Role.{Role}
use Rattle.elf_form.specs.declared.roles.Role.TheVariants as role
use Rattle.elf_form.specs.declared.object.Place.{Place}
use Rattle.elf_form.specs.declared.object.Place.TheVariants as place
use Rattle.elf_form.specs.ObjectParts.{ObjectParts}
use Rattle.guest_ram.specs.Bytes.{word32}
use Rattle.elf_form.specs.Tables.{entries, found}
use Rattle.elf_form.specs.Header.{headers, sections}
use Rattle.elf_form.specs.Sections.{contents, names, strings_in}
use Rattle.elf_form.specs.Roles.{role as role_of, role_number, is_kept, has_role, with_role, alignment, size, up, starts, joined_end, joined, with_section}
use Rattle.elf_form.specs.Symbols.{table_at, place_by, target_role, role_at, is_reloc_section_of, entry, relocs_in, relocs_of, start_at}
use Rattle.elf_form.specs.ObjectReading.{table_of, strings_of}
use Rattle.elf_form.specs.ObjectLayout.{layout, strings_of as names_table, is_of, place_number, object_names, symbol_table, reloc_table}
use Rattle.elf_form.proofs.ObjectBounds.{length-symbols, length-relocs}
use Rattle.elf_form.proofs.ObjectFile.{IsFileOf}

-- ---- the tables

unfoldable pub rows : ℕ → List ℕ
rows s = s ∷ (s + 40) ∷ (s + 80) ∷ (s + 120) ∷ (s + 160) ∷ (s + 200) ∷ (s + 240) ∷ (s + 280) ∷ (s + 320) ∷ (s + 360) ∷ []

ten_rows : (s : ℕ) → entries s 40 10 ≡ rows s
unfolding entries rows
ten_rows s =
    let a : s + 40 + 40 ≡ s + 80 = omega arith in
    let b : s + 80 + 40 ≡ s + 120 = omega arith in
    let c : s + 120 + 40 ≡ s + 160 = omega arith in
    let d : s + 160 + 40 ≡ s + 200 = omega arith in
    let e : s + 200 + 40 ≡ s + 240 = omega arith in
    let f : s + 240 + 40 ≡ s + 280 = omega arith in
    let g : s + 280 + 40 ≡ s + 320 = omega arith in
    let h : s + 320 + 40 ≡ s + 360 = omega arith in
    rw (a, b, c, d, e, f, g, h) refl

module _ (f : List ℕ) (o : ObjectParts) (is : IsFileOf f o) where
  pub headers-are : headers f ≡ []
  unfolding entries
  headers-are = rw is.header.programs refl

  pub sections-are : sections f ≡ rows (layout o).sections
  sections-are = rw (is.header.sections, is.header.section_count) (ten_rows (layout o).sections)

  pub names-are : names f ≡ object_names
  unfolding names strings_in contents
  names-are =
      rw (is.header.names, is.header.section_count, is.header.sections)
      (rw is.names.kind (rw (is.names.offset, is.names.size) is.names_are))

-- ---- what each is read as

pub record HasRoles (f : List ℕ) (t : ℕ) : Type 0 where
  pub null : role_of object_names f t ≡ role.Ignored
  pub text : role_of object_names f (t + 40) ≡ role.Text
  pub init : role_of object_names f (t + 80) ≡ role.Init
  pub bss : role_of object_names f (t + 120) ≡ role.Bss
  pub sites : role_of object_names f (t + 160) ≡ role.Sites
  pub text_relocs : role_of object_names f (t + 200) ≡ role.Relocs
  pub data_relocs : role_of object_names f (t + 240) ≡ role.Relocs
  pub symbols : role_of object_names f (t + 280) ≡ role.Symbols
  pub strings : role_of object_names f (t + 320) ≡ role.Ignored
  pub names : role_of object_names f (t + 360) ≡ role.Ignored

pub roles-are : (f : List ℕ) (o : ObjectParts) → IsFileOf f o → HasRoles f (layout o).sections
unfolding role_of
roles-are f o is = record {
  null = rw is.null.kind refl;
  text = rw (is.text.kind, is.text.name, is.text.flags) refl;
  init = rw (is.init.kind, is.init.name, is.init.flags) refl;
  bss = rw (is.bss.kind, is.bss.name, is.bss.flags) refl;
  sites = rw (is.sites.kind, is.sites.name) refl;
  text_relocs = rw (is.text_relocs.kind, is.text_relocs.name, is.text_relocs.flags) refl;
  data_relocs = rw (is.data_relocs.kind, is.data_relocs.name, is.data_relocs.flags) refl;
  symbols = rw (is.symbols.kind, is.symbols.name, is.symbols.flags) refl;
  strings = rw (is.strings.kind, is.strings.name, is.strings.flags) refl;
  names = rw (is.names.kind, is.names.name, is.names.flags) refl;
}

-- the same, in the order of the table
abbrev ten_roles : List Role
ten_roles =
    role.Ignored ∷ role.Text ∷ role.Init ∷ role.Bss ∷ role.Sites
    ∷ role.Relocs ∷ role.Relocs ∷ role.Symbols ∷ role.Ignored ∷ role.Ignored ∷ []

rows_read : (f : List ℕ) (t : ℕ) → HasRoles f t → map (role_of object_names f) (rows t) ≡ ten_roles
unfolding rows
rows_read f t has =
    rw (has.null, has.text, has.init, has.bss, has.sites, has.text_relocs, has.data_relocs, has.symbols, has.strings, has.names) refl

-- the sections that are read as one role
abbrev picked : Role → ℕ → List ℕ
picked role.Ignored t = t ∷ (t + 320) ∷ (t + 360) ∷ []
picked role.Sites t = (t + 160) ∷ []
picked role.Text t = (t + 40) ∷ []
picked role.Init t = (t + 80) ∷ []
picked role.Bss t = (t + 120) ∷ []
picked role.Foreign t = []
picked role.Symbols t = (t + 280) ∷ []
picked role.Relocs t = (t + 200) ∷ (t + 240) ∷ []

-- the elements at which a list of tests is true
keep : Bool → ℕ → List ℕ → List ℕ
keep true s rest = s ∷ rest
keep false s rest = rest

kept_where : List Bool → List ℕ → List ℕ
kept_where [] ss = []
kept_where (b ∷ bs) [] = []
kept_where (b ∷ bs) (s ∷ ss) = keep b s (kept_where bs ss)

keep_by : (b : Bool) (s : ℕ) (rest : List ℕ) → cond b (s ∷ rest) rest ≡ keep b s rest
unfolding keep
keep_by true s rest = refl
keep_by false s rest = refl

filter_by : (p : ℕ → Bool) (ss : List ℕ) → filter p ss ≡ kept_where (map p ss) ss
unfolding kept_where
filter_by p [] = refl
filter_by p (s ∷ ss) =
    ap (λ (rest : List ℕ). cond (p s) (s ∷ rest) rest) (filter_by p ss) ∙ keep_by (p s) s (kept_where (map p ss) ss)

filter_where : (p : ℕ → Bool) (ss : List ℕ) (bs : List Bool) → map p ss ≡ bs → filter p ss ≡ kept_where bs ss
filter_where p ss bs e = filter_by p ss ∙ ap (λ (tests : List Bool). kept_where tests ss) e

abbrev is_as : Role → Role → Bool
is_as r q = role_number q == role_number r

tested : (f : List ℕ) (t : ℕ) (r : Role) → HasRoles f t → map (has_role r object_names f) (rows t) ≡ map (is_as r) ten_roles
unfolding rows
tested f t r has = ap (map (is_as r)) (rows_read f t has)

kept_rows : (t : ℕ) (r : Role) → kept_where (map (is_as r) ten_roles) (rows t) ≡ picked r t
unfolding kept_where keep rows
kept_rows t role.Ignored = refl
kept_rows t role.Sites = refl
kept_rows t role.Text = refl
kept_rows t role.Init = refl
kept_rows t role.Bss = refl
kept_rows t role.Foreign = refl
kept_rows t role.Symbols = refl
kept_rows t role.Relocs = refl

picks : (f : List ℕ) (t : ℕ) (r : Role) → HasRoles f t → filter (has_role r object_names f) (rows t) ≡ picked r t
picks f t r has = filter_where (has_role r object_names f) (rows t) (map (is_as r) ten_roles) (tested f t r has) ∙ kept_rows t r

-- ---- the roles by their numbers

module _ (f : List ℕ) (o : ObjectParts) (is : IsFileOf f o) (has : HasRoles f (layout o).sections) where
  -- where the section headers begin
  abbrev t : ℕ
  t = (layout o).sections

  pub role_at-text : role_at object_names f 1 ≡ role.Text
  unfolding role_at
  role_at-text = rw (is.header.section_count, is.header.sections) has.text

  pub role_at-init : role_at object_names f 2 ≡ role.Init
  unfolding role_at
  role_at-init = rw (is.header.section_count, is.header.sections) has.init

  pub role_at-bss : role_at object_names f 3 ≡ role.Bss
  unfolding role_at
  role_at-bss = rw (is.header.section_count, is.header.sections) has.bss

  pub role_at-none : role_at object_names f 0 ≡ role.Ignored
  unfolding role_at
  role_at-none = refl

  pub role_at-symbols : role_at object_names f 7 ≡ role.Symbols
  unfolding role_at
  role_at-symbols = rw (is.header.section_count, is.header.sections) has.symbols

  pub text_target : target_role object_names f (t + 200) ≡ role.Text
  text_target = rw is.links.text_target role_at-text

  pub data_target : target_role object_names f (t + 240) ≡ role.Init
  data_target = rw is.links.data_target role_at-init

  pub with-role : (r : Role) → with_role r object_names f ≡ found (picked r t)
  unfolding with_role
  with-role r = rw (sections-are f o is) (ap found (picks f t r has))

  -- ---- the symbol table and its names

  symbol-bytes : contents f (t + 280) ≡ symbol_table o.symbols
  unfolding contents
  symbol-bytes = rw is.symbols.kind (rw (is.symbols.offset, is.symbols.size) is.symbols_are)

  pub table-is : table_of f ≡ record { section = t + 280; at = (layout o).symbols; count = length o.symbols + 1 }
  unfolding table_of found
  table-is =
      let count : length (contents f (t + 280)) / 16 ≡ length o.symbols + 1 =
      ap (λ (b : List ℕ). length b / 16) symbol-bytes ∙ omega (arith, length-symbols o.symbols) in
      ap (λ (ns : List ℕ). table_at f (with_role role.Symbols ns f)) (names-are f o is) ∙ ap (table_at f) (with-role role.Symbols)
      ∙ rw (is.symbols.offset, count) refl

  pub strings-are : strings_of f ≡ names_table o.symbols
  unfolding strings_of strings_in contents
  strings-are =
      rw table-is (rw is.links.table_link (rw (is.header.section_count, is.header.sections)
      (rw is.strings.kind (rw (is.strings.offset, is.strings.size) is.strings_are))))

  -- ---- the relocations

  text-bytes : contents f (t + 200) ≡ reloc_table true o.relocs
  unfolding contents
  text-bytes = rw is.text_relocs.kind (rw (is.text_relocs.offset, is.text_relocs.size) is.text_relocs_are)

  data-bytes : contents f (t + 240) ≡ reloc_table false o.relocs
  unfolding contents
  data-bytes = rw is.data_relocs.kind (rw (is.data_relocs.offset, is.data_relocs.size) is.data_relocs_are)

  -- the tests of the ten sections, by their roles and by what is relocated
  abbrev relocating : Role → List Bool
  relocating r =
      false ∷ false ∷ false ∷ false ∷ false ∷ is_as r role.Text ∷ is_as r role.Init ∷ false ∷ false ∷ false ∷ []

  relocs_tested : (r : Role) → map (is_reloc_section_of r object_names f) (rows t) ≡ relocating r
  unfolding rows
  relocs_tested r =
      rw (has.null, has.text, has.init, has.bss, has.sites, has.text_relocs, has.data_relocs, has.symbols, has.strings, has.names)
      (rw (text_target, data_target) refl)

  relocs-are : (r : Role) → relocs_of r object_names f ≡ flat_map (relocs_in f) (kept_where (relocating r) (rows t))
  unfolding relocs_of
  relocs-are r =
      let test : ℕ → Bool = is_reloc_section_of r object_names f in
      ap (λ (ss : List ℕ). flat_map (relocs_in f) (filter test ss)) (sections-are f o is)
      ∙ ap (flat_map (relocs_in f)) (filter_where test (rows t) (relocating r) (relocs_tested r))

  -- how many relocations there are of the text, or of the data
  abbrev count : Bool → ℕ
  count in_text = length (filter (is_of in_text) o.relocs)

  entries-are : (in_text : Bool) (s at : ℕ) → contents f s ≡ reloc_table in_text o.relocs → word32 f (s + 16) ≡ at
      → relocs_in f s ≡ map (entry s) (entries at 8 (count in_text))
  unfolding relocs_in
  entries-are in_text s at bytes offset =
      let n : length (contents f s) / 8 ≡ count in_text =
      ap (λ (b : List ℕ). length b / 8) bytes ∙ omega (arith, length-relocs in_text o.relocs, length-filter (is_of in_text) o.relocs) in
      rw (offset, n) refl

  pub text-relocs : relocs_of role.Text object_names f ≡ map (entry (t + 200)) (entries (layout o).text_relocs 8 (count true))
  unfolding rows kept_where keep
  text-relocs =
      relocs-are role.Text ∙ append-nil (relocs_in f (t + 200)) ∙ entries-are true (t + 200) _ text-bytes is.text_relocs.offset

  pub init-relocs : relocs_of role.Init object_names f ≡ map (entry (t + 240)) (entries (layout o).data_relocs 8 (count false))
  unfolding rows kept_where keep
  init-relocs =
      relocs-are role.Init ∙ append-nil (relocs_in f (t + 240)) ∙ entries-are false (t + 240) _ data-bytes is.data_relocs.offset

  pub bss-relocs : relocs_of role.Bss object_names f ≡ []
  unfolding rows kept_where keep
  bss-relocs = relocs-are role.Bss

  -- ---- where sections begin in what they are joined to

  nothing : ℕ → List ℕ
  nothing n = 0 ∷ 0 ∷ 0 ∷ 0 ∷ 0 ∷ 0 ∷ 0 ∷ 0 ∷ 0 ∷ 0 ∷ []

  init-starts : starts role.Init object_names f 0 (rows t) ≡ nothing 0
  unfolding starts rows nothing
  init-starts =
      rw (has.null, has.text, has.init, has.bss, has.sites, has.text_relocs, has.data_relocs, has.symbols, has.strings, has.names)
      (rw is.links.data_alignment refl)

  bss-starts : starts role.Bss object_names f 0 (rows t) ≡ nothing 0
  unfolding starts rows nothing
  bss-starts =
      rw (has.null, has.text, has.init, has.bss, has.sites, has.text_relocs, has.data_relocs, has.symbols, has.strings, has.names)
      (rw is.links.bss_alignment refl)

  pub place-read : (p : Place) → place_by (role_at object_names f (place_number p)) ≡ p
  place-read place.Undefined = rw role_at-none refl
  place-read place.Text = rw role_at-text refl
  place-read place.Init = rw role_at-init refl
  place-read place.Bss = rw role_at-bss refl

  pub place-kept : (p : Place) → (eqb (place_number p) 0 || is_kept (role_at object_names f (place_number p))) ≡ true
  place-kept place.Undefined = refl
  place-kept place.Text = rw role_at-text refl
  place-kept place.Init = rw role_at-init refl
  place-kept place.Bss = rw role_at-bss refl

  pub start-none : (p : Place) → start_at object_names f (place_number p) ≡ 0
  unfolding start_at nothing
  start-none place.Undefined = rw role_at-none refl
  start-none place.Text = rw role_at-text refl
  start-none place.Init = rw role_at-init (rw (sections-are f o is) (rw init-starts refl))
  start-none place.Bss = rw role_at-bss (rw (sections-are f o is) (rw bss-starts refl))

  -- ---- the data and the zeroed bytes

  init-bytes : contents f (t + 80) ≡ o.init
  unfolding contents
  init-bytes = rw is.init.kind (rw (is.init.offset, is.init.size) is.init_is)

  pub text_bytes : contents f (t + 40) ≡ o.text
  unfolding contents
  text_bytes = rw is.text.kind (rw (is.text.offset, is.text.size) is.text_is)

  pub sites_bytes : contents f (t + 160) ≡ o.sites
  unfolding contents
  sites_bytes = rw is.sites.kind (rw (is.sites.offset, is.sites.size) is.sites_is)

  pub joined-init : joined object_names f [] (rows t) ≡ o.init
  unfolding joined with_section
  joined-init = ap (fold (with_section f) []) (picks f t role.Init has) ∙ rw is.links.data_alignment init-bytes

  -- where a section ends, after an end
  abbrev ended : ℕ → ℕ → ℕ
  ended end s = up (alignment f s) end + size f s

  pub joined-bss : joined_end role.Bss object_names f 0 (rows t) ≡ o.bss
  unfolding joined_end
  joined-bss = ap (fold ended 0) (picks f t role.Bss has) ∙ rw (is.links.bss_alignment, is.bss.size) (omega arith)
