-- All that is known of the file of a whole object.
use Rattle.std.proofs.Common.{◌≡◌, ◌≢◌, ℕ, ◌+◌, ◌*◌, ◌<◌, ◌≤◌, ◌^◌, Bool, true, false, cond, List, ◌++◌, length, get_or, replicate, refl, sym, ap, ◌∙◌, subst, arith, append_assoc}
use Rattle.std.specs.Prelude.{All, count_by, filter}
use Rattle.std.specs.List.{flat_map, AllByRecursion}
use Rattle.std.proofs.lemmas.List.{length-append}
use Rattle.std.proofs.lemmas.List.Elements.{All-filter, filter_passes, All-from_recursion, recursion_from_All}
use Rattle.std.proofs.lemmas.Bool.{not-true}
use Rattle.guest_ram.specs.Bytes.{part}
use Rattle.elf_form.specs.declared.object.Symbol.{Symbol}
use Rattle.elf_form.specs.declared.object.Reloc.{Reloc}
use Rattle.elf_form.specs.ObjectParts.{ObjectParts}
use Rattle.elf_form.specs.StringTable.{table_bytes}
use Rattle.elf_form.specs.ObjectLayout.{layout, names_of, strings_of, is_of, symbol_bytes, symbol_table, reloc_table, object_names, object_bytes}
use Rattle.elf_form.specs.Writable.{IsPlaced, relocated_part, IsWritableObject, IsWholeObject, HasValues}
use Rattle.elf_form.proofs.FileWords.{IsRow}
use Rattle.elf_form.proofs.ObjectSizes.{ArePlaced, are_placed}
use Rattle.elf_form.proofs.ObjectBounds.{length-object}
use Rattle.elf_form.proofs.ObjectWords.{HasObjectHeader, header_is, HasLinks, links_are, numbers_fit, null_row, text_row, data_row, bss_row, sites_row, text_relocs_row, data_relocs_row, symbols_row, strings_row, names_row, text_part, init_part, sites_part, text_relocs_part, data_relocs_part, symbols_part, strings_part, names_part, before_text_relocs, after_text_relocs, file-text_relocs, length-before_text_relocs, before_data_relocs, after_data_relocs, file-data_relocs, length-before_data_relocs, before_symbols, after_symbols, file-symbols, length-before_symbols}
use Rattle.elf_form.proofs.EntryLists.{EachAt}
use Rattle.elf_form.proofs.NamePlaces.{HasPlace, IsRead, names_placed, name_read}
use Rattle.elf_form.proofs.WrittenEntries.{IsWholeSymbol, IsSymbolAt, symbols_written, IsWholeReloc, IsRelocAt, relocs_written}

-- ---- each symbol and each relocation

strings-table : (o : ObjectParts) → length (table_bytes (names_of o.symbols)) ≡ length (strings_of o.symbols)
unfolding strings_of
strings-table o = refl

whole_symbol : (names : List (List ℕ)) (s : Symbol) → length (table_bytes names) < 2 ^ 31 → HasPlace names s.name → All (λ b. b ≢ 0) s.name
    → s.value < 2 ^ 32 → IsPlaced s → IsWholeSymbol names s
whole_symbol names s small has none value placed =
    let read : IsRead names s.name = name_read names s.name has none in
    record { place = omega (arith, read.inside); value = value; read = read; undefined = placed }

whole_symbols : (o : ObjectParts) → IsWholeObject o → HasValues o → AllByRecursion (IsWholeSymbol (names_of o.symbols)) o.symbols
whole_symbols o whole values =
    let at = are_placed o in
    let small : length (table_bytes (names_of o.symbols)) < 2 ^ 31 =
    omega (arith, strings-table o, at.strings, at.names, whole.writable.file) in
    recursion_from_All (IsWholeSymbol (names_of o.symbols)) o.symbols
    (λ k d lt. whole_symbol (names_of o.symbols) (get_or o.symbols k d) small
    (All-from_recursion (λ s. HasPlace (names_of o.symbols) s.name) o.symbols (names_placed o.symbols) k d lt) (whole.names k d lt)
    (values.values k d lt) (whole.undefined k d lt))

whole_text : (o : ObjectParts) (r : Reloc) → is_of true r ≡ true → r.symbol < length o.symbols → r.at + 4 ≤ length (relocated_part o r)
    → IsWholeReloc true (length o.text) (length o.symbols) r
whole_text o r is symbol field =
    record { kind = is; field = subst (λ (b : Bool). r.at + 4 ≤ length (cond b o.text o.init)) is field; symbol = symbol }

whole_data : (o : ObjectParts) (r : Reloc) → is_of false r ≡ true → r.symbol < length o.symbols → r.at + 4 ≤ length (relocated_part o r)
    → IsWholeReloc false (length o.init) (length o.symbols) r
whole_data o r is symbol field = record {
  kind = not-true r.in_text is;
  field = subst (λ (b : Bool). r.at + 4 ≤ length (cond b o.text o.init)) (not-true r.in_text is) field;
  symbol = symbol;
}

whole_texts : (o : ObjectParts) → IsWholeObject o → AllByRecursion (IsWholeReloc true (length o.text) (length o.symbols))
    (filter (is_of true) o.relocs)
whole_texts o whole =
    let rs = filter (is_of true) o.relocs in
    recursion_from_All (IsWholeReloc true (length o.text) (length o.symbols)) rs
    (λ k d lt. whole_text o (get_or rs k d) (filter_passes (is_of true) o.relocs k d lt)
    (All-filter (is_of true) (λ r. r.symbol < length o.symbols) o.relocs whole.writable.named k d lt)
    (All-filter (is_of true) (λ r. r.at + 4 ≤ length (relocated_part o r)) o.relocs whole.fields k d lt))

whole_datas : (o : ObjectParts) → IsWholeObject o → AllByRecursion (IsWholeReloc false (length o.init) (length o.symbols))
    (filter (is_of false) o.relocs)
whole_datas o whole =
    let rs = filter (is_of false) o.relocs in
    recursion_from_All (IsWholeReloc false (length o.init) (length o.symbols)) rs
    (λ k d lt. whole_data o (get_or rs k d) (filter_passes (is_of false) o.relocs k d lt)
    (All-filter (is_of false) (λ r. r.symbol < length o.symbols) o.relocs whole.writable.named k d lt)
    (All-filter (is_of false) (λ r. r.at + 4 ≤ length (relocated_part o r)) o.relocs whole.fields k d lt))

-- ---- the file

pub record IsFileOf (f : List ℕ) (o : ObjectParts) : Type 0 where
  pub len : length f ≡ (layout o).sections + 400
  pub small : length f ≤ 33554432
  pub at : ArePlaced o
  pub fits : IsWritableObject o
  pub header : HasObjectHeader f (layout o).sections
  pub links : HasLinks f (layout o).sections
  pub null : IsRow f (layout o).sections 0 0 0 0 0
  pub text : IsRow f ((layout o).sections + 40) 1 1 6 52 (length o.text)
  pub init : IsRow f ((layout o).sections + 80) 7 1 3 (layout o).init (length o.init)
  pub bss : IsRow f ((layout o).sections + 120) 13 8 3 0 o.bss
  pub sites : IsRow f ((layout o).sections + 160) 18 1 0 (layout o).sites (length o.sites)
  pub text_relocs : IsRow f ((layout o).sections + 200) 28 9 0 (layout o).text_relocs (8 * count_by (is_of true) o.relocs)
  pub data_relocs : IsRow f ((layout o).sections + 240) 38 9 0 (layout o).data_relocs (8 * count_by (is_of false) o.relocs)
  pub symbols : IsRow f ((layout o).sections + 280) 48 2 0 (layout o).symbols (16 * (length o.symbols + 1))
  pub strings : IsRow f ((layout o).sections + 320) 56 3 0 (layout o).strings (length (strings_of o.symbols))
  pub names : IsRow f ((layout o).sections + 360) 64 3 0 (layout o).names 74
  pub text_is : part f 52 (length o.text) ≡ o.text
  pub init_is : part f (layout o).init (length o.init) ≡ o.init
  pub sites_is : part f (layout o).sites (length o.sites) ≡ o.sites
  pub text_relocs_are : part f (layout o).text_relocs (8 * count_by (is_of true) o.relocs) ≡ reloc_table true o.relocs
  pub data_relocs_are : part f (layout o).data_relocs (8 * count_by (is_of false) o.relocs) ≡ reloc_table false o.relocs
  pub symbols_are : part f (layout o).symbols (16 * (length o.symbols + 1)) ≡ symbol_table o.symbols
  pub strings_are : part f (layout o).strings (length (strings_of o.symbols)) ≡ strings_of o.symbols
  pub names_are : part f (layout o).names 74 ≡ object_names
  pub each_symbol : EachAt (IsSymbolAt (names_of o.symbols) f) 16 ((layout o).symbols + 16) o.symbols
  pub each_text : EachAt (IsRelocAt true (length o.text) (length o.symbols) f) 8 (layout o).text_relocs (filter (is_of true) o.relocs)
  pub each_data : EachAt (IsRelocAt false (length o.init) (length o.symbols) f) 8 (layout o).data_relocs (filter (is_of false) o.relocs)

symbols_in_file : (o : ObjectParts) → IsWholeObject o → HasValues o → EachAt (IsSymbolAt (names_of o.symbols) (object_bytes o)) 16
    ((layout o).symbols + 16) o.symbols
unfolding symbol_table
symbols_in_file o whole values =
    let before = before_symbols o ++ replicate 16 0 in
    let table = flat_map (symbol_bytes (names_of o.symbols)) o.symbols in
    let grouped : before ++ (table ++ after_symbols o) ≡ object_bytes o = append_assoc (before_symbols o) (replicate 16 0)
    (table ++ after_symbols o) ∙ ap (λ (t : List ℕ). before_symbols o ++ t) (sym (append_assoc (replicate 16 0) table (after_symbols o)))
    ∙ sym (file-symbols o) in
    let len : length before ≡ (layout o).symbols + 16 =
    length-append (before_symbols o) (replicate 16 0) ∙ ap (λ (n : ℕ). n + 16) (length-before_symbols o) in
    subst (λ (f : List ℕ). EachAt (IsSymbolAt (names_of o.symbols) f) 16 ((layout o).symbols + 16) o.symbols) grouped
    (symbols_written (names_of o.symbols) o.symbols before (after_symbols o) ((layout o).symbols + 16) len (whole_symbols o whole values))

texts_in_file : (o : ObjectParts) → IsWholeObject o → EachAt (IsRelocAt true (length o.text) (length o.symbols) (object_bytes o)) 8
    (layout o).text_relocs (filter (is_of true) o.relocs)
unfolding reloc_table
texts_in_file o whole =
    let at = are_placed o in
    let small : length o.text < 2 ^ 32 = omega (arith, whole.writable.file) in
    subst (λ (f : List ℕ). EachAt (IsRelocAt true (length o.text) (length o.symbols) f) 8 (layout o).text_relocs
    (filter (is_of true) o.relocs)) (sym (file-text_relocs o)) (relocs_written true (length o.text) (length o.symbols) small
    whole.writable.count (filter (is_of true) o.relocs) (before_text_relocs o) (after_text_relocs o) (layout o).text_relocs
    (length-before_text_relocs o) (whole_texts o whole))

datas_in_file : (o : ObjectParts) → IsWholeObject o → EachAt (IsRelocAt false (length o.init) (length o.symbols) (object_bytes o)) 8
    (layout o).data_relocs (filter (is_of false) o.relocs)
unfolding reloc_table
datas_in_file o whole =
    let at = are_placed o in
    let small : length o.init < 2 ^ 32 = omega (arith, whole.writable.file) in
    subst (λ (f : List ℕ). EachAt (IsRelocAt false (length o.init) (length o.symbols) f) 8 (layout o).data_relocs
    (filter (is_of false) o.relocs)) (sym (file-data_relocs o)) (relocs_written false (length o.init) (length o.symbols) small
    whole.writable.count (filter (is_of false) o.relocs) (before_data_relocs o) (after_data_relocs o) (layout o).data_relocs
    (length-before_data_relocs o) (whole_datas o whole))

pub file_is : (o : ObjectParts) → IsWholeObject o → HasValues o → length (object_bytes o) ≤ 33554432 → IsFileOf (object_bytes o) o
file_is o whole values small =
    let fits = whole.writable in
    let at = are_placed o in
    let numbers = numbers_fit o fits at in
    record {
      len = length-object o;
      small = small;
      at = at;
      fits = fits;
      header = header_is o fits;
      links = links_are o;
      null = null_row o numbers;
      text = text_row o numbers;
      init = data_row o numbers;
      bss = bss_row o numbers;
      sites = sites_row o numbers;
      text_relocs = text_relocs_row o numbers;
      data_relocs = data_relocs_row o numbers;
      symbols = symbols_row o numbers;
      strings = strings_row o numbers;
      names = names_row o numbers;
      text_is = text_part o;
      init_is = init_part o;
      sites_is = sites_part o;
      text_relocs_are = text_relocs_part o;
      data_relocs_are = data_relocs_part o;
      symbols_are = symbols_part o;
      strings_are = strings_part o;
      names_are = names_part o;
      each_symbol = symbols_in_file o whole values;
      each_text = texts_in_file o whole;
      each_data = datas_in_file o whole;
    }
