-- A written object is read again.
use Rattle.std.proofs.Common.{◌≡◌, ℕ, ◌+◌, ◌*◌, ◌-◌, ◌/◌, ◌%◌, ◌<◌, ◌≤◌, ◌^◌, Bool, true, false, cond, eqb, ltb, not, List, [], ◌++◌, length, get_or, map, Option, None, Ok, refl, ◌∙◌, subst, arith}
use Rattle.std.specs.Prelude.{◌||◌, filter}
use Rattle.std.specs.Bool.{then_some}
use Rattle.std.proofs.lemmas.Bool.{le-ltb, lt-ltb}
use Rattle.guest_ram.specs.Bytes.{word32}
use Rattle.elf_form.specs.declared.object.Place.TheVariants as place
use Rattle.elf_form.specs.declared.object.Symbol.{Symbol}
use Rattle.elf_form.specs.declared.object.Reloc.{Reloc}
use Rattle.elf_form.specs.declared.roles.Role.TheVariants as role
use Rattle.elf_form.specs.declared.symbols.SymbolTest.TheVariants.{Names, Globals}
use Rattle.elf_form.specs.declared.symbols.RelocTest.{RelocTest}
use Rattle.elf_form.specs.declared.symbols.RelocTest.TheVariants.{Named, Form}
use Rattle.elf_form.specs.ObjectParts.{ObjectParts}
use Rattle.elf_form.specs.Faults.{tested}
use Rattle.elf_form.specs.Tables.{entries, found}
use Rattle.elf_form.specs.Roles.{role_number}
use Rattle.elf_form.specs.Symbols.{is_file, symbols_of, has_binding, has_place, is_listed, symbol_fault, global_fault, target, target_role, entry, named_symbol, has_symbol, symbol_of, size_at, named_fault, form_fault, symbols_fault, reloc_test, relocs_fault, relocs_of, start_at, symbol_at, symbols_in, numbers, reloc_at}
use Rattle.elf_form.specs.Sections.{is_unnamed}
use Rattle.elf_form.specs.ObjectReading.{table_of, strings_of, string_places, kept_relocs, symbol_form, reloc_form, object_at, wrong_object, object_in}
use Rattle.elf_form.specs.ObjectLayout.{layout, names_of, strings_of as names_table, is_of, place_number, object_names, object_bytes}
use Rattle.elf_form.specs.Writable.{IsWholeObject, HasValues}
use Rattle.elf_form.proofs.RoundTrip.{neither_lower}
use Rattle.elf_form.proofs.EntryLists.{EachAt, each-weaker, each-at, first_some-each, listed-each, map-each, lowest-each, numbers-each}
use Rattle.elf_form.proofs.WrittenEntries.{IsSymbolAt, IsRelocAt}
use Rattle.elf_form.proofs.ObjectFile.{IsFileOf, file_is}
use Rattle.elf_form.proofs.ObjectSections.{sections-are, names-are, HasRoles, roles-are, with-role, table-is, strings-are, text_target, data_target, text-relocs, init-relocs, bss-relocs, start-none, place-read, place-kept, text_bytes, sites_bytes, joined-init, joined-bss}
use Rattle.elf_form.proofs.ObjectPasses.{not_cut, sizes-none, form-none, not_compressed, section_names-none, has_names, links-none}

-- ---- one symbol

never_file : (b : Bool) → eqb (cond b 16 0 % 16) 4 ≡ false
never_file true = refl
never_file false = refl

always_bound : (b : Bool) → ltb (cond b 16 0 / 16) 2 ≡ true
always_bound true = refl
always_bound false = refl

global_read : (b : Bool) → eqb (cond b 16 0 / 16) 1 ≡ b
global_read true = refl
global_read false = refl

either_none : (b : Bool) (o : Option ℕ) → o ≡ None → cond b None o ≡ None
either_none true o e = refl
either_none false o e = e

-- ---- one relocation

number_there : (n : ℕ) (b : Bool) → (256 * (n + 1) + cond b 2 1) / 256 ≡ n + 1
number_there n true = omega arith
number_there n false = omega arith

kind_there : (n : ℕ) (b : Bool) → (256 * (n + 1) + cond b 2 1) % 256 ≡ cond b 2 1
kind_there n true = omega arith
kind_there n false = omega arith

relative_read : (b : Bool) → eqb (cond b 2 1) 2 ≡ b
relative_read true = refl
relative_read false = refl

either_kind : (b : Bool) (at : ℕ) → then_some (not (eqb (cond b 2 1) 1 || eqb (cond b 2 1) 2) || false) at ≡ None
either_kind true at = refl
either_kind false at = refl

no_symbol : Symbol
no_symbol = record { name = []; place = place.Undefined; value = 0; global = true }

module _ (f : List ℕ) (o : ObjectParts) (is : IsFileOf f o) (has : HasRoles f (layout o).sections) where
  module _ (y : ℕ) (s : Symbol) (at : IsSymbolAt (names_of o.symbols) f y s) where
    no_file : is_file f y ≡ false
    no_file = rw at.binding (never_file s.global)

    bound : has_binding f y ≡ true
    bound = rw at.binding (always_bound s.global)

    placed : has_place object_names f y ≡ true
    placed = rw at.section (place-kept f o is has s.place)

    listed : is_listed object_names f y ≡ true
    listed = rw (no_file, bound, placed) refl

    symbol-none : symbol_fault object_names f y ≡ None
    unfolding symbol_fault
    symbol-none = rw (no_file, bound, placed) refl

    global-none : global_fault object_names f y ≡ None
    global-none = either_none _ _ symbol-none

    named : is_unnamed (names_table o.symbols) f y ≡ false
    unfolding names_table
    named = rw at.name (rw at.whole.read.ended refl)

    value_read : (start_at object_names f (place_number s.place) + s.value) % 2 ^ 32 ≡ s.value
    value_read =
        let small : s.value < 2 ^ 32 = at.whole.value in
        rw (start-none f o is has s.place) (omega arith)

    symbol-read : symbol_at (names_table o.symbols) object_names f y ≡ s
    unfolding symbol_at names_table
    symbol-read = rw (at.name, at.section, at.value, at.binding)
        (rw (at.whole.read.read, place-read f o is has s.place, value_read, global_read s.global) refl)

  -- ---- the symbols

  Each : (ℕ → Symbol → Type 0) → Type 0
  Each P = EachAt P 16 ((layout o).symbols + 16) o.symbols

  behind-null : symbols_of (table_of f) ≡ entries ((layout o).symbols + 16) 16 (length o.symbols)
  behind-null =
      let one : length o.symbols + 1 - 1 ≡ length o.symbols = omega arith in
      rw (table-is f o is has) (rw one refl)

  symbol_names-none : symbols_fault Names (table_of f) (strings_of f) object_names f ≡ None
  unfolding symbols_fault
  symbol_names-none =
      rw (strings-are f o is has, behind-null)
      (first_some-each _ 16 ((layout o).symbols + 16) o.symbols
      (each-weaker (IsSymbolAt (names_of o.symbols) f) _ 16 ((layout o).symbols + 16) o.symbols
      (λ y s at. rw (named y s at) refl) is.each_symbol))

  globals-none : symbols_fault Globals (table_of f) (strings_of f) object_names f ≡ None
  unfolding symbols_fault
  globals-none =
      rw (strings-are f o is has, behind-null)
      (first_some-each _ 16 ((layout o).symbols + 16) o.symbols
      (each-weaker (IsSymbolAt (names_of o.symbols) f) _ 16 ((layout o).symbols + 16) o.symbols
      (λ y s at. global-none y s at) is.each_symbol))

  symbols-read : symbols_in (table_of f) (strings_of f) object_names f ≡ o.symbols
  unfolding symbols_in
  symbols-read =
      rw (strings-are f o is has, behind-null)
      (listed-each _ _ 16 ((layout o).symbols + 16) o.symbols
      (each-weaker (IsSymbolAt (names_of o.symbols) f) _ 16 ((layout o).symbols + 16) o.symbols
      (λ y s at. (listed y s at, symbol-read y s at)) is.each_symbol))

  number-read : (i : ℕ) → i < length o.symbols → get_or (numbers object_names f 0 (symbols_of (table_of f))) i 0 ≡ i
  number-read i lt =
      rw behind-null (numbers-each object_names f 0 16 ((layout o).symbols + 16) o.symbols i
      (each-weaker (IsSymbolAt (names_of o.symbols) f) _ 16 ((layout o).symbols + 16) o.symbols (λ y s at. listed y s at) is.each_symbol) lt
      ∙ omega arith)

  names-none : string_places f ≡ None
  unfolding string_places found
  names-none = rw (section_names-none f o is has)
      (rw (names-are f o is) (rw (with-role f o is has role.Symbols) (rw (has_names f o is has) (rw (names-are f o is) symbol_names-none))))

  -- ---- one relocation

  -- what is known of the section that the relocations of the section at s are for
  record IsTarget (s : ℕ) (in_text : Bool) (size : ℕ) : Type 0 where
    sized : size_at f (target f s) ≡ size
    start : start_at object_names f (target f s) ≡ 0
    not_bss : eqb (role_number (target_role object_names f s)) 4 ≡ false
    is_text : eqb (role_number (target_role object_names f s)) 2 ≡ in_text

  text-target : IsTarget ((layout o).sections + 200) true (length o.text)
  unfolding size_at
  text-target = record {
    sized = rw is.links.text_target (rw (is.header.section_count, is.header.sections) is.text.size);
    start = rw is.links.text_target (start-none f o is has place.Text);
    not_bss = rw (text_target f o is has) refl;
    is_text = rw (text_target f o is has) refl;
  }

  data-target : IsTarget ((layout o).sections + 240) false (length o.init)
  unfolding size_at
  data-target = record {
    sized = rw is.links.data_target (rw (is.header.section_count, is.header.sections) is.init.size);
    start = rw is.links.data_target (start-none f o is has place.Init);
    not_bss = rw (data_target f o is has) refl;
    is_text = rw (data_target f o is has) refl;
  }

  module _ (s : ℕ) (in_text : Bool) (size : ℕ) (to : IsTarget s in_text size) (small : size < 2 ^ 31) (y : ℕ) (r : Reloc)
      (at : IsRelocAt in_text size (length o.symbols) f y r) where
    number-is : named_symbol f y ≡ r.symbol + 1
    number-is = rw at.info (number_there r.symbol r.relative)

    kind-is : word32 f (y + 4) % 256 ≡ cond r.relative 2 1
    kind-is = rw at.info (kind_there r.symbol r.relative)

    has-symbol : has_symbol (table_of f) f y ≡ true
    has-symbol =
        let lt : r.symbol < length o.symbols = at.whole.symbol in
        let nonzero : eqb (r.symbol + 1) 0 ≡ false = grind arith in
        let below : ltb (r.symbol + 1) (length o.symbols + 1) ≡ true = lt-ltb _ _ (omega arith) in
        rw (table-is f o is has, number-is, nonzero, below) refl

    its-symbol : IsSymbolAt (names_of o.symbols) f (symbol_of (table_of f) f y) (get_or o.symbols r.symbol no_symbol)
    its-symbol =
        let there : IsSymbolAt (names_of o.symbols) f ((layout o).symbols + 16 + 16 * r.symbol) (get_or o.symbols r.symbol no_symbol) =
        each-at (IsSymbolAt (names_of o.symbols) f) 16 ((layout o).symbols + 16) o.symbols r.symbol no_symbol
        at.whole.symbol is.each_symbol in
        let place : (layout o).symbols + 16 + 16 * r.symbol ≡ (layout o).symbols + 16 * (r.symbol + 1) = omega arith in
        rw (table-is f o is has, number-is)
        (subst (λ (z : ℕ). IsSymbolAt (names_of o.symbols) f z (get_or o.symbols r.symbol no_symbol)) place there)

    named-none : named_fault (table_of f) object_names f y ≡ None
    named-none = rw has-symbol (symbol-none _ _ its-symbol)

    form-none' : form_fault (table_of f) object_names f (entry s y) ≡ None
    form-none' =
        let inside : ltb size (r.at + 4) ≡ false = le-ltb _ _ at.whole.field in
        let not_file : is_file f (symbol_of (table_of f) f y) ≡ false = no_file _ _ its-symbol in
        rw (to.not_bss, to.sized, at.at, inside, kind-is, has-symbol, not_file) (either_kind r.relative (y + 4))

    reloc-read : reloc_at (numbers object_names f 0 (symbols_of (table_of f))) object_names f (entry s y) ≡ r
    unfolding reloc_at
    reloc-read =
        let field : r.at + 4 ≤ size = at.whole.field in
        let place : (0 + r.at) % 2 ^ 32 ≡ r.at = omega arith in
        let left : r.symbol + 1 - 1 ≡ r.symbol = omega arith in
        rw (
          to.is_text,
          to.start,
          at.at,
          place,
          number-is,
          left,
          number-read r.symbol at.whole.symbol,
          kind-is,
          relative_read r.relative,
          ← at.whole.kind,
        ) refl

  -- ---- the relocations

  text_small : length o.text < 2 ^ 31
  text_small =
      let at = is.at in
      omega (arith, is.fits.file)

  init_small : length o.init < 2 ^ 31
  init_small = omega (arith, is.fits.memory)

  text_test : (test : RelocTest) (y : ℕ) (r : Reloc) → IsRelocAt true (length o.text) (length o.symbols) f y r
      → reloc_test test (table_of f) object_names f (entry ((layout o).sections + 200) y) ≡ None
  text_test Named y r at = named-none ((layout o).sections + 200) true (length o.text) text-target text_small y r at
  text_test Form y r at = form-none' ((layout o).sections + 200) true (length o.text) text-target text_small y r at

  data_test : (test : RelocTest) (y : ℕ) (r : Reloc) → IsRelocAt false (length o.init) (length o.symbols) f y r
      → reloc_test test (table_of f) object_names f (entry ((layout o).sections + 240) y) ≡ None
  data_test Named y r at = named-none ((layout o).sections + 240) false (length o.init) data-target init_small y r at
  data_test Form y r at = form-none' ((layout o).sections + 240) false (length o.init) data-target init_small y r at

  texts-none : (test : RelocTest) → relocs_fault test (table_of f) object_names f (relocs_of role.Text object_names f) ≡ None
  unfolding relocs_fault
  texts-none test =
      rw (text-relocs f o is has)
      (lowest-each _ _ 8 (layout o).text_relocs (filter (is_of true) o.relocs)
      (each-weaker (IsRelocAt true (length o.text) (length o.symbols) f) _ 8 (layout o).text_relocs (filter (is_of true) o.relocs)
      (text_test test) is.each_text))

  datas-none : (test : RelocTest) → relocs_fault test (table_of f) object_names f (relocs_of role.Init object_names f) ≡ None
  unfolding relocs_fault
  datas-none test =
      rw (init-relocs f o is has)
      (lowest-each _ _ 8 (layout o).data_relocs (filter (is_of false) o.relocs)
      (each-weaker (IsRelocAt false (length o.init) (length o.symbols) f) _ 8 (layout o).data_relocs (filter (is_of false) o.relocs)
      (data_test test) is.each_data))

  zeros-none : (test : RelocTest) → relocs_fault test (table_of f) object_names f (relocs_of role.Bss object_names f) ≡ None
  unfolding relocs_fault
  zeros-none test = rw (bss-relocs f o is has) refl

  kept-none : (test : RelocTest) → kept_relocs test f ≡ None
  kept-none test = rw (names-are f o is) (rw (texts-none test, datas-none test, zeros-none test) refl)

  pub symbols-pass : symbol_form f ≡ None
  unfolding symbol_form
  symbols-pass = neither_lower _ _ (rw (names-are f o is) globals-none) (kept-none Named)

  pub relocs-pass : reloc_form f ≡ None
  unfolding reloc_form
  relocs-pass = neither_lower _ _ (rw (names-are f o is) (links-none f o is has)) (kept-none Form)

  texts-read : map (reloc_at (numbers object_names f 0 (symbols_of (table_of f))) object_names f) (relocs_of role.Text object_names f)
      ≡ filter (is_of true) o.relocs
  texts-read =
      rw (text-relocs f o is has)
      (map-each _ _ 8 (layout o).text_relocs (filter (is_of true) o.relocs)
      (each-weaker (IsRelocAt true (length o.text) (length o.symbols) f) _ 8 (layout o).text_relocs (filter (is_of true) o.relocs)
      (λ y r at. reloc-read ((layout o).sections + 200) true (length o.text) text-target text_small y r at) is.each_text))

  datas-read : map (reloc_at (numbers object_names f 0 (symbols_of (table_of f))) object_names f) (relocs_of role.Init object_names f)
      ≡ filter (is_of false) o.relocs
  datas-read =
      rw (init-relocs f o is has)
      (map-each _ _ 8 (layout o).data_relocs (filter (is_of false) o.relocs)
      (each-weaker (IsRelocAt false (length o.init) (length o.symbols) f) _ 8 (layout o).data_relocs (filter (is_of false) o.relocs)
      (λ y r at. reloc-read ((layout o).sections + 240) false (length o.init) data-target init_small y r at) is.each_data))

  -- ---- the whole

  parts-are : o.relocs ≡ filter (is_of true) o.relocs ++ filter (is_of false) o.relocs → object_at f ≡ o
  unfolding object_at found
  parts-are ordered =
      let bss : o.bss % 2 ^ 32 ≡ o.bss = omega (arith, is.fits.memory) in
      rw (names-are f o is) (rw (with-role f o is has role.Text, with-role f o is has role.Sites, sections-are f o is)
      (rw (
        text_bytes f o is has,
        sites_bytes f o is has,
        joined-init f o is has,
        joined-bss f o is has,
        bss,
        symbols-read,
        texts-read,
        datas-read,
        ← ordered,
      ) refl))

  read-as : o.relocs ≡ filter (is_of true) o.relocs ++ filter (is_of false) o.relocs → object_in f ≡ Ok o
  unfolding object_in tested wrong_object
  read-as ordered =
      rw (
        not_cut f o is,
        is.header.magic,
        is.header.class,
        is.header.encoding,
        is.header.version,
        is.header.second_version,
        is.header.file_type,
        is.header.machine,
        sizes-none f o is has,
        form-none f o is has,
        not_compressed f o is has,
        names-none,
        symbols-pass,
        relocs-pass,
        parts-are ordered,
      ) refl

-- The same object: its text, data and zeroed bytes, its annotations, its symbols and its relocations in their order.
pub object_read : (o : ObjectParts) → IsWholeObject o → HasValues o → length (object_bytes o) ≤ 33554432 → object_in (object_bytes o) ≡ Ok o
object_read o whole values small =
    let is = file_is o whole values small in
    read-as (object_bytes o) o is (roles-are (object_bytes o) o is) whole.ordered
