-- How long the file of an object is.
use Rattle.std.proofs.Common.{◌≡◌, ℕ, ◌+◌, ◌*◌, ◌≤◌, Bool, true, false, cond, List, [], ◌∷◌, ◌++◌, length, fold, replicate, Option, Some, None, refl, ap, ◌∙◌, arith}
use Rattle.std.specs.Prelude.{count_by, filter, is_some}
use Rattle.std.specs.List.{sum_by, flat_map}
use Rattle.std.proofs.lemmas.List.{length-append, length-replicate}
use Rattle.std.proofs.lemmas.List.Sums.{sum_by-cons, length-filter}
use Rattle.std.proofs.lemmas.List.Filters.{length-filter_both}
use Rattle.elf_form.specs.declared.object.Symbol.{Symbol}
use Rattle.elf_form.specs.declared.object.Reloc.{Reloc}
use Rattle.elf_form.specs.ObjectParts.{ObjectParts}
use Rattle.elf_form.specs.Output.{longs}
use Rattle.elf_form.specs.StringTable.{with_name, place_in, table_bytes}
use Rattle.elf_form.specs.ObjectLayout.{next, layout, names_of, strings_of, is_of, symbol_bytes, symbol_table, reloc_bytes, reloc_table, object_header, part_sections, table_sections, object_parts, object_tables, object_bytes}
use Rattle.elf_form.proofs.RowLaws.{length-longs}
use Rattle.elf_form.proofs.StringLaws.{table_bytes-append}

-- ---- an upper bound, by the lengths of the parts

next-most : (n : ℕ) → next n ≤ n + 3
unfolding next
next-most n = omega arith

name_added : (names : List (List ℕ)) (name : List ℕ) (o : Option ℕ) → length (table_bytes (cond (is_some o) names (names ++ name ∷ [])))
    ≤ length (table_bytes names) + length name + 1
name_added names name (Some at) = omega arith
name_added names name None = rw (table_bytes-append names name) (simp length-append (omega arith))

names_added : (xs : List Symbol) (names : List (List ℕ)) → length (table_bytes (fold (λ ns s. with_name ns s.name) names xs)) ≤ length
    (table_bytes names) + sum_by (λ s. length s.name) xs + length xs
names_added [] names = omega arith
names_added (x ∷ xs) names = omega (
  arith,
  names_added xs (with_name names x.name),
  name_added names x.name (place_in names x.name),
  sum_by-cons (λ (s : Symbol). length s.name) x xs,
)

strings-most : (xs : List Symbol) → length (strings_of xs) ≤ sum_by (λ s. length s.name) xs + length xs + 1
unfolding strings_of names_of table_bytes
strings-most xs = omega (arith, names_added xs ([] ∷ []))

both-kinds : (xs : List Reloc) → count_by (is_of true) xs + count_by (is_of false) xs ≡ length xs
both-kinds xs = omega (
  arith,
  length-filter_both (is_of true) (is_of false) (λ r. refl) xs,
  length-filter (is_of true) xs,
  length-filter (is_of false) xs,
)

pub sections-most : (o : ObjectParts) → (layout o).sections ≤ 52 + length o.text + length o.init + length o.sites + 8 * length o.relocs
    + 16 * (length o.symbols + 1) + (sum_by (λ s. length s.name) o.symbols + length o.symbols + 1) + 74 + 40
unfolding layout
sections-most o = omega (arith, next-most, strings-most o.symbols, both-kinds o.relocs)

-- ---- the length

pub length-symbol : (names : List (List ℕ)) (s : Symbol) → length (symbol_bytes names s) ≡ 16
unfolding symbol_bytes
length-symbol names s = refl

pub length-reloc : (r : Reloc) → length (reloc_bytes r) ≡ 8
unfolding reloc_bytes
length-reloc r = refl

pub length-each : {X : Type 0} (f : X → List ℕ) (k : ℕ) (xs : List X) → ((x : X) → length (f x) ≡ k)
    → length (flat_map f xs) ≡ k * length xs
length-each f k [] all = omega arith
length-each f k (x ∷ xs) all =
    let rest : length (flat_map f xs) ≡ k * length xs = length-each f k xs all in
    let more : k * length (x ∷ xs) ≡ k + k * length xs = grind arith in
    length-append (f x) (flat_map f xs) ∙ (omega (arith, all x))

pub length-symbols : (xs : List Symbol) → length (symbol_table xs) ≡ 16 * (length xs + 1)
unfolding symbol_table
length-symbols xs = omega (
  arith,
  length-append (replicate 16 0) (flat_map (symbol_bytes (names_of xs)) xs),
  length-each (symbol_bytes (names_of xs)) 16 xs (length-symbol (names_of xs)),
)

pub length-relocs : (in_text : Bool) (xs : List Reloc) → length (reloc_table in_text xs) ≡ 8 * count_by (is_of in_text) xs
unfolding reloc_table
length-relocs in_text xs =
    length-each reloc_bytes 8 (filter (is_of in_text) xs) length-reloc ∙ ap (λ (n : ℕ). 8 * n) (length-filter (is_of in_text) xs)

pub length-header : (o : ObjectParts) → length (object_header o) ≡ 52
unfolding object_header
length-header o = refl

pub length-parts : (o : ObjectParts) → 52 + length (object_parts o) ≡ (layout o).text_relocs
unfolding object_parts layout next
length-parts o = simp (length-append, length-replicate) (omega arith)

pub length-tables : (o : ObjectParts) → (layout o).text_relocs + length (object_tables o) ≡ (layout o).sections
unfolding object_tables layout next
length-tables o = simp (length-append, length-replicate, length-relocs, length-symbols) (omega arith)

pub length-object : (o : ObjectParts) → length (object_bytes o) ≡ (layout o).sections + 400
unfolding object_bytes
length-object o =
    let a = longs (part_sections o) in
    let b = longs (table_sections o) in
    omega (
      arith,
      length-append (object_header o) (object_parts o ++ (object_tables o ++ (a ++ b))),
      length-append (object_parts o) (object_tables o ++ (a ++ b)),
      length-append (object_tables o) (a ++ b),
      length-append a b,
      length-longs (part_sections o),
      length-longs (table_sections o),
      length-header o,
      length-parts o,
      length-tables o,
    )
