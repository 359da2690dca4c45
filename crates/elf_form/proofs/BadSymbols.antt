-- Where names, symbols and relocations of an object are bad: what is computed finds the lowest place at which the condition holds.
use Rattle.std.proofs.Common.{◌≡◌, ◌≢◌, ℕ, ◌+◌, ◌-◌, ◌<◌, ◌≤◌, Bool, true, false, not, ◌||◌, cond, List, [], ◌∷◌, Option, Some, None, refl, sym, ap, ◌∙◌, subst, inl, inr, ◌⊎◌, arith}
use Rattle.std.specs.Prelude.{◌==◌, filter}
use Rattle.std.specs.Bool.{then_some}
use Rattle.std.specs.List.{Contains, flat_map, find}
use Rattle.std.specs.Option.{option_or}
use Rattle.std.proofs.lemmas.Bool.{eqb-true, eqb-false, eq-eqb, ne_eqb, or_cases, or_left, or_right, and_parts, and_from, not-true, not_from_false, both_ways}
use Rattle.std.proofs.lemmas.List.Elements.{Contains-append_left, Contains-append_right, Contains-append_cases}
use Rattle.std.proofs.lemmas.List.Concat.{flat_map-cons}
use Rattle.guest_ram.specs.Bytes.{word16, word32}
use Rattle.elf_form.specs.declared.roles.Role.{Role}
use Rattle.elf_form.specs.declared.roles.Role.TheVariants as role
use Rattle.elf_form.specs.declared.symbols.Entry.{Entry}
use Rattle.elf_form.specs.declared.symbols.SectionTest.TheVariants.{Links}
use Rattle.elf_form.specs.declared.symbols.SymbolTest.TheVariants.{Names, Globals}
use Rattle.elf_form.specs.declared.symbols.RelocTest.{RelocTest}
use Rattle.elf_form.specs.declared.symbols.RelocTest.TheVariants.{Named, Form}
use Rattle.elf_form.specs.Tables.{entries, found}
use Rattle.elf_form.specs.Header.{section_table, section_count, sections}
use Rattle.elf_form.specs.Sections.{names, nameless, is_unnamed, has_strings}
use Rattle.elf_form.specs.Roles.{role_number, has_role, with_role, is_kept}
use Rattle.elf_form.specs.Symbols.{table_at, symbols_of, binding, is_file, has_binding, has_place, symbol_fault, target_role, is_reloc_section, is_reloc_section_of, relocs_in, relocs_of, is_linked, section_test, sections_fault, symbol_test, symbols_fault, has_symbol, symbol_of, is_outside, has_kind, names_none, reloc_test, relocs_fault}
use Rattle.elf_form.specs.ObjectReading.{table_of, link_of, strings_of, section_names_fault, symbol_names_fault, string_places, kept_relocs, symbol_form, reloc_form}
use Rattle.elf_form.specs.Reasons.{IsOf, IsSymbolTable, IsRelocs, IsNameless, IsBadName, IsReloc, IsNeeded, IsBadSymbol, IsBadReloc}
use Rattle.elf_form.proofs.Lowest.{some, has_first, has_later, first_or_later, has_none, Finds, finds_so, so_finds, finds_as, finds_at, finds_lower, finds_else, finds_bad, finds_not, finds_if, finds_some, finds_fold}
use Rattle.elf_form.proofs.BadSections.{role_is, is_role, nameless_finds}
use Rattle.elf_form.proofs.BadSizes.{then_of, finds_then, first_of_role, relocs_so, so_relocs}

-- ---- the symbol table

some_same : (a b : ℕ) → some a ≡ some b → a ≡ b
some_same a b e = cc

no_entries : (at size n : ℕ) → n ≡ 0 → entries at size n ≡ []
unfolding entries
no_entries at size n e = ap (entries at size) e

first_filter : (p : ℕ → Bool) (xs : List ℕ) (s : ℕ) → find p xs ≡ Some s → (ys : List ℕ) × (filter p xs ≡ s ∷ ys)
first_filter p [] s e = absurd cc
first_filter p (x ∷ xs) s e = by (p x) e (λ k. first_filter p xs s k) where
  by : (b : Bool) → cond b (Some x) (find p xs) ≡ Some s → (find p xs ≡ Some s → (ys : List ℕ) × (filter p xs ≡ s ∷ ys)) → (ys : List ℕ)
      × (cond b (x ∷ filter p xs) (filter p xs) ≡ s ∷ ys)
  by true k ih = (filter p xs, ap (λ (y : ℕ). y ∷ filter p xs) (some_same x s k))
  by false k ih = ih k

none_filter : (p : ℕ → Bool) (xs : List ℕ) → find p xs ≡ None → filter p xs ≡ []
none_filter p [] e = refl
none_filter p (x ∷ xs) e = by (p x) e (λ k. none_filter p xs k) where
  by : (b : Bool) → cond b (Some x) (find p xs) ≡ None → (find p xs ≡ None → filter p xs ≡ []) → cond b (x ∷ filter p xs) (filter p xs) ≡ []
  by true k ih = absurd cc
  by false k ih = ih k

head_section : (bytes : List ℕ) (x : ℕ) (ys : List ℕ) → (table_at bytes (found (x ∷ ys))).section ≡ x
unfolding found
head_section bytes x [] = refl
head_section bytes x (y ∷ []) = refl
head_section bytes x (y ∷ z ∷ zs) = refl

no_section : (bytes : List ℕ) → (table_at bytes (found [])).count ≡ 0
unfolding found
no_section bytes = refl

table_section : (bytes : List ℕ) (s : ℕ) → IsSymbolTable bytes s → (table_of bytes).section ≡ s
unfolding table_of with_role
table_section bytes s h =
    let f = first_filter (has_role role.Symbols (names bytes) bytes) (sections bytes) s
    (so_finds (find (has_role role.Symbols (names bytes) bytes) (sections bytes)) (IsOf role.Symbols bytes) s
    (first_of_role role.Symbols bytes) h) in
    ap (λ (xs : List ℕ). (table_at bytes (found xs)).section) f.1 ∙ head_section bytes s f.0

table_count : (bytes : List ℕ) → find (has_role role.Symbols (names bytes) bytes) (sections bytes) ≡ None → (table_of bytes).count ≡ 0
unfolding table_of with_role
table_count bytes e = ap (λ (xs : List ℕ). (table_at bytes (found xs)).count)
    (none_filter (has_role role.Symbols (names bytes) bytes) (sections bytes) e) ∙ no_section bytes

symbol_table : (bytes : List ℕ) (y : ℕ) → Contains (symbols_of (table_of bytes)) y → (s : ℕ) × IsSymbolTable bytes s
symbol_table bytes y there = by (find (has_role role.Symbols (names bytes) bytes) (sections bytes)) refl where
  by : (o : Option ℕ) → find (has_role role.Symbols (names bytes) bytes) (sections bytes) ≡ o → (s : ℕ) × IsSymbolTable bytes s
  by None e =
      absurd (has_none y (subst (λ (xs : List ℕ). Contains xs y)
      (no_entries ((table_of bytes).at + 16) 16 ((table_of bytes).count - 1) (omega (arith, table_count bytes e))) there))
  by (Some s) e = (
    s,
    finds_so (find (has_role role.Symbols (names bytes) bytes) (sections bytes)) (IsOf role.Symbols bytes) s
        (first_of_role role.Symbols bytes) e,
  )

-- ---- names

module _ (bytes : List ℕ) where
  abbrev NoNames : ℕ → Type 0
  NoNames k = (has_strings bytes (word16 bytes 50) ≡ false) × (section_count bytes ≢ 0) × (k ≡ 50)

  abbrev NoName : ℕ → Type 0
  NoName k = (has_strings bytes (word16 bytes 50) ≡ true) × IsNameless bytes k

  -- without sections none is nameless
  no_sections : section_count bytes ≡ 0 → (k : ℕ) → IsNameless bytes k → ⊥
  no_sections none k h = has_none k (subst (λ (xs : List ℕ). Contains xs k) nothing h.0) where
    nothing : sections bytes ≡ []
    nothing = no_entries (section_table bytes) 40 (section_count bytes) none

  section_names_finds : Finds (section_names_fault bytes) (λ k. NoNames k ⊎ NoName k)
  section_names_finds = by (has_strings bytes (word16 bytes 50)) (section_count bytes == 0) refl refl where
    by : (t u : Bool) → has_strings bytes (word16 bytes 50) ≡ t → (section_count bytes == 0) ≡ u
        → Finds (cond (t || u) (nameless bytes) (Some 50)) (λ k. NoNames k ⊎ NoName k)
    by true u has count = finds_as (nameless bytes) (IsNameless bytes) (λ k. NoNames k ⊎ NoName k) (λ k h. inr (has, h))
        (λ k p. elim p [ inl n ↦ absurd (both_ways _ n.0 has) | inr n ↦ n.1 ]) (nameless_finds bytes)
    by false true has count =
        finds_as (nameless bytes) (IsNameless bytes) (λ k. NoNames k ⊎ NoName k)
        (λ k h. absurd (no_sections (eqb-true (section_count bytes) 0 count) k h))
        (λ k p. elim p [ inl n ↦ absurd (n.1 (eqb-true (section_count bytes) 0 count)) | inr n ↦ absurd (both_ways _ has n.0) ])
        (nameless_finds bytes)
    by false false has count = (
      inl (has, eqb-false (section_count bytes) 0 count, refl),
      λ k p. elim p [ inl n ↦ omega (arith, n.2) | inr n ↦ absurd (both_ways _ has n.0) ],
    )

  abbrev NoTable : ℕ → ℕ → Type 0
  NoTable s k = (has_strings bytes (word32 bytes (s + 24)) ≡ false) × (k ≡ s + 24)

  abbrev Unnamed : ℕ → Type 0
  Unnamed y = Contains (symbols_of (table_of bytes)) y × (is_unnamed (strings_of bytes) bytes y ≡ true)

  unnamed_finds : Finds (symbols_fault Names (table_of bytes) (strings_of bytes) (names bytes) bytes) Unnamed
  unfolding symbols_fault
  unnamed_finds =
      finds_as (symbols_fault Names (table_of bytes) (strings_of bytes) (names bytes) bytes)
      (λ k. (y : ℕ) × Contains (symbols_of (table_of bytes)) y × ((is_unnamed (strings_of bytes) bytes y ≡ true) × (k ≡ y))) Unnamed
      to (λ k h. (k, h.0, (h.1, refl)))
      (finds_some (symbol_test Names (strings_of bytes) (names bytes) bytes)
      (λ y k. (is_unnamed (strings_of bytes) bytes y ≡ true) × (k ≡ y)) 16 (λ y. finds_bad (is_unnamed (strings_of bytes) bytes y) y)
      (λ y k h. (omega (arith, h.1), omega (arith, h.1))) ((table_of bytes).at + 16) ((table_of bytes).count - 1)) where
        to : (k : ℕ) → (y : ℕ) × Contains (symbols_of (table_of bytes)) y
            × ((is_unnamed (strings_of bytes) bytes y ≡ true) × (k ≡ y)) → Unnamed k
        to k (y, there, (wrong, same)) = subst Unnamed (sym same) (there, wrong)

  -- what is asked of the names of the symbols of a table
  abbrev asked : ℕ → Option ℕ
  asked s =
      cond (has_strings bytes (link_of bytes)) (symbols_fault Names (table_of bytes) (strings_of bytes) (names bytes) bytes) (Some (s + 24))

  abbrev Asked : ℕ → ℕ → Type 0
  Asked s k = ((has_strings bytes (link_of bytes) ≡ true) × Unnamed k) ⊎ ((has_strings bytes (link_of bytes) ≡ false) × (k ≡ s + 24))

  asked_finds : (s : ℕ) → Finds (asked s) (Asked s)
  asked_finds s = finds_if (has_strings bytes (link_of bytes)) (symbols_fault Names (table_of bytes) (strings_of bytes) (names bytes) bytes)
      (Some (s + 24)) Unnamed (λ k. k ≡ s + 24) unnamed_finds (refl, λ k e. omega (arith, e))

  head_asked : (x : ℕ) (ys : List ℕ) → asked x ≡ symbol_names_fault bytes (found (x ∷ ys))
  unfolding found
  head_asked x [] = refl
  head_asked x (y ∷ []) = refl
  head_asked x (y ∷ z ∷ zs) = refl

  asked_of : (p : ℕ → Bool) (xs : List ℕ) → then_of (find p xs) asked ≡ symbol_names_fault bytes (found (filter p xs))
  unfolding found
  asked_of p [] = refl
  asked_of p (x ∷ xs) = by (p x) (asked_of p xs) where
    by : (b : Bool) → then_of (find p xs) asked ≡ symbol_names_fault bytes (found (filter p xs))
        → then_of (cond b (Some x) (find p xs)) asked ≡ symbol_names_fault bytes (found (cond b (x ∷ filter p xs) (filter p xs)))
    by true e = head_asked x (filter p xs)
    by false e = e

  abbrev SymbolNames : ℕ → Type 0
  SymbolNames k = ((s : ℕ) × IsSymbolTable bytes s × NoTable s k) ⊎ ((has_strings bytes (link_of bytes) ≡ true) × Unnamed k)

  symbol_names_finds : Finds (symbol_names_fault bytes (with_role role.Symbols (names bytes) bytes)) SymbolNames
  unfolding with_role
  symbol_names_finds =
      finds_as (symbol_names_fault bytes (found (filter (has_role role.Symbols (names bytes) bytes) (sections bytes))))
      (λ k. (s : ℕ) × IsSymbolTable bytes s × Asked s k) SymbolNames
      to from
      (finds_at (then_of (find (has_role role.Symbols (names bytes) bytes) (sections bytes)) asked)
      (symbol_names_fault bytes (found (filter (has_role role.Symbols (names bytes) bytes) (sections bytes))))
      (λ k. (s : ℕ) × IsSymbolTable bytes s × Asked s k)
      (asked_of (has_role role.Symbols (names bytes) bytes) (sections bytes))
      (finds_then (find (has_role role.Symbols (names bytes) bytes) (sections bytes)) (IsOf role.Symbols bytes) asked Asked
      (first_of_role role.Symbols bytes) asked_finds)) where
        link_is : (s : ℕ) → IsSymbolTable bytes s → link_of bytes ≡ word32 bytes (s + 24)
        link_is s h = ap (λ (x : ℕ). word32 bytes (x + 24)) (table_section bytes s h)

        to : (k : ℕ) → (s : ℕ) × IsSymbolTable bytes s × Asked s k → SymbolNames k
        to k (s, h, inl a) = inr a
        to k (s, h, inr (never, e)) = inl (s, h, (sym (ap (has_strings bytes) (link_is s h)) ∙ never, e))

        from : (k : ℕ) → SymbolNames k → (s : ℕ) × IsSymbolTable bytes s × Asked s k
        from k (inl (s, h, (never, e))) = (s, h, inr (ap (has_strings bytes) (link_is s h) ∙ never, e))
        from k (inr a) = let t = symbol_table bytes k a.1.0 in (t.0, t.1, inl a)

  abbrev Places : ℕ → Type 0
  Places k = (NoNames k ⊎ NoName k) ⊎ SymbolNames k

  name_to : (k : ℕ) → Places k → IsBadName bytes k
  name_to k (inl (inl (never, sections_are, e))) = IsBadName.no_names never sections_are e
  name_to k (inl (inr (has, h))) = IsBadName.section has h
  name_to k (inr (inl (s, h, (never, e)))) = IsBadName.no_table s h never e
  name_to k (inr (inr (has, (there, h)))) = IsBadName.symbol has there h

  name_from : (k : ℕ) → IsBadName bytes k → Places k
  name_from k (IsBadName.no_names never sections_are e) = inl (inl (never, sections_are, e))
  name_from k (IsBadName.section has h) = inl (inr (has, h))
  name_from k (IsBadName.no_table s h never e) = inr (inl (s, h, (never, e)))
  name_from k (IsBadName.symbol has there h) = inr (inr (has, (there, h)))

  pub string_places_finds : Finds (string_places bytes) (IsBadName bytes)
  unfolding string_places
  string_places_finds = finds_as (string_places bytes) Places (IsBadName bytes) name_to name_from
      (finds_lower (section_names_fault bytes) (symbol_names_fault bytes (with_role role.Symbols (names bytes) bytes))
      (λ k. NoNames k ⊎ NoName k) SymbolNames section_names_finds symbol_names_finds)

-- ---- relocations of sections that are kept

filter_has : (p : ℕ → Bool) (f : ℕ → List Entry) (xs : List ℕ) (e : Entry) → Contains (flat_map f (filter p xs)) e → (s : ℕ) × Contains xs s
    × (p s ≡ true) × Contains (f s) e
filter_has p f [] e h = absurd (has_none e h)
filter_has p f (x ∷ xs) e h = by (p x) refl h (λ k. filter_has p f xs e k) where
  by : (b : Bool) → p x ≡ b → Contains (flat_map f (cond b (x ∷ filter p xs) (filter p xs))) e
      → (Contains (flat_map f (filter p xs)) e → (s : ℕ) × Contains xs s × (p s ≡ true) × Contains (f s) e) → (s : ℕ) × Contains (x ∷ xs) s
      × (p s ≡ true) × Contains (f s) e
  by true is k ih =
      elim (Contains-append_cases (f x) (flat_map f (filter p xs)) e
      (subst (λ (es : List Entry). Contains es e) (flat_map-cons f x (filter p xs)) k)) [
        | inl here ↦ (x, has_first x xs, is, here)
        | inr later ↦ let m = ih later in (m.0, has_later x m.0 xs m.1, m.2, m.3)
      ]
  by false is k ih = let m = ih k in (m.0, has_later x m.0 xs m.1, m.2, m.3)

has_filter : (p : ℕ → Bool) (f : ℕ → List Entry) (xs : List ℕ) (e : Entry) (s : ℕ) → Contains xs s → p s ≡ true → Contains (f s) e
    → Contains (flat_map f (filter p xs)) e
has_filter p f [] e s there is h = absurd (has_none s there)
has_filter p f (x ∷ xs) e s there is h = by (p x) refl (first_or_later x s xs there) (λ later. has_filter p f xs e s later is h) where
  by : (b : Bool) → p x ≡ b → (x ≡ s) ⊎ Contains xs s → (Contains xs s → Contains (flat_map f (filter p xs)) e)
      → Contains (flat_map f (cond b (x ∷ filter p xs) (filter p xs))) e
  by true at (inl same) ih = subst (λ (es : List Entry). Contains es e) (sym (flat_map-cons f x (filter p xs)))
      (Contains-append_left (f x) (flat_map f (filter p xs)) e (subst (λ (y : ℕ). Contains (f y) e) (sym same) h))
  by true at (inr later) ih = subst (λ (es : List Entry). Contains es e) (sym (flat_map-cons f x (filter p xs)))
      (Contains-append_right (f x) (flat_map f (filter p xs)) e (ih later))
  by false at (inl same) ih = absurd (both_ways _ at (ap p same ∙ is))
  by false at (inr later) ih = ih later

module _ (bytes : List ℕ) where
  kept_number : (r : Role) → is_kept r ≡ true → (role_number r ≡ 2) ⊎ ((role_number r ≡ 3) ⊎ (role_number r ≡ 4))
  kept_number role.Text h = inl refl
  kept_number role.Init h = inr (inl refl)
  kept_number role.Bss h = inr (inr refl)
  kept_number _ h = absurd cc

  number_kept : (r : Role) → (role_number r ≡ 2) ⊎ ((role_number r ≡ 3) ⊎ (role_number r ≡ 4)) → is_kept r ≡ true
  number_kept role.Text h = refl
  number_kept role.Init h = refl
  number_kept role.Bss h = refl
  number_kept _ h = absurd (elim h [ inl a ↦ omega (arith, a) | inr b ↦ elim b [ inl c ↦ omega (arith, c) | inr c ↦ omega (arith, c) ] ])

  of_role : (r : Role) (e : Entry) → (role_number r ≡ 2) ⊎ ((role_number r ≡ 3) ⊎ (role_number r ≡ 4))
      → Contains (relocs_of r (names bytes) bytes) e → IsReloc bytes e
  unfolding relocs_of
  of_role r e kept h =
      let m = filter_has (is_reloc_section_of r (names bytes) bytes) (relocs_in bytes) (sections bytes) e h in
      let both = and_parts (has_role role.Relocs (names bytes) bytes m.0)
      (role_number (target_role (names bytes) bytes m.0) == role_number r) m.2 in
      let same : role_number (target_role (names bytes) bytes m.0) ≡ role_number r =
      eqb-true (role_number (target_role (names bytes) bytes m.0)) (role_number r) both.1 in (
        m.0,
        (
          (m.1, role_is role.Relocs (names bytes) bytes m.0 both.0),
          number_kept (target_role (names bytes) bytes m.0) (subst (λ (n : ℕ). (n ≡ 2) ⊎ ((n ≡ 3) ⊎ (n ≡ 4))) (sym same) kept),
        ),
        m.3,
      )

  in_role : (r : Role) (e : Entry) (s : ℕ) → IsRelocs bytes s → Contains (relocs_in bytes s) e
      → role_number (target_role (names bytes) bytes s) ≡ role_number r → Contains (relocs_of r (names bytes) bytes) e
  unfolding relocs_of
  in_role r e s h there same =
      has_filter (is_reloc_section_of r (names bytes) bytes) (relocs_in bytes) (sections bytes) e s h.0.0
      (and_from (has_role role.Relocs (names bytes) bytes s) (role_number (target_role (names bytes) bytes s) == role_number r)
      (is_role role.Relocs (names bytes) bytes s h.0.1) (eq-eqb (role_number (target_role (names bytes) bytes s)) (role_number r) same))
      there

  abbrev In : Role → Entry → Type 0
  In r e = Contains (relocs_of r (names bytes) bytes) e

  reloc_roles : (e : Entry) → IsReloc bytes e → In role.Text e ⊎ (In role.Init e ⊎ In role.Bss e)
  reloc_roles e (s, h, there) = elim (kept_number (target_role (names bytes) bytes s) h.1) [
    | inl a ↦ inl (in_role role.Text e s h there a)
    | inr b ↦ elim b [ inl c ↦ inr (inl (in_role role.Init e s h there c)) | inr c ↦ inr (inr (in_role role.Bss e s h there c)) ]
  ]

  module _ (test : RelocTest) (P : Entry → ℕ → Type 0)
      (each : (e : Entry) → Finds (reloc_test test (table_of bytes) (names bytes) bytes e) (P e)) where
    abbrev Of : Role → ℕ → Type 0
    Of r k = (e : Entry) × In r e × P e k

    role_finds : (r : Role) → Finds (relocs_fault test (table_of bytes) (names bytes) bytes (relocs_of r (names bytes) bytes)) (Of r)
    unfolding relocs_fault
    role_finds r = finds_fold (reloc_test test (table_of bytes) (names bytes) bytes) P each (relocs_of r (names bytes) bytes)

    kept_finds : Finds (kept_relocs test bytes) (λ k. (e : Entry) × IsReloc bytes e × P e k)
    kept_finds = finds_as (kept_relocs test bytes) (λ k. Of role.Text k ⊎ (Of role.Init k ⊎ Of role.Bss k))
        (λ k. (e : Entry) × IsReloc bytes e × P e k)
        to from
        (finds_lower (relocs_fault test (table_of bytes) (names bytes) bytes (relocs_of role.Text (names bytes) bytes)) _ (Of role.Text)
        (λ k. Of role.Init k ⊎ Of role.Bss k) (role_finds role.Text)
        (finds_lower (relocs_fault test (table_of bytes) (names bytes) bytes (relocs_of role.Init (names bytes) bytes))
        (relocs_fault test (table_of bytes) (names bytes) bytes (relocs_of role.Bss (names bytes) bytes)) (Of role.Init) (Of role.Bss)
        (role_finds role.Init) (role_finds role.Bss))) where
          to : (k : ℕ) → Of role.Text k ⊎ (Of role.Init k ⊎ Of role.Bss k) → (e : Entry) × IsReloc bytes e × P e k
          to k (inl (e, h, p)) = (e, of_role role.Text e (inl refl) h, p)
          to k (inr (inl (e, h, p))) = (e, of_role role.Init e (inr (inl refl)) h, p)
          to k (inr (inr (e, h, p))) = (e, of_role role.Bss e (inr (inr refl)) h, p)

          from : (k : ℕ) → (e : Entry) × IsReloc bytes e × P e k → Of role.Text k ⊎ (Of role.Init k ⊎ Of role.Bss k)
          from k (e, h, p) = elim (reloc_roles e h) [
            | inl a ↦ inl (e, a, p)
            | inr b ↦ elim b [ inl c ↦ inr (inl (e, c, p)) | inr c ↦ inr (inr (e, c, p)) ]
          ]

  -- ---- symbols

  abbrev SymbolBad : ℕ → ℕ → Type 0
  SymbolBad y k = (is_file bytes y ≡ false)
      × (((has_binding bytes y ≡ false) × (k ≡ y + 12)) ⊎ ((has_place (names bytes) bytes y ≡ false) × (k ≡ y + 14)))

  symbol_finds : (y : ℕ) → Finds (symbol_fault (names bytes) bytes y) (SymbolBad y)
  unfolding symbol_fault
  symbol_finds y = by (is_file bytes y) refl where
    by : (t : Bool) → is_file bytes y ≡ t
        → Finds (cond t None (option_or (then_some (not (has_binding bytes y)) (y + 12))
        (then_some (not (has_place (names bytes) bytes y)) (y + 14)))) (SymbolBad y)
    by true is = λ k h. both_ways _ h.0 is
    by false is =
        finds_as (option_or (then_some (not (has_binding bytes y)) (y + 12)) (then_some (not (has_place (names bytes) bytes y)) (y + 14)))
        (λ k. ((has_binding bytes y ≡ false) × (k ≡ y + 12)) ⊎ ((has_place (names bytes) bytes y ≡ false) × (k ≡ y + 14))) (SymbolBad y)
        (λ k h. (is, h)) (λ k h. h.1)
        (finds_else (then_some (not (has_binding bytes y)) (y + 12)) (then_some (not (has_place (names bytes) bytes y)) (y + 14))
        (λ k. (has_binding bytes y ≡ false) × (k ≡ y + 12)) (λ k. (has_place (names bytes) bytes y ≡ false) × (k ≡ y + 14))
        (λ i j a b. omega (arith, a.1, b.1))
        (finds_not (has_binding bytes y) (y + 12)) (finds_not (has_place (names bytes) bytes y) (y + 14)))

  symbol_within : (y k : ℕ) → SymbolBad y k → (y ≤ k) × (k < y + 16)
  symbol_within y k (file, inl (h, e)) = (omega (arith, e), omega (arith, e))
  symbol_within y k (file, inr (h, e)) = (omega (arith, e), omega (arith, e))

  abbrev GlobalBad : ℕ → ℕ → Type 0
  GlobalBad y k = (((binding bytes y == 0) ≡ true) × ⊥) ⊎ (((binding bytes y == 0) ≡ false) × SymbolBad y k)

  global_within : (y k : ℕ) → GlobalBad y k → (y ≤ k) × (k < y + 16)
  global_within y k (inl h) = absurd h.1
  global_within y k (inr h) = symbol_within y k h.1

  abbrev GlobalAt : ℕ → Type 0
  GlobalAt k = (y : ℕ) × Contains (symbols_of (table_of bytes)) y × GlobalBad y k

  globals_find : Finds (symbols_fault Globals (table_of bytes) (strings_of bytes) (names bytes) bytes) GlobalAt
  unfolding symbols_fault
  globals_find = finds_some (symbol_test Globals (strings_of bytes) (names bytes) bytes) GlobalBad 16
      (λ y. finds_if (binding bytes y == 0) None (symbol_fault (names bytes) bytes y) (λ k. ⊥) (SymbolBad y) (λ k never. never)
      (symbol_finds y)) global_within ((table_of bytes).at + 16) ((table_of bytes).count - 1)

  abbrev NamedBad : Entry → ℕ → Type 0
  NamedBad e k = ((has_symbol (table_of bytes) bytes e.at ≡ true) × SymbolBad (symbol_of (table_of bytes) bytes e.at) k)
      ⊎ ((has_symbol (table_of bytes) bytes e.at ≡ false) × ⊥)

  named_find : (e : Entry) → Finds (reloc_test Named (table_of bytes) (names bytes) bytes e) (NamedBad e)
  named_find e = finds_if (has_symbol (table_of bytes) bytes e.at)
      (symbol_fault (names bytes) bytes (symbol_of (table_of bytes) bytes e.at)) None (SymbolBad (symbol_of (table_of bytes) bytes e.at))
      (λ k. ⊥) (symbol_finds (symbol_of (table_of bytes) bytes e.at)) (λ k never. never)

  needed_bad : (y k : ℕ) → IsNeeded bytes y → SymbolBad y k → IsBadSymbol bytes k
  needed_bad y k needed (file, inl (h, e)) = IsBadSymbol.bound y needed file h e
  needed_bad y k needed (file, inr (h, e)) = IsBadSymbol.placed y needed file h e

  abbrev SymbolAt : ℕ → Type 0
  SymbolAt k = GlobalAt k ⊎ ((e : Entry) × IsReloc bytes e × NamedBad e k)

  symbol_to : (k : ℕ) → SymbolAt k → IsBadSymbol bytes k
  symbol_to k (inl (y, there, inl h)) = absurd h.1
  symbol_to k (inl (y, there, inr (ne, h))) = needed_bad y k (IsNeeded.global there (eqb-false (binding bytes y) 0 ne)) h
  symbol_to k (inr (e, is, inl (has, h))) = needed_bad (symbol_of (table_of bytes) bytes e.at) k (IsNeeded.named e is has refl) h
  symbol_to k (inr (e, is, inr h)) = absurd h.1

  bad_needed : (y k : ℕ) → IsNeeded bytes y → SymbolBad y k → SymbolAt k
  bad_needed y k (IsNeeded.global there ne) h = inl (y, there, inr (ne_eqb (binding bytes y) 0 ne, h))
  bad_needed y k (IsNeeded.named e is has same) h = inr (e, is, inl (has, subst (λ (x : ℕ). SymbolBad x k) same h))

  symbol_from : (k : ℕ) → IsBadSymbol bytes k → SymbolAt k
  symbol_from k (IsBadSymbol.bound y needed file h e) = bad_needed y k needed (file, inl (h, e))
  symbol_from k (IsBadSymbol.placed y needed file h e) = bad_needed y k needed (file, inr (h, e))

  pub symbol_form_finds : Finds (symbol_form bytes) (IsBadSymbol bytes)
  unfolding symbol_form
  symbol_form_finds = finds_as (symbol_form bytes) SymbolAt (IsBadSymbol bytes) symbol_to symbol_from
      (finds_lower (symbols_fault Globals (table_of bytes) (strings_of bytes) (names bytes) bytes) (kept_relocs Named bytes) GlobalAt
      (λ k. (e : Entry) × IsReloc bytes e × NamedBad e k) globals_find (kept_finds Named NamedBad named_find))

  -- ---- relocations

  abbrev LinkBad : ℕ → ℕ → Type 0
  LinkBad s k =
      ((is_reloc_section (names bytes) bytes s ≡ true) × ((is_linked (table_of bytes) (names bytes) bytes s ≡ false) × (k ≡ s + 24)))
      ⊎ ((is_reloc_section (names bytes) bytes s ≡ false) × ⊥)

  link_within : (s k : ℕ) → LinkBad s k → (s ≤ k) × (k < s + 40)
  link_within s k (inl h) = (omega (arith, h.1.1), omega (arith, h.1.1))
  link_within s k (inr h) = absurd h.1

  abbrev LinkAt : ℕ → Type 0
  LinkAt k = (s : ℕ) × Contains (sections bytes) s × LinkBad s k

  links_find : Finds (sections_fault Links (table_of bytes) (names bytes) bytes) LinkAt
  unfolding sections_fault
  links_find = finds_some (section_test Links (table_of bytes) (names bytes) bytes) LinkBad 40
      (λ s. finds_if (is_reloc_section (names bytes) bytes s) (then_some (not (is_linked (table_of bytes) (names bytes) bytes s)) (s + 24))
      None (λ k. (is_linked (table_of bytes) (names bytes) bytes s ≡ false) × (k ≡ s + 24)) (λ k. ⊥)
      (finds_not (is_linked (table_of bytes) (names bytes) bytes s) (s + 24)) (λ k never. never))
      link_within (section_table bytes) (section_count bytes)

  abbrev FormBad : Entry → ℕ → Type 0
  FormBad e k = ((is_outside (names bytes) bytes e ≡ true) × (k ≡ e.at))
      ⊎ (((not (has_kind bytes e.at) || names_none (table_of bytes) bytes e.at) ≡ true) × (k ≡ e.at + 4))

  form_find : (e : Entry) → Finds (reloc_test Form (table_of bytes) (names bytes) bytes e) (FormBad e)
  form_find e = finds_else (then_some (is_outside (names bytes) bytes e) e.at)
      (then_some (not (has_kind bytes e.at) || names_none (table_of bytes) bytes e.at) (e.at + 4))
      (λ k. (is_outside (names bytes) bytes e ≡ true) × (k ≡ e.at))
      (λ k. ((not (has_kind bytes e.at) || names_none (table_of bytes) bytes e.at) ≡ true) × (k ≡ e.at + 4))
      (λ i j a b. omega (arith, a.1, b.1))
      (finds_bad (is_outside (names bytes) bytes e) e.at)
      (finds_bad (not (has_kind bytes e.at) || names_none (table_of bytes) bytes e.at) (e.at + 4))

  abbrev RelocAt : ℕ → Type 0
  RelocAt k = LinkAt k ⊎ ((e : Entry) × IsReloc bytes e × FormBad e k)

  reloc_to : (k : ℕ) → RelocAt k → IsBadReloc bytes k
  reloc_to k (inl (s, there, inl (is, (never, e)))) = IsBadReloc.link s (relocs_so bytes s there is) never e
  reloc_to k (inl (s, there, inr h)) = absurd h.1
  reloc_to k (inr (e, is, inl (out, at))) = IsBadReloc.outside e is out at
  reloc_to k (inr (e, is, inr (wrong, at))) = elim (or_cases (not (has_kind bytes e.at)) (names_none (table_of bytes) bytes e.at) wrong) [
    | inl never ↦ IsBadReloc.kind e is (not-true (has_kind bytes e.at) never) at
    | inr none ↦ IsBadReloc.symbol e is none at
  ]

  reloc_from : (k : ℕ) → IsBadReloc bytes k → RelocAt k
  reloc_from k (IsBadReloc.link s h never e) = inl (s, h.0.0, inl (so_relocs bytes s h, (never, e)))
  reloc_from k (IsBadReloc.outside e is out at) = inr (e, is, inl (out, at))
  reloc_from k (IsBadReloc.kind e is never at) = inr (
    e,
    is,
    inr (or_left (not (has_kind bytes e.at)) (names_none (table_of bytes) bytes e.at) (not_from_false (has_kind bytes e.at) never), at),
  )
  reloc_from k (IsBadReloc.symbol e is none at) =
      inr (e, is, inr (or_right (not (has_kind bytes e.at)) (names_none (table_of bytes) bytes e.at) none, at))

  pub reloc_form_finds : Finds (reloc_form bytes) (IsBadReloc bytes)
  unfolding reloc_form
  reloc_form_finds = finds_as (reloc_form bytes) RelocAt (IsBadReloc bytes) reloc_to reloc_from
      (finds_lower (sections_fault Links (table_of bytes) (names bytes) bytes) (kept_relocs Form bytes) LinkAt
      (λ k. (e : Entry) × IsReloc bytes e × FormBad e k) links_find (kept_finds Form FormBad form_find))
