-- Where sections and their names are bad: what is computed finds the lowest place at which the condition holds.
use Rattle.std.proofs.Common.{◌≡◌, ℕ, ◌+◌, ◌<◌, true, false, not, ◌||◌, List, [], ◌∷◌, Option, Some, None, refl, sym, ap, subst, inl, inr, ◌⊎◌, arith}
use Rattle.std.specs.Prelude.{◌==◌, filter}
use Rattle.std.specs.List.{Contains, find}
use Rattle.std.proofs.lemmas.Bool.{eqb-true, eqb-false, eq-eqb, ne_eqb, or_cases, or_left, or_right, and_parts, and_from, not-true, not_from_false, or_parts, or_from}
use Rattle.guest_ram.specs.Among.{is_among}
use Rattle.elf_form.specs.declared.roles.Role.{Role}
use Rattle.elf_form.specs.declared.roles.Role.TheVariants as role
use Rattle.elf_form.specs.declared.segments.Found.{Found}
use Rattle.elf_form.specs.declared.segments.Found.TheVariants.{Nothing, One, Two, More}
use Rattle.elf_form.specs.Faults.{◌or_lower◌}
use Rattle.elf_form.specs.Tables.{found, first_in, second_in, further}
use Rattle.elf_form.specs.Header.{section_table, section_count, sections}
use Rattle.elf_form.specs.Sections.{names, is_sites, is_nameless, is_compressed, sites_sections, one_of, compressed, nameless}
use Rattle.elf_form.specs.Roles.{role as role_of, role_number, has_role, with_role, alignment, alignments, is_misaligned, misaligned}
use Rattle.elf_form.specs.ObjectReading.{object_form}
use Rattle.elf_form.specs.Order.{IsLowest}
use Rattle.elf_form.specs.Reasons.{IsOf, IsSecond, IsNamedSites, IsBadSection, IsCompressed, IsNameless}
use Rattle.elf_form.proofs.Lowest.{has_first, has_later, first_or_later, has_none, Finds, finds_as, finds_at, finds_lower, finds_first, finds_first_entry, first_found, IsLater, finds_second}

-- ---- roles

same_role : (a b : Role) → role_number a ≡ role_number b → a ≡ b
same_role role.Ignored role.Ignored e = refl
same_role role.Sites role.Sites e = refl
same_role role.Text role.Text e = refl
same_role role.Init role.Init e = refl
same_role role.Bss role.Bss e = refl
same_role role.Foreign role.Foreign e = refl
same_role role.Symbols role.Symbols e = refl
same_role role.Relocs role.Relocs e = refl
same_role _ _ e = absurd (omega (arith, e))

pub role_is : (r : Role) (ns bytes : List ℕ) (s : ℕ) → has_role r ns bytes s ≡ true → role_of ns bytes s ≡ r
role_is r ns bytes s h = same_role (role_of ns bytes s) r (eqb-true (role_number (role_of ns bytes s)) (role_number r) h)

pub is_role : (r : Role) (ns bytes : List ℕ) (s : ℕ) → role_of ns bytes s ≡ r → has_role r ns bytes s ≡ true
is_role r ns bytes s e = eq-eqb (role_number (role_of ns bytes s)) (role_number r) (ap role_number e)

-- ---- alignments

any_so : (xs : List ℕ) (v : ℕ) → is_among v xs ≡ false → Contains xs v → ⊥
any_so [] v e h = has_none v h
any_so (x ∷ xs) v e h =
    let both = or_parts (v == x) (is_among v xs) e in
    elim (first_or_later x v xs h) [ inl same ↦ eqb-false v x both.0 (sym same) | inr later ↦ any_so xs v both.1 later ]

so_any : (xs : List ℕ) (v : ℕ) → (Contains xs v → ⊥) → is_among v xs ≡ false
so_any [] v never = refl
so_any (x ∷ xs) v never = or_from (v == x) (is_among v xs) (ne_eqb v x (λ e. never (subst (Contains (x ∷ xs)) (sym e) (has_first x xs))))
    (so_any xs v (λ h. never (has_later x v xs h)))

-- ---- the sections of an object

module _ (bytes : List ℕ) where
  foreign_finds : Finds (further 4 (first_in (with_role role.Foreign (names bytes) bytes)))
      (λ k. (s : ℕ) × IsOf role.Foreign bytes s × (k ≡ s + 4))
  unfolding with_role
  foreign_finds =
      finds_as (further 4 (first_in (found (filter (has_role role.Foreign (names bytes) bytes) (sections bytes)))))
      (λ k. (s : ℕ) × Contains (sections bytes) s × (has_role role.Foreign (names bytes) bytes s ≡ true) × (k ≡ s + 4))
      (λ k. (s : ℕ) × IsOf role.Foreign bytes s × (k ≡ s + 4))
      (λ k h. (h.0, (h.1, role_is role.Foreign (names bytes) bytes h.0 h.2), h.3))
      (λ k h. (h.0, h.1.0, is_role role.Foreign (names bytes) bytes h.0 h.1.1, h.2))
      (finds_at (further 4 (find (has_role role.Foreign (names bytes) bytes) (sections bytes)))
      (further 4 (first_in (found (filter (has_role role.Foreign (names bytes) bytes) (sections bytes)))))
      (λ k. (s : ℕ) × Contains (sections bytes) s × (has_role role.Foreign (names bytes) bytes s ≡ true) × (k ≡ s + 4))
      (first_found 4 (has_role role.Foreign (names bytes) bytes) (sections bytes))
      (finds_first (has_role role.Foreign (names bytes) bytes) 4 (section_table bytes) 40 (section_count bytes) (omega arith)))

  second_finds : (r : Role) (field : ℕ) → field < 40 → Finds (further field (second_in (with_role r (names bytes) bytes)))
      (λ k. (s : ℕ) × IsSecond (IsOf r bytes) s × (k ≡ s + field))
  unfolding with_role
  second_finds r field lt =
      finds_as (further field (second_in (found (filter (has_role r (names bytes) bytes) (sections bytes)))))
      (λ k. (s : ℕ) × IsLater (has_role r (names bytes) bytes) (sections bytes) s × (k ≡ s + field))
      (λ k. (s : ℕ) × IsSecond (IsOf r bytes) s × (k ≡ s + field))
      to from (finds_second (has_role r (names bytes) bytes) field 40 (section_table bytes) (section_count bytes) lt) where
        to : (k : ℕ) → (s : ℕ) × IsLater (has_role r (names bytes) bytes) (sections bytes) s × (k ≡ s + field) → (s : ℕ)
            × IsSecond (IsOf r bytes) s × (k ≡ s + field)
        to k (s, ((there, has), t, (t_there, t_has), below), e) =
            (s, ((there, role_is r (names bytes) bytes s has), t, (t_there, role_is r (names bytes) bytes t t_has), below), e)

        from : (k : ℕ) → (s : ℕ) × IsSecond (IsOf r bytes) s × (k ≡ s + field) → (s : ℕ)
            × IsLater (has_role r (names bytes) bytes) (sections bytes) s × (k ≡ s + field)
        from k (s, ((there, has), t, (t_there, t_has), below), e) =
            (s, ((there, is_role r (names bytes) bytes s has), t, (t_there, is_role r (names bytes) bytes t t_has), below), e)

  abbrev Misaligned : ℕ → Type 0
  Misaligned k = (s : ℕ) × (IsOf role.Init bytes s ⊎ IsOf role.Bss bytes s) × (Contains alignments (alignment bytes s) → ⊥) × (k ≡ s + 32)

  misaligned_finds : Finds (misaligned (names bytes) bytes) Misaligned
  unfolding misaligned
  misaligned_finds =
      finds_as (further 32 (find (is_misaligned (names bytes) bytes) (sections bytes)))
      (λ k. (s : ℕ) × Contains (sections bytes) s × (is_misaligned (names bytes) bytes s ≡ true) × (k ≡ s + 32)) Misaligned
      to from (finds_first (is_misaligned (names bytes) bytes) 32 (section_table bytes) 40 (section_count bytes) (omega arith)) where
        to : (k : ℕ) → (s : ℕ) × Contains (sections bytes) s × (is_misaligned (names bytes) bytes s ≡ true) × (k ≡ s + 32) → Misaligned k
        to k (s, there, wrong, e) =
            let both = and_parts (has_role role.Init (names bytes) bytes s || has_role role.Bss (names bytes) bytes s)
            (not (is_among (alignment bytes s) alignments)) wrong in
            let never : Contains alignments (alignment bytes s) → ⊥ =
            any_so alignments (alignment bytes s) (not-true (is_among (alignment bytes s) alignments) both.1) in
            elim (or_cases (has_role role.Init (names bytes) bytes s) (has_role role.Bss (names bytes) bytes s) both.0) [
              | inl has ↦ (s, inl (there, role_is role.Init (names bytes) bytes s has), never, e)
              | inr has ↦ (s, inr (there, role_is role.Bss (names bytes) bytes s has), never, e)
            ]

        test : (s : ℕ) → (Contains alignments (alignment bytes s) → ⊥) → not (is_among (alignment bytes s) alignments) ≡ true
        test s never = not_from_false (is_among (alignment bytes s) alignments) (so_any alignments (alignment bytes s) never)

        from : (k : ℕ) → Misaligned k → (s : ℕ) × Contains (sections bytes) s × (is_misaligned (names bytes) bytes s ≡ true) × (k ≡ s + 32)
        from k (s, inl (there, has), never, e) = (
          s,
          there,
          and_from (has_role role.Init (names bytes) bytes s || has_role role.Bss (names bytes) bytes s)
              (not (is_among (alignment bytes s) alignments))
              (or_left (has_role role.Init (names bytes) bytes s) (has_role role.Bss (names bytes) bytes s)
              (is_role role.Init (names bytes) bytes s has)) (test s never),
          e,
        )
        from k (s, inr (there, has), never, e) = (
          s,
          there,
          and_from (has_role role.Init (names bytes) bytes s || has_role role.Bss (names bytes) bytes s)
              (not (is_among (alignment bytes s) alignments))
              (or_right (has_role role.Init (names bytes) bytes s) (has_role role.Bss (names bytes) bytes s)
              (is_role role.Bss (names bytes) bytes s has)) (test s never),
          e,
        )

  abbrev ForeignAt : ℕ → Type 0
  ForeignAt k = (s : ℕ) × IsOf role.Foreign bytes s × (k ≡ s + 4)

  abbrev TextAt : ℕ → Type 0
  TextAt k = (s : ℕ) × IsSecond (IsOf role.Text bytes) s × (k ≡ s + 8)

  abbrev SitesAt : ℕ → Type 0
  SitesAt k = (s : ℕ) × IsSecond (IsOf role.Sites bytes) s × (k ≡ s + 0)

  abbrev LastAt : ℕ → Type 0
  LastAt k = SitesAt k ⊎ Misaligned k

  abbrev RestAt : ℕ → Type 0
  RestAt k = TextAt k ⊎ LastAt k

  abbrev AnyAt : ℕ → Type 0
  AnyAt k = ForeignAt k ⊎ RestAt k

  pub object_form_finds : Finds (object_form bytes) (IsBadSection bytes)
  unfolding object_form
  object_form_finds =
      finds_as (further 4 (first_in (with_role role.Foreign (names bytes) bytes)) or_lower
      (further 8 (second_in (with_role role.Text (names bytes) bytes)) or_lower
      (further 0 (second_in (with_role role.Sites (names bytes) bytes)) or_lower misaligned (names bytes) bytes))) AnyAt
      (IsBadSection bytes)
      to from
      (finds_lower (further 4 (first_in (with_role role.Foreign (names bytes) bytes))) _ ForeignAt RestAt foreign_finds
      (finds_lower (further 8 (second_in (with_role role.Text (names bytes) bytes))) _ TextAt LastAt
      (second_finds role.Text 8 (omega arith))
      (finds_lower (further 0 (second_in (with_role role.Sites (names bytes) bytes))) (misaligned (names bytes) bytes) SitesAt Misaligned
      (second_finds role.Sites 0 (omega arith)) misaligned_finds))) where
        to : (k : ℕ) → AnyAt k → IsBadSection bytes k
        to k (inl (s, h, e)) = IsBadSection.foreign s h e
        to k (inr (inl (s, h, e))) = IsBadSection.text s h e
        to k (inr (inr (inl (s, h, e)))) = IsBadSection.sites s h (omega (arith, e))
        to k (inr (inr (inr (s, h, never, e)))) = IsBadSection.aligned s h never e

        from : (k : ℕ) → IsBadSection bytes k → AnyAt k
        from k (IsBadSection.foreign s h e) = inl (s, h, e)
        from k (IsBadSection.text s h e) = inr (inl (s, h, e))
        from k (IsBadSection.sites s h e) = inr (inr (inl (s, h, omega (arith, e))))
        from k (IsBadSection.aligned s h never e) = inr (inr (inr (s, h, never, e)))

  -- ---- of both

  pub compressed_finds : Finds (compressed bytes) (IsCompressed bytes)
  unfolding compressed
  compressed_finds = finds_first (is_compressed bytes) 8 (section_table bytes) 40 (section_count bytes) (omega arith)

  pub nameless_finds : Finds (nameless bytes) (IsNameless bytes)
  unfolding nameless
  nameless_finds = finds_first_entry (is_nameless (names bytes) bytes) (section_table bytes) 40 (section_count bytes) (omega arith)

  -- ---- the section of sites of an image

  abbrev pub SitesPart : ℕ → Type 0
  SitesPart k = (((s : ℕ) → IsNamedSites bytes s → ⊥) × (k ≡ 48)) ⊎ ((s : ℕ) × IsSecond (IsNamedSites bytes) s × (k ≡ s))

  two_by : (o q : Option ℕ) (a b : ℕ) → o ≡ Some (a + 0) → q ≡ Some (b + 0) → Finds o (λ k. (s : ℕ) × IsNamedSites bytes s × (k ≡ s + 0))
      → Finds q (λ k. (s : ℕ) × IsSecond (IsNamedSites bytes) s × (k ≡ s + 0)) → IsLowest SitesPart b
  two_by o q a b e d h g =
      let there : IsLowest (λ k. (s : ℕ) × IsNamedSites bytes s × (k ≡ s + 0)) (a + 0) =
      finds_at o (Some (a + 0)) (λ k. (s : ℕ) × IsNamedSites bytes s × (k ≡ s + 0)) e h in
      let other : IsLowest (λ k. (s : ℕ) × IsSecond (IsNamedSites bytes) s × (k ≡ s + 0)) (b + 0) =
      finds_at q (Some (b + 0)) (λ k. (s : ℕ) × IsSecond (IsNamedSites bytes) s × (k ≡ s + 0)) d g in (
        inr (other.0.0, other.0.1, omega (arith, other.0.2)),
        λ k p. elim p [ inl n ↦ absurd (n.0 there.0.0 there.0.1) | inr n ↦ omega (arith, n.2, other.1 (n.0 + 0) (n.0, n.1, refl)) ],
      )

  one_by : (o q : Option ℕ) (f : Found) → o ≡ further 0 (first_in f) → q ≡ further 0 (second_in f)
      → Finds o (λ k. (s : ℕ) × IsNamedSites bytes s × (k ≡ s + 0)) → Finds q (λ k. (s : ℕ) × IsSecond (IsNamedSites bytes) s × (k ≡ s + 0))
      → Finds (one_of f) SitesPart
  one_by o q Nothing e d h g =
      let none : (k : ℕ) → (s : ℕ) × IsNamedSites bytes s × (k ≡ s + 0) → ⊥ =
      finds_at o None (λ k. (s : ℕ) × IsNamedSites bytes s × (k ≡ s + 0)) e h in (
        inl ((λ s named. none (s + 0) (s, named, refl)), refl),
        λ k p. elim p [ inl n ↦ omega (arith, n.1) | inr n ↦ absurd (none (n.0 + 0) (n.0, n.1.0, refl)) ],
      )
  one_by o q (One a) e d h g =
      let there : IsLowest (λ k. (s : ℕ) × IsNamedSites bytes s × (k ≡ s + 0)) (a + 0) =
      finds_at o (Some (a + 0)) (λ k. (s : ℕ) × IsNamedSites bytes s × (k ≡ s + 0)) e h in
      let none : (k : ℕ) → (s : ℕ) × IsSecond (IsNamedSites bytes) s × (k ≡ s + 0) → ⊥ =
      finds_at q None (λ k. (s : ℕ) × IsSecond (IsNamedSites bytes) s × (k ≡ s + 0)) d g in
      λ k p. elim p [ inl n ↦ n.0 there.0.0 there.0.1 | inr n ↦ none (n.0 + 0) (n.0, n.1, refl) ]
  one_by o q (Two a b) e d h g = two_by o q a b e d h g
  one_by o q (More a b) e d h g = two_by o q a b e d h g

  pub sites_finds : Finds (one_of (sites_sections bytes)) SitesPart
  unfolding sites_sections
  sites_finds =
      one_by (further 0 (find (is_sites (names bytes) bytes) (sections bytes)))
      (further 0 (second_in (found (filter (is_sites (names bytes) bytes) (sections bytes)))))
      (found (filter (is_sites (names bytes) bytes) (sections bytes)))
      (first_found 0 (is_sites (names bytes) bytes) (sections bytes)) refl
      (finds_as (further 0 (find (is_sites (names bytes) bytes) (sections bytes)))
      (λ k. (s : ℕ) × Contains (sections bytes) s × (is_sites (names bytes) bytes s ≡ true) × (k ≡ s + 0))
      (λ k. (s : ℕ) × IsNamedSites bytes s × (k ≡ s + 0))
      (λ k h. (h.0, (h.1, h.2), h.3)) (λ k h. (h.0, h.1.0, h.1.1, h.2))
      (finds_first (is_sites (names bytes) bytes) 0 (section_table bytes) 40 (section_count bytes) (omega arith)))
      (finds_second (is_sites (names bytes) bytes) 0 40 (section_table bytes) (section_count bytes) (omega arith))
