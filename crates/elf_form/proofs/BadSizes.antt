-- Where sizes are bad: what is computed finds the lowest place at which the condition holds.
use Rattle.std.proofs.Common.{◌≡◌, ◌≢◌, ℕ, zero, suc, ◌+◌, ◌%◌, ◌<◌, ◌≤◌, Bool, true, false, not, cond, List, [], ◌∷◌, ◌++◌, length, nat_lt, Option, Some, None, refl, sym, ap, ◌∙◌, subst, inl, inr, ◌⊎◌, arith}
use Rattle.std.specs.Prelude.{◌==◌, filter, slice_get}
use Rattle.std.specs.Bool.{then_some}
use Rattle.std.specs.List.{Contains, sum_by, find}
use Rattle.std.proofs.lemmas.Bool.{cond-true, cond-false, cases_lt, lt-ltb, ltb-true, and_parts, and_from, both_ways}
use Rattle.std.proofs.lemmas.List.Sums.{sum_by-cons}
use Rattle.guest_ram.specs.Bytes.{word16, word32}
use Rattle.elf_form.specs.declared.roles.Role.{Role}
use Rattle.elf_form.specs.declared.roles.Role.TheVariants as role
use Rattle.elf_form.specs.declared.symbols.SectionTest.TheVariants.{EntrySizes}
use Rattle.elf_form.specs.Faults.{◌or_lower◌}
use Rattle.elf_form.specs.Output.{pad}
use Rattle.elf_form.specs.Tables.{entries, found}
use Rattle.elf_form.specs.Header.{wrong_half, section_table, section_count, sections}
use Rattle.elf_form.specs.Segments.{loads, first_size, second_size, memory_sizes, too_long, sizes}
use Rattle.elf_form.specs.Sections.{names}
use Rattle.elf_form.specs.Roles.{role as role_of, has_role, with_role, is_kept, size, joined_fault}
use Rattle.elf_form.specs.Symbols.{is_reloc_section, target_role, entries_fault, section_test, sections_fault}
use Rattle.elf_form.specs.ObjectReading.{table_of, table_fault, inner_sizes, object_sizes}
use Rattle.elf_form.specs.Order.{IsLowest}
use Rattle.elf_form.specs.Reasons.{IsOf, in_pages, IsTooMuch, IsSymbolTable, IsRelocs, IsBadEntrySize, IsBadObjectSize, loaded, IsBadImageSize}
use Rattle.elf_form.proofs.Lowest.{has_first, has_later, Finds, finds_as, finds_at, finds_lower, finds_else, finds_bad, finds_field, finds_if, finds_some, finds_first_entry, entry_from}
use Rattle.elf_form.proofs.BadSections.{role_is, is_role}

-- ---- sizes whose sum is too large

abbrev Over : Role → List ℕ → ℕ → List ℕ → ℕ → Type 0
Over r bytes total ss k = (before : List ℕ) × (s : ℕ) × (later : List ℕ) × (ss ≡ before ++ s ∷ later) × (role_of (names bytes) bytes s ≡ r)
    × (4294967296 ≤ total + sum_by (in_pages bytes) (filter (has_role r (names bytes) bytes) (before ++ s ∷ []))) × (k ≡ s + 20)

abbrev head_of : ℕ → List ℕ → ℕ
head_of d [] = d
head_of d (x ∷ xs) = x

abbrev tail_of : List ℕ → List ℕ
tail_of [] = []
tail_of (x ∷ xs) = xs

-- the first of some, or one after it
split_head : (x : ℕ) (xs before : List ℕ) (s : ℕ) (later : List ℕ) → x ∷ xs ≡ before ++ s ∷ later → ((before ≡ []) × (x ≡ s))
    ⊎ ((b : List ℕ) × (before ≡ x ∷ b) × (xs ≡ b ++ s ∷ later))
split_head x xs [] s later e = inl (refl, ap (head_of 0) e)
split_head x xs (y ∷ b) s later e = inr (b, ap (λ (z : ℕ). z ∷ b) (sym (ap (head_of 0) e)), ap tail_of e)

split_contains : (before : List ℕ) (s : ℕ) (later : List ℕ) → Contains (before ++ s ∷ later) s
split_contains [] s later = has_first s later
split_contains (x ∷ b) s later = has_later x s (b ++ s ∷ later) (split_contains b s later)

module _ (r : Role) (bytes : List ℕ) where
  abbrev sum_of : List ℕ → ℕ
  sum_of xs = sum_by (in_pages bytes) (filter (has_role r (names bytes) bytes) xs)

  sum_here : (x : ℕ) (xs : List ℕ) → has_role r (names bytes) bytes x ≡ true → sum_of (x ∷ xs) ≡ in_pages bytes x + sum_of xs
  sum_here x xs has =
      ap (sum_by (in_pages bytes)) (cond-true (has_role r (names bytes) bytes x) (x ∷ filter (has_role r (names bytes) bytes) xs)
      (filter (has_role r (names bytes) bytes) xs) has) ∙ sum_by-cons (in_pages bytes) x (filter (has_role r (names bytes) bytes) xs)

  sum_next : (x : ℕ) (xs : List ℕ) → has_role r (names bytes) bytes x ≡ false → sum_of (x ∷ xs) ≡ sum_of xs
  sum_next x xs has =
      ap (sum_by (in_pages bytes)) (cond-false (has_role r (names bytes) bytes x) (x ∷ filter (has_role r (names bytes) bytes) xs)
      (filter (has_role r (names bytes) bytes) xs) has)

  not_nil : (xs ys : List ℕ) (x : ℕ) → [] ≡ xs ++ x ∷ ys → ⊥
  not_nil [] ys x e = absurd cc
  not_nil (y ∷ xs) ys x e = absurd cc

  -- of what is left, after a section that fits or has another role
  step_to : (at : ℕ) (rest : List ℕ) (total more k : ℕ) → ((b : List ℕ) → sum_of (at ∷ b) + total ≡ more + sum_of b)
      → Over r bytes more rest k → Over r bytes total (at ∷ rest) k
  step_to at rest total more k sums (before, s, later, e, is, over, place) =
      (at ∷ before, s, later, ap (λ (xs : List ℕ). at ∷ xs) e, is, omega (arith, over, sums (before ++ s ∷ [])), place)

  step_from : (at : ℕ) (rest : List ℕ) (total more k : ℕ) → ((b : List ℕ) → sum_of (at ∷ b) + total ≡ more + sum_of b)
      → (role_of (names bytes) bytes at ≡ r → 4294967296 ≤ total + sum_of (at ∷ []) → ⊥) → Over r bytes total (at ∷ rest) k
      → Over r bytes more rest k
  step_from at rest total more k sums never (before, s, later, e, is, over, place) = elim (split_head at rest before s later e) [
    | inl here ↦
        let first : before ++ s ∷ [] ≡ at ∷ [] = ap (λ (b : List ℕ). b ++ s ∷ []) here.0 ∙ ap (λ (x : ℕ). x ∷ []) (sym here.1) in
        absurd (never (ap (role_of (names bytes) bytes) here.1 ∙ is) (subst (λ (b : List ℕ). 4294967296 ≤ total + sum_of b) first over))
    | inr (b, e2, e3) ↦
        let all : before ++ s ∷ [] ≡ at ∷ (b ++ s ∷ []) = ap (λ (x : List ℕ). x ++ s ∷ []) e2 in
        let over2 : 4294967296 ≤ total + sum_of (at ∷ (b ++ s ∷ [])) = subst (λ (x : List ℕ). 4294967296 ≤ total + sum_of x) all over in
        (b, s, later, e3, is, omega (arith, over2, sums (b ++ s ∷ [])), place)
  ]

  joined_finds : (at n total : ℕ) → Finds (joined_fault r (names bytes) bytes total (entries at 40 n))
      (Over r bytes total (entries at 40 n))
  unfolding joined_fault entries
  joined_finds at zero total = λ k h. not_nil h.0 h.2 h.1 h.3
  joined_finds at (suc n) total = by (has_role r (names bytes) bytes at) refl (λ more. joined_finds (at + 40) n more) where
    by_fits : has_role r (names bytes) bytes at ≡ true
        → ((more : ℕ) → Finds (joined_fault r (names bytes) bytes more (entries (at + 40) 40 n))
        (Over r bytes more (entries (at + 40) 40 n)))
        → (t : Bool) → nat_lt (total + (size bytes at + pad 4096 (size bytes at))) 4294967296 ≡ t
        → Finds (cond t (joined_fault r (names bytes) bytes (total + (size bytes at + pad 4096 (size bytes at))) (entries (at + 40) 40 n))
        (Some (at + 20))) (Over r bytes total (at ∷ entries (at + 40) 40 n))
    by_fits has ih true fits =
        finds_as (joined_fault r (names bytes) bytes (total + in_pages bytes at) (entries (at + 40) 40 n))
        (Over r bytes (total + in_pages bytes at) (entries (at + 40) 40 n)) (Over r bytes total (at ∷ entries (at + 40) 40 n))
        (λ k h. step_to at (entries (at + 40) 40 n) total (total + in_pages bytes at) k (λ b. omega (arith, sum_here at b has)) h)
        (λ k h. step_from at (entries (at + 40) 40 n) total (total + in_pages bytes at) k (λ b. omega (arith, sum_here at b has))
        (λ is over. omega (
          arith,
          over,
          sum_here at [] has,
          sum_none,
          ltb-true (total + (size bytes at + pad 4096 (size bytes at))) 4294967296 fits,
        )) h)
        (ih (total + in_pages bytes at))
      where
        sum_none : sum_of [] ≡ 0
        sum_none = refl
    by_fits has ih false over = (
      (
        [],
        at,
        entries (at + 40) 40 n,
        refl,
        role_is r (names bytes) bytes at has,
        omega (arith, sum_here at [] has, above (total + (size bytes at + pad 4096 (size bytes at))) over),
        refl,
      ),
      λ k h. omega (
        arith,
        h.6,
        entry_from at 40 (suc n) h.1 (subst (λ (xs : List ℕ). Contains xs h.1) (sym h.3) (split_contains h.0 h.1 h.2)),
      ),
    )
      where
        above : (m : ℕ) → nat_lt m 4294967296 ≡ false → 4294967296 ≤ m
        above m e = elim (cases_lt m 4294967296) [ inl lt ↦ absurd (both_ways _ e (lt-ltb m 4294967296 lt)) | inr le ↦ le ]

    by : (b : Bool) → has_role r (names bytes) bytes at ≡ b
        → ((more : ℕ) → Finds (joined_fault r (names bytes) bytes more (entries (at + 40) 40 n))
        (Over r bytes more (entries (at + 40) 40 n)))
        → Finds (cond b (cond (nat_lt (total + (size bytes at + pad 4096 (size bytes at))) 4294967296)
        (joined_fault r (names bytes) bytes (total + (size bytes at + pad 4096 (size bytes at))) (entries (at + 40) 40 n)) (Some (at + 20)))
        (joined_fault r (names bytes) bytes total (entries (at + 40) 40 n)))
        (Over r bytes total (at ∷ entries (at + 40) 40 n))
    by true has ih = by_fits has ih (nat_lt (total + (size bytes at + pad 4096 (size bytes at))) 4294967296) refl
    by false has ih =
        finds_as (joined_fault r (names bytes) bytes total (entries (at + 40) 40 n)) (Over r bytes total (entries (at + 40) 40 n))
        (Over r bytes total (at ∷ entries (at + 40) 40 n))
        (λ k h. step_to at (entries (at + 40) 40 n) total total k (λ b. omega (arith, sum_next at b has)) h)
        (λ k h. step_from at (entries (at + 40) 40 n) total total k (λ b. omega (arith, sum_next at b has))
        (λ is over. absurd (both_ways _ has (is_role r (names bytes) bytes at is))) h)
        (ih total)

  abbrev Joined : ℕ → Type 0
  Joined k = (s : ℕ) × IsTooMuch r bytes s × (k ≡ s + 20)

  too_much_finds : Finds (joined_fault r (names bytes) bytes 0 (sections bytes)) Joined
  too_much_finds = finds_as (joined_fault r (names bytes) bytes 0 (sections bytes)) (Over r bytes 0 (sections bytes)) Joined
      (λ k h. (h.1, record { before = h.0; later = h.2; sections_are = h.3; reads = h.4; together = omega (arith, h.5) }, h.6))
      (λ k h. (h.1.before, h.0, h.1.later, h.1.sections_are, h.1.reads, omega (arith, h.1.together), h.2))
      (joined_finds (section_table bytes) (section_count bytes) 0)

-- ---- sizes of entries

pub entries_finds : (entry : ℕ) (bytes : List ℕ) (s : ℕ) → Finds (entries_fault entry bytes s) (IsBadEntrySize entry bytes s)
entries_finds entry bytes s =
    finds_as (entries_fault entry bytes s)
    (λ k. ((size bytes s % entry ≢ 0) × (k ≡ s + 20)) ⊎ ((word32 bytes (s + 36) ≢ entry) × (k ≡ s + 36))) (IsBadEntrySize entry bytes s)
    to from
    (finds_else (then_some (not (size bytes s % entry == 0)) (s + 20)) (then_some (not (word32 bytes (s + 36) == entry)) (s + 36))
    (λ k. (size bytes s % entry ≢ 0) × (k ≡ s + 20)) (λ k. (word32 bytes (s + 36) ≢ entry) × (k ≡ s + 36))
    (λ i j a b. omega (arith, a.1, b.1))
    (finds_field (size bytes s % entry) 0 (s + 20)) (finds_field (word32 bytes (s + 36)) entry (s + 36))) where
      to : (k : ℕ) → ((size bytes s % entry ≢ 0) × (k ≡ s + 20)) ⊎ ((word32 bytes (s + 36) ≢ entry) × (k ≡ s + 36))
          → IsBadEntrySize entry bytes s k
      to k (inl (h, e)) = IsBadEntrySize.uneven h e
      to k (inr (h, e)) = IsBadEntrySize.other h e

      from : (k : ℕ) → IsBadEntrySize entry bytes s k → ((size bytes s % entry ≢ 0) × (k ≡ s + 20))
          ⊎ ((word32 bytes (s + 36) ≢ entry) × (k ≡ s + 36))
      from k (IsBadEntrySize.uneven h e) = inl (h, e)
      from k (IsBadEntrySize.other h e) = inr (h, e)

entry_within : (entry : ℕ) (bytes : List ℕ) (s k : ℕ) → IsBadEntrySize entry bytes s k → (s ≤ k) × (k < s + 40)
entry_within entry bytes s k (IsBadEntrySize.uneven h e) = (omega (arith, e), omega (arith, e))
entry_within entry bytes s k (IsBadEntrySize.other h e) = (omega (arith, e), omega (arith, e))

-- what is asked of the first of those that were found
abbrev pub then_of : Option ℕ → (ℕ → Option ℕ) → Option ℕ
then_of None f = None
then_of (Some x) f = f x

pub finds_then : (o : Option ℕ) (P : ℕ → Type 0) (f : ℕ → Option ℕ) (Q : ℕ → ℕ → Type 0) → Finds o P → ((x : ℕ) → Finds (f x) (Q x))
    → Finds (then_of o f) (λ k. (x : ℕ) × IsLowest P x × Q x k)
finds_then None P f Q h g = λ k q. h q.0 q.1.0
finds_then (Some x) P f Q h g = finds_as (f x) (Q x) (λ k. (y : ℕ) × IsLowest P y × Q y k) (λ k q. (x, h, q))
    (λ k q. let same : q.0 ≡ x = omega (arith, h.1 q.0 q.1.0, q.1.1 x h.0) in subst (λ y. Q y k) same q.2) (g x)

pub first_of_role : (r : Role) (bytes : List ℕ) → Finds (find (has_role r (names bytes) bytes) (sections bytes)) (IsOf r bytes)
first_of_role r bytes =
    finds_as (find (has_role r (names bytes) bytes) (sections bytes))
    (λ s. Contains (sections bytes) s × (has_role r (names bytes) bytes s ≡ true)) (IsOf r bytes)
    (λ s h. (h.0, role_is r (names bytes) bytes s h.1)) (λ s h. (h.0, is_role r (names bytes) bytes s h.1))
    (finds_first_entry (has_role r (names bytes) bytes) (section_table bytes) 40 (section_count bytes) (omega arith))

head_of_found : (bytes : List ℕ) (x : ℕ) (ys : List ℕ) → entries_fault 16 bytes x ≡ table_fault bytes (found (x ∷ ys))
unfolding found
head_of_found bytes x [] = refl
head_of_found bytes x (y ∷ []) = refl
head_of_found bytes x (y ∷ z ∷ zs) = refl

table_first : (bytes : List ℕ) (p : ℕ → Bool) (xs : List ℕ) → then_of (find p xs) (entries_fault 16 bytes) ≡ table_fault bytes
    (found (filter p xs))
unfolding found
table_first bytes p [] = refl
table_first bytes p (x ∷ xs) = by (p x) (table_first bytes p xs) where
  by : (b : Bool) → then_of (find p xs) (entries_fault 16 bytes) ≡ table_fault bytes (found (filter p xs))
      → then_of (cond b (Some x) (find p xs)) (entries_fault 16 bytes) ≡ table_fault bytes (found (cond b (x ∷ filter p xs) (filter p xs)))
  by true e = head_of_found bytes x (filter p xs)
  by false e = e

-- ---- all sizes

module _ (bytes : List ℕ) where
  abbrev TableSize : ℕ → Type 0
  TableSize k = (s : ℕ) × IsSymbolTable bytes s × IsBadEntrySize 16 bytes s k

  table_finds : Finds (table_fault bytes (with_role role.Symbols (names bytes) bytes)) TableSize
  unfolding with_role
  table_finds =
      finds_at (then_of (find (has_role role.Symbols (names bytes) bytes) (sections bytes)) (entries_fault 16 bytes))
      (table_fault bytes (found (filter (has_role role.Symbols (names bytes) bytes) (sections bytes)))) TableSize
      (table_first bytes (has_role role.Symbols (names bytes) bytes) (sections bytes))
      (finds_then (find (has_role role.Symbols (names bytes) bytes) (sections bytes)) (IsOf role.Symbols bytes) (entries_fault 16 bytes)
      (IsBadEntrySize 16 bytes) (first_of_role role.Symbols bytes) (entries_finds 16 bytes))

  pub relocs_so : (s : ℕ) → Contains (sections bytes) s → is_reloc_section (names bytes) bytes s ≡ true → IsRelocs bytes s
  relocs_so s there h = let both = and_parts (has_role role.Relocs (names bytes) bytes s) (is_kept (target_role (names bytes) bytes s)) h in
      ((there, role_is role.Relocs (names bytes) bytes s both.0), both.1)

  pub so_relocs : (s : ℕ) → IsRelocs bytes s → is_reloc_section (names bytes) bytes s ≡ true
  so_relocs s h = and_from (has_role role.Relocs (names bytes) bytes s) (is_kept (target_role (names bytes) bytes s))
      (is_role role.Relocs (names bytes) bytes s h.0.1) h.1

  abbrev RelocSize : ℕ → Type 0
  RelocSize k = (s : ℕ) × IsRelocs bytes s × IsBadEntrySize 8 bytes s k

  abbrev EntryAt : ℕ → ℕ → Type 0
  EntryAt s k = ((is_reloc_section (names bytes) bytes s ≡ true) × IsBadEntrySize 8 bytes s k)
      ⊎ ((is_reloc_section (names bytes) bytes s ≡ false) × ⊥)

  at_within : (s k : ℕ) → EntryAt s k → (s ≤ k) × (k < s + 40)
  at_within s k (inl h) = entry_within 8 bytes s k h.1
  at_within s k (inr h) = absurd h.1

  reloc_size_to : (k : ℕ) → (s : ℕ) × Contains (sections bytes) s × EntryAt s k → RelocSize k
  reloc_size_to k (s, there, inl h) = (s, relocs_so s there h.0, h.1)
  reloc_size_to k (s, there, inr h) = absurd h.1

  relocs_finds : Finds (sections_fault EntrySizes (table_of bytes) (names bytes) bytes) RelocSize
  unfolding sections_fault
  relocs_finds =
      finds_as (sections_fault EntrySizes (table_of bytes) (names bytes) bytes)
      (λ k. (s : ℕ) × Contains (sections bytes) s × EntryAt s k) RelocSize
      reloc_size_to (λ k h. (h.0, h.1.0.0, inl (so_relocs h.0 h.1, h.2)))
      (finds_some (section_test EntrySizes (table_of bytes) (names bytes) bytes) EntryAt 40
      (λ s. finds_if (is_reloc_section (names bytes) bytes s) (entries_fault 8 bytes s) None (IsBadEntrySize 8 bytes s) (λ k. ⊥)
      (entries_finds 8 bytes s) (λ k never. never)) at_within (section_table bytes) (section_count bytes))

  abbrev TooLong : ℕ → Type 0
  TooLong k = (nat_lt 33554432 (length bytes) ≡ true) × (k ≡ 33554432)

  abbrev Parts1 : ℕ → Type 0
  Parts1 k = TableSize k ⊎ RelocSize k

  abbrev Parts2 : ℕ → Type 0
  Parts2 k = Joined role.Bss bytes k ⊎ Parts1 k

  abbrev Parts3 : ℕ → Type 0
  Parts3 k = Joined role.Init bytes k ⊎ Parts2 k

  abbrev Parts4 : ℕ → Type 0
  Parts4 k = ((word16 bytes 46 ≢ 40) × (k ≡ 46)) ⊎ Parts3 k

  abbrev Parts5 : ℕ → Type 0
  Parts5 k = ((word16 bytes 40 ≢ 52) × (k ≡ 40)) ⊎ Parts4 k

  abbrev Parts6 : ℕ → Type 0
  Parts6 k = Parts5 k ⊎ TooLong k

  size_to : (k : ℕ) → Parts6 k → IsBadObjectSize bytes k
  size_to k (inl (inl (h, e))) = IsBadObjectSize.header h e
  size_to k (inl (inr (inl (h, e)))) = IsBadObjectSize.section_header h e
  size_to k (inl (inr (inr (inl (s, h, e))))) = IsBadObjectSize.init s h e
  size_to k (inl (inr (inr (inr (inl (s, h, e)))))) = IsBadObjectSize.bss s h e
  size_to k (inl (inr (inr (inr (inr (inl (s, h, e))))))) = IsBadObjectSize.symbols s h e
  size_to k (inl (inr (inr (inr (inr (inr (s, h, e))))))) = IsBadObjectSize.relocs s h e
  size_to k (inr (h, e)) = IsBadObjectSize.file (ltb-true 33554432 (length bytes) h) e

  size_from : (k : ℕ) → IsBadObjectSize bytes k → Parts6 k
  size_from k (IsBadObjectSize.header h e) = inl (inl (h, e))
  size_from k (IsBadObjectSize.section_header h e) = inl (inr (inl (h, e)))
  size_from k (IsBadObjectSize.init s h e) = inl (inr (inr (inl (s, h, e))))
  size_from k (IsBadObjectSize.bss s h e) = inl (inr (inr (inr (inl (s, h, e)))))
  size_from k (IsBadObjectSize.symbols s h e) = inl (inr (inr (inr (inr (inl (s, h, e))))))
  size_from k (IsBadObjectSize.relocs s h e) = inl (inr (inr (inr (inr (inr (s, h, e))))))
  size_from k (IsBadObjectSize.file h e) = inr (lt-ltb 33554432 (length bytes) h, e)

  inner_finds : Finds (inner_sizes bytes) Parts5
  unfolding inner_sizes
  inner_finds =
      finds_lower (wrong_half 40 52 bytes) _ (λ k. (word16 bytes 40 ≢ 52) × (k ≡ 40)) Parts4 (finds_field (word16 bytes 40) 52 40)
      (finds_lower (wrong_half 46 40 bytes) _ (λ k. (word16 bytes 46 ≢ 40) × (k ≡ 46)) Parts3 (finds_field (word16 bytes 46) 40 46)
      (finds_lower (joined_fault role.Init (names bytes) bytes 0 (sections bytes)) _ (Joined role.Init bytes) Parts2
      (too_much_finds role.Init bytes)
      (finds_lower (joined_fault role.Bss (names bytes) bytes 0 (sections bytes)) _ (Joined role.Bss bytes) Parts1
      (too_much_finds role.Bss bytes)
      (finds_lower (table_fault bytes (with_role role.Symbols (names bytes) bytes))
      (sections_fault EntrySizes (table_of bytes) (names bytes) bytes) TableSize RelocSize table_finds relocs_finds))))

  pub object_sizes_finds : Finds (object_sizes bytes) (IsBadObjectSize bytes)
  unfolding object_sizes
  object_sizes_finds = finds_as (inner_sizes bytes or_lower too_long bytes) Parts6 (IsBadObjectSize bytes) size_to size_from
      (finds_lower (inner_sizes bytes) (too_long bytes) Parts5 TooLong inner_finds (finds_bad (nat_lt 33554432 (length bytes)) 33554432))

  -- ---- of an image

  abbrev FirstSize : ℕ → Type 0
  FirstSize k = (h : ℕ) × (slice_get (loaded bytes) 0 ≡ Some h) × (word32 bytes (h + 20) ≢ word32 bytes (h + 16)) × (k ≡ h + 20)

  abbrev SecondSize : ℕ → Type 0
  SecondSize k = (h : ℕ) × (slice_get (loaded bytes) 1 ≡ Some h) × (word32 bytes (h + 20) < word32 bytes (h + 16)) × (k ≡ h + 20)

  first_finds : (a : ℕ) → slice_get (loaded bytes) 0 ≡ Some a → Finds (first_size bytes a) FirstSize
  first_finds a is = finds_as (first_size bytes a) (λ k. (word32 bytes (a + 20) ≢ word32 bytes (a + 16)) × (k ≡ a + 20)) FirstSize
      (λ k h. (a, is, h.0, h.1)) from (finds_field (word32 bytes (a + 20)) (word32 bytes (a + 16)) (a + 20)) where
        from : (k : ℕ) → FirstSize k → (word32 bytes (a + 20) ≢ word32 bytes (a + 16)) × (k ≡ a + 20)
        from k (h, there, ne, e) = let same : h ≡ a =
            cc in subst (λ x. (word32 bytes (x + 20) ≢ word32 bytes (x + 16)) × (k ≡ x + 20)) same (ne, e)

  second_finds : (b : ℕ) → slice_get (loaded bytes) 1 ≡ Some b → Finds (second_size bytes b) SecondSize
  second_finds b is = finds_as (second_size bytes b) (λ k. (nat_lt (word32 bytes (b + 20)) (word32 bytes (b + 16)) ≡ true) × (k ≡ b + 20))
      SecondSize (λ k h. (b, is, ltb-true (word32 bytes (b + 20)) (word32 bytes (b + 16)) h.0, h.1)) from
      (finds_bad (nat_lt (word32 bytes (b + 20)) (word32 bytes (b + 16))) (b + 20)) where
        from : (k : ℕ) → SecondSize k → (nat_lt (word32 bytes (b + 20)) (word32 bytes (b + 16)) ≡ true) × (k ≡ b + 20)
        from k (h, there, lt, e) = let same : h ≡ b = cc in
            subst (λ x. (nat_lt (word32 bytes (x + 20)) (word32 bytes (x + 16)) ≡ true) × (k ≡ x + 20)) same
            (lt-ltb (word32 bytes (h + 20)) (word32 bytes (h + 16)) lt, e)

  memory_by : (xs : List ℕ) → loaded bytes ≡ xs → Finds (memory_sizes bytes (found xs)) (λ k. FirstSize k ⊎ SecondSize k)
  unfolding memory_sizes found
  memory_by [] e =
      λ k p. elim p [
        | inl h ↦ absurd (let never : slice_get [] 0 ≡ Some h.0 = ap (λ (x : List ℕ). slice_get x 0) (sym e) ∙ h.1 in cc)
        | inr h ↦ absurd (let never : slice_get [] 1 ≡ Some h.0 = ap (λ (x : List ℕ). slice_get x 1) (sym e) ∙ h.1 in cc)
      ]
  memory_by (a ∷ []) e =
      finds_lower (first_size bytes a) None FirstSize SecondSize (first_finds a (ap (λ (x : List ℕ). slice_get x 0) e))
      (λ k h. absurd (let never : slice_get (a ∷ []) 1 ≡ Some h.0 = ap (λ (x : List ℕ). slice_get x 1) (sym e) ∙ h.1 in cc))
  memory_by (a ∷ b ∷ []) e = finds_lower (first_size bytes a) (second_size bytes b) FirstSize SecondSize
      (first_finds a (ap (λ (x : List ℕ). slice_get x 0) e)) (second_finds b (ap (λ (x : List ℕ). slice_get x 1) e))
  memory_by (a ∷ b ∷ c ∷ rest) e = finds_lower (first_size bytes a) (second_size bytes b) FirstSize SecondSize
      (first_finds a (ap (λ (x : List ℕ). slice_get x 0) e)) (second_finds b (ap (λ (x : List ℕ). slice_get x 1) e))

  memory_finds : Finds (memory_sizes bytes (loads bytes)) (λ k. FirstSize k ⊎ SecondSize k)
  unfolding loads
  memory_finds = memory_by (loaded bytes) refl

  abbrev Image1 : ℕ → Type 0
  Image1 k = (FirstSize k ⊎ SecondSize k) ⊎ TooLong k

  abbrev Image2 : ℕ → Type 0
  Image2 k = ((word16 bytes 46 ≢ 40) × (k ≡ 46)) ⊎ Image1 k

  abbrev Image3 : ℕ → Type 0
  Image3 k = ((word16 bytes 42 ≢ 32) × (k ≡ 42)) ⊎ Image2 k

  abbrev Image4 : ℕ → Type 0
  Image4 k = ((word16 bytes 40 ≢ 52) × (k ≡ 40)) ⊎ Image3 k

  image_to : (k : ℕ) → Image4 k → IsBadImageSize bytes k
  image_to k (inl (h, e)) = IsBadImageSize.header h e
  image_to k (inr (inl (h, e))) = IsBadImageSize.program_header h e
  image_to k (inr (inr (inl (h, e)))) = IsBadImageSize.section_header h e
  image_to k (inr (inr (inr (inl (inl (p, there, h, e)))))) = IsBadImageSize.first p there h e
  image_to k (inr (inr (inr (inl (inr (p, there, h, e)))))) = IsBadImageSize.second p there h e
  image_to k (inr (inr (inr (inr (h, e))))) = IsBadImageSize.file (ltb-true 33554432 (length bytes) h) e

  image_from : (k : ℕ) → IsBadImageSize bytes k → Image4 k
  image_from k (IsBadImageSize.header h e) = inl (h, e)
  image_from k (IsBadImageSize.program_header h e) = inr (inl (h, e))
  image_from k (IsBadImageSize.section_header h e) = inr (inr (inl (h, e)))
  image_from k (IsBadImageSize.first p there h e) = inr (inr (inr (inl (inl (p, there, h, e)))))
  image_from k (IsBadImageSize.second p there h e) = inr (inr (inr (inl (inr (p, there, h, e)))))
  image_from k (IsBadImageSize.file h e) = inr (inr (inr (inr (lt-ltb 33554432 (length bytes) h, e))))

  pub image_sizes_finds : Finds (sizes bytes) (IsBadImageSize bytes)
  unfolding sizes
  image_sizes_finds = finds_as (sizes bytes) Image4 (IsBadImageSize bytes) image_to image_from
      (finds_lower (wrong_half 40 52 bytes) _ (λ k. (word16 bytes 40 ≢ 52) × (k ≡ 40)) Image3 (finds_field (word16 bytes 40) 52 40)
      (finds_lower (wrong_half 42 32 bytes) _ (λ k. (word16 bytes 42 ≢ 32) × (k ≡ 42)) Image2 (finds_field (word16 bytes 42) 32 42)
      (finds_lower (wrong_half 46 40 bytes) _ (λ k. (word16 bytes 46 ≢ 40) × (k ≡ 46)) Image1 (finds_field (word16 bytes 46) 40 46)
      (finds_lower (memory_sizes bytes (loads bytes)) (too_long bytes) (λ k. FirstSize k ⊎ SecondSize k) TooLong memory_finds
      (finds_bad (nat_lt 33554432 (length bytes)) 33554432)))))
