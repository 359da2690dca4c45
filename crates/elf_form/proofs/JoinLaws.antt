-- Walks that join sections, section by section.
use Rattle.std.proofs.Common.{◌≡◌, ℕ, ◌+◌, ◌-◌, ◌*◌, ◌%◌, ◌<◌, ◌≤◌, ◌^◌, true, false, ltb, List, [], ◌∷◌, fold, Some, None, ap, ◌∙◌}
use Rattle.std.proofs.lemmas.Bool.{cond-true, cond-false}
use Rattle.elf_form.specs.declared.roles.Role.{Role}
use Rattle.elf_form.specs.declared.roles.Role.TheVariants.{Init}
use Rattle.elf_form.specs.Output.{pad}
use Rattle.elf_form.specs.Tables.{entries}
use Rattle.elf_form.specs.Roles.{has_role, size, alignment, up, joined_fault, starts, joined_end, with_section, joined}
use Rattle.elf_form.proofs.TableLaws.{entries-more, entries-end, filter-here, filter-next, filter-end}

module _ (r : Role) (names bytes : List ℕ) (at n i : ℕ) where
  abbrev here : ℕ
  here = at + 40 * i

  abbrev left : List ℕ
  left = entries (at + 40 * i) 40 (n - i)

  abbrev next : List ℕ
  next = entries (at + 40 * (i + 1)) 40 (n - (i + 1))

  abbrev pages : ℕ
  pages = size bytes (at + 40 * i) + pad 4096 (size bytes (at + 40 * i))

  pub fault-skip : (total : ℕ) → i < n → has_role r names bytes here ≡ false → joined_fault r names bytes total left ≡ joined_fault r
      names bytes total next
  unfolding joined_fault
  fault-skip total lt none = ap (joined_fault r names bytes total) (entries-more at 40 n i lt) ∙ cond-false _ _ _ none

  pub fault-add : (total : ℕ) → i < n → has_role r names bytes here ≡ true → ltb (total + pages) 4294967296 ≡ true
      → joined_fault r names bytes total left ≡ joined_fault r names bytes (total + pages) next
  unfolding joined_fault
  fault-add total lt has small =
      ap (joined_fault r names bytes total) (entries-more at 40 n i lt) ∙ cond-true _ _ _ has ∙ cond-true _ _ _ small

  pub fault-here : (total : ℕ) → i < n → has_role r names bytes here ≡ true → ltb (total + pages) 4294967296 ≡ false
      → joined_fault r names bytes total left ≡ Some (here + 20)
  unfolding joined_fault
  fault-here total lt has large =
      ap (joined_fault r names bytes total) (entries-more at 40 n i lt) ∙ cond-true _ _ _ has ∙ cond-false _ _ _ large

  pub starts-skip : (end : ℕ) → i < n → has_role r names bytes here ≡ false
      → starts r names bytes end left ≡ 0 ∷ starts r names bytes end next
  unfolding starts
  starts-skip end lt none = ap (starts r names bytes end) (entries-more at 40 n i lt) ∙ cond-false _ _ _ none

  pub starts-add : (end : ℕ) → i < n → has_role r names bytes here ≡ true → starts r names bytes end left ≡ up (alignment bytes here) end
      % 2 ^ 32 ∷ starts r names bytes (up (alignment bytes here) end + size bytes here) next
  unfolding starts
  starts-add end lt has = ap (starts r names bytes end) (entries-more at 40 n i lt) ∙ cond-true _ _ _ has

  -- where a section ends, after an end
  abbrev on : ℕ → ℕ → ℕ
  on end s = up (alignment bytes s) end + size bytes s

  pub end-skip : (end : ℕ) → i < n → has_role r names bytes here ≡ false → joined_end r names bytes end left ≡ joined_end r
      names bytes end next
  unfolding joined_end
  end-skip end lt none = ap (fold on end) (filter-next (has_role r names bytes) at 40 n i lt none)

  pub end-add : (end : ℕ) → i < n → has_role r names bytes here ≡ true → joined_end r names bytes end left ≡ joined_end r names bytes
      (up (alignment bytes here) end + size bytes here) next
  unfolding joined_end
  end-add end lt has = ap (fold on end) (filter-here (has_role r names bytes) at 40 n i lt has)

  pub fault-end : (total : ℕ) → n ≤ i → joined_fault r names bytes total left ≡ None
  unfolding joined_fault
  fault-end total le = ap (joined_fault r names bytes total) (entries-end at 40 n i le)

  pub starts-end : (end : ℕ) → n ≤ i → starts r names bytes end left ≡ []
  unfolding starts
  starts-end end le = ap (starts r names bytes end) (entries-end at 40 n i le)

  pub end-end : (end : ℕ) → n ≤ i → joined_end r names bytes end left ≡ end
  unfolding joined_end
  end-end end le = ap (fold on end) (filter-end (has_role r names bytes) at 40 n i le)

module _ (names bytes : List ℕ) (at n i : ℕ) (init : List ℕ) where
  pub joined-skip : i < n → has_role Init names bytes (at + 40 * i) ≡ false → joined names bytes init (entries (at + 40 * i) 40 (n - i))
      ≡ joined names bytes init (entries (at + 40 * (i + 1)) 40 (n - (i + 1)))
  unfolding joined
  joined-skip lt none = ap (fold (with_section bytes) init) (filter-next (has_role Init names bytes) at 40 n i lt none)

  pub joined-add : i < n → has_role Init names bytes (at + 40 * i) ≡ true → joined names bytes init (entries (at + 40 * i) 40 (n - i))
      ≡ joined names bytes (with_section bytes init (at + 40 * i)) (entries (at + 40 * (i + 1)) 40 (n - (i + 1)))
  unfolding joined
  joined-add lt has = ap (fold (with_section bytes) init) (filter-here (has_role Init names bytes) at 40 n i lt has)

  pub joined-end : n ≤ i → joined names bytes init (entries (at + 40 * i) 40 (n - i)) ≡ init
  unfolding joined
  joined-end le = ap (fold (with_section bytes) init) (filter-end (has_role Init names bytes) at 40 n i le)
