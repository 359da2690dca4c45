-- Walks over the symbols of a table, and over relocations.
use Rattle.std.proofs.Common.{◌≡◌, ℕ, ◌+◌, ◌-◌, ◌*◌, ◌<◌, ◌≤◌, true, false, List, [], ◌∷◌, ◌++◌, length, get_or, take, ap, ◌∙◌, append_assoc}
use Rattle.std.specs.Prelude.{map}
use Rattle.std.proofs.lemmas.List.{take_more, map-append}
use Rattle.elf_form.specs.declared.object.Reloc.{Reloc}
use Rattle.elf_form.specs.declared.symbols.Entry.{Entry}
use Rattle.std.proofs.lemmas.Bool.{cond-true, cond-false}
use Rattle.elf_form.specs.Tables.{entries}
use Rattle.elf_form.specs.Symbols.{is_listed, numbers}
use Rattle.elf_form.proofs.TableLaws.{entries-more, entries-end}

module _ (names bytes : List ℕ) (at n i number : ℕ) where
  pub numbers-yes : i < n → is_listed names bytes (at + 16 * i) ≡ true → numbers names bytes number (entries (at + 16 * i) 16 (n - i))
      ≡ number ∷ numbers names bytes (number + 1) (entries (at + 16 * (i + 1)) 16 (n - (i + 1)))
  unfolding numbers
  numbers-yes lt is = ap (numbers names bytes number) (entries-more at 16 n i lt)
      ∙ ap (λ k. number ∷ numbers names bytes k (entries (at + 16 * (i + 1)) 16 (n - (i + 1)))) (cond-true _ _ _ is)

  pub numbers-no : i < n → is_listed names bytes (at + 16 * i) ≡ false → numbers names bytes number (entries (at + 16 * i) 16 (n - i))
      ≡ number ∷ numbers names bytes number (entries (at + 16 * (i + 1)) 16 (n - (i + 1)))
  unfolding numbers
  numbers-no lt is = ap (numbers names bytes number) (entries-more at 16 n i lt)
      ∙ ap (λ k. number ∷ numbers names bytes k (entries (at + 16 * (i + 1)) 16 (n - (i + 1)))) (cond-false _ _ _ is)

  pub numbers-end : n ≤ i → numbers names bytes number (entries (at + 16 * i) 16 (n - i)) ≡ []
  unfolding numbers
  numbers-end le = ap (numbers names bytes number) (entries-end at 16 n i le)

pub relocs-more : (f : Entry → Reloc) (entries : List Entry) (i : ℕ) (e : Entry) (old now : List Reloc) → i < length entries → now ≡ old
    ++ map f (take i entries) → now ++ f (get_or entries i e) ∷ [] ≡ old ++ map f (take (i + 1) entries)
relocs-more f entries i e old now lt before =
    let one : map f (take (i + 1) entries) ≡ map f (take i entries) ++ f (get_or entries i e) ∷ [] =
    ap (map f) (take_more entries i e lt) ∙ map-append f (take i entries) (get_or entries i e ∷ []) in
    rw (before, one) (append_assoc old (map f (take i entries)) (f (get_or entries i e) ∷ []))
