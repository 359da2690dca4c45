-- The names of some first symbols of a list.
use Rattle.std.proofs.Common.{◌≡◌, ℕ, zero, suc, ◌+◌, ◌≤◌, ◌<◌, List, [], ◌∷◌, ◌++◌, length, cond, get_or, take, replicate, Option, Some, None, sym, ap, ◌∙◌, arith, append_assoc, below_more}
use Rattle.std.specs.Prelude.{fold, filter, is_some, Bool, true, false}
use Rattle.std.specs.List.{flat_map}
use Rattle.std.proofs.lemmas.List.{length-append, take_more, append-nil, get_or_default}
use Rattle.std.proofs.lemmas.List.Sums.{fold_more, position_or_len_is}
use Rattle.elf_form.specs.declared.object.Place.TheVariants.{Undefined}
use Rattle.std.proofs.lemmas.List.Elements.{filter_more}
use Rattle.std.proofs.lemmas.Grind.{flat_map-append}
use Rattle.elf_form.specs.declared.object.Symbol.{Symbol}
use Rattle.elf_form.specs.declared.object.Reloc.{Reloc}
use Rattle.elf_form.specs.StringTable.{place_in, with_name, table_bytes}
use Rattle.elf_form.specs.ObjectLayout.{names_of, strings_of, symbol_bytes, is_of, reloc_bytes, reloc_table, first_global}
use Rattle.elf_form.proofs.StringLaws.{table_bytes-append}

abbrev add : List (List ℕ) → Symbol → List (List ℕ)
add names s = with_name names s.name

grows_once : (names : List (List ℕ)) (name : List ℕ) (o : Option ℕ)
    → length (table_bytes names) ≤ length (table_bytes (cond (is_some o) names (names ++ name ∷ [])))
grows_once names name None = rw (table_bytes-append names name) (omega (arith, length-append (table_bytes names) (name ++ 0 ∷ [])))
grows_once names name (Some at) = omega arith

grows : (names : List (List ℕ)) (symbols : List Symbol) → length (table_bytes names) ≤ length (table_bytes (fold add names symbols))
grows names [] = omega arith
grows names (s ∷ symbols) = omega (arith, grows_once names s.name (place_in names s.name), grows (add names s) symbols)

fits_from : (names : List (List ℕ)) (symbols : List Symbol) (i : ℕ) → length (table_bytes (fold add names (take i symbols))) ≤ length
    (table_bytes (fold add names symbols))
fits_from names symbols zero = grows names symbols
fits_from names [] (suc i) = omega arith
fits_from names (s ∷ symbols) (suc i) = fits_from (add names s) symbols i

pub names_of-fits : (symbols : List Symbol) (i : ℕ) → length (table_bytes (names_of (take i symbols))) ≤ length (strings_of symbols)
unfolding names_of strings_of
names_of-fits symbols i = fits_from ([] ∷ []) symbols i

pub names_of-more : (symbols : List Symbol) (i : ℕ) (s : Symbol) → i < length symbols → s ≡ get_or symbols i s
    → names_of (take (i + 1) symbols) ≡ with_name (names_of (take i symbols)) s.name
unfolding names_of
names_of-more symbols i s lt is = fold_more add ([] ∷ []) symbols i s lt ∙ ap (add (names_of (take i symbols))) (sym is)

pub symbols-more : (names : List (List ℕ)) (symbols : List Symbol) (i : ℕ) (s : Symbol) (old now : List ℕ) → i < length symbols
    → s ≡ get_or symbols i s
    → now ≡ old ++ (replicate 16 0 ++ flat_map (symbol_bytes names) (take i symbols)) → now ++ symbol_bytes names s ≡ old
    ++ (replicate 16 0 ++ flat_map (symbol_bytes names) (take (i + 1) symbols))
symbols-more names symbols i s old now lt is before =
    let one : flat_map (symbol_bytes names) (take (i + 1) symbols) ≡ flat_map (symbol_bytes names) (take i symbols)
    ++ symbol_bytes names s =
    ap (flat_map (symbol_bytes names)) (take_more symbols i s lt ∙ ap (λ (x : Symbol). take i symbols ++ x ∷ []) (sym is))
    ∙ flat_map-append (symbol_bytes names) (take i symbols) (s ∷ [])
    ∙ ap (λ (x : List ℕ). flat_map (symbol_bytes names) (take i symbols) ++ x) (append-nil (symbol_bytes names s)) in
    rw (before, one) (simp append_assoc)

pub relocs-yes : (b : Bool) (relocs : List Reloc) (i : ℕ) (d : Reloc) → i < length relocs → is_of b (get_or relocs i d) ≡ true
    → reloc_table b (take (i + 1) relocs) ≡ reloc_table b (take i relocs) ++ reloc_bytes (get_or relocs i d)
unfolding reloc_table
relocs-yes b relocs i d lt is =
    ap (flat_map reloc_bytes) (filter_more (is_of b) relocs i d lt)
    ∙ rw is (flat_map-append reloc_bytes (filter (is_of b) (take i relocs)) (get_or relocs i d ∷ [])
    ∙ ap (λ (x : List ℕ). flat_map reloc_bytes (filter (is_of b) (take i relocs)) ++ x) (append-nil (reloc_bytes (get_or relocs i d))))

pub relocs-no : (b : Bool) (relocs : List Reloc) (i : ℕ) (d : Reloc) → i < length relocs → is_of b (get_or relocs i d) ≡ false
    → reloc_table b (take (i + 1) relocs) ≡ reloc_table b (take i relocs)
unfolding reloc_table
relocs-no b relocs i d lt is =
    ap (flat_map reloc_bytes) (filter_more (is_of b) relocs i d lt)
    ∙ rw is (ap (flat_map reloc_bytes) (append-nil (filter (is_of b) (take i relocs))))

pub reloc_put : (b : Bool) (relocs : List Reloc) (i : ℕ) (d : Reloc) (old now : List ℕ) → i < length relocs
    → is_of b (get_or relocs i d) ≡ true
    → now ≡ old ++ reloc_table b (take i relocs) → now ++ reloc_bytes (get_or relocs i d) ≡ old ++ reloc_table b (take (i + 1) relocs)
reloc_put b relocs i d old now lt is before =
    rw (before, relocs-yes b relocs i d lt is) (append_assoc old (reloc_table b (take i relocs)) (reloc_bytes (get_or relocs i d)))

-- no symbol before i is global
abbrev pub NoGlobalBefore : List Symbol → ℕ → Type 0
NoGlobalBefore symbols i = (k : ℕ) (d : Symbol) → k < i → (get_or symbols k d).global ≡ false

pub no_global-more : (symbols : List Symbol) (i : ℕ) (s : Symbol) → i < length symbols → s ≡ get_or symbols i s → s.global ≡ false
    → NoGlobalBefore symbols i → NoGlobalBefore symbols (i + 1)
no_global-more symbols i s lt is here before =
    let all : (k : ℕ) → k < i + 1 → (d : Symbol) → (get_or symbols k d).global ≡ false =
    below_more (λ (k : ℕ). (d : Symbol) → (get_or symbols k d).global ≡ false) i (λ k h d. before k d h)
    (λ d. ap (λ (x : Symbol). x.global) (get_or_default symbols i d s lt ∙ sym is) ∙ here) in
    λ k d h. all k h d

pub first_global-here : (symbols : List Symbol) (i : ℕ) (s : Symbol) → i < length symbols → s ≡ get_or symbols i s → s.global ≡ true
    → NoGlobalBefore symbols i → i + 1 ≡ first_global symbols
first_global-here symbols i s lt is here before =
    ap (λ (k : ℕ). k + 1) (sym (position_or_len_is (λ s. s.global) symbols i s (omega arith) (λ k h. before k s h)
    (λ _. ap (λ (x : Symbol). x.global) (sym is) ∙ here)))

pub first_global-none : (symbols : List Symbol) (i : ℕ) → length symbols ≤ i → i ≤ length symbols → NoGlobalBefore symbols i
    → length symbols + 1 ≡ first_global symbols
first_global-none symbols i le ge before =
    ap (λ (k : ℕ). k + 1) (sym (position_or_len_is (λ s. s.global) symbols (length symbols) no_symbol (omega arith)
    (λ k h. before k no_symbol (omega arith)) (λ h. absurd (omega arith)))) where
      no_symbol : Symbol
      no_symbol = record { name = []; place = Undefined; value = 0; global = false }
