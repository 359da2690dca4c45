-- The steps of adding an object's names.
use Rattle.std.proofs.Common.{◌≡◌, ℕ, ◌+◌, ◌<◌, ◌≤◌, Bool, true, false, cond, List, [], ◌∷◌, ◌++◌, length, get_or, drop, Some, None, refl, ap, sym, ◌∙◌, append_assoc}
use Rattle.std.specs.Prelude.{map, filter}
use Rattle.std.proofs.lemmas.List.{at_drop_more, at_drop_all, map-append, append-nil}
use Rattle.elf_form.specs.declared.object.Symbol.{Symbol}
use Rattle.elf_link.specs.declared.target.Target.{Target}
use Rattle.elf_link.specs.Symbols.{is_exported, target}
use Rattle.elf_link.specs.Refusals.{holds, first_doubled}

abbrev pub keys : List (List ℕ × Target) → List (List ℕ)
keys gs = map (λ d. d.0) gs

abbrev pub names : List Symbol → List (List ℕ)
names symbols = map (λ s. s.name) (filter is_exported symbols)

abbrev pub entries : ℕ → List Symbol → List (List ℕ × Target)
entries n symbols = map (λ s. (s.name, target n s)) (filter is_exported symbols)

-- The symbols before i were added.
pub record Exporting (n : ℕ) (old gs : List (List ℕ × Target)) (symbols : List Symbol) (i : ℕ) : Type 0 where
  pub so_far : first_doubled (keys gs) (names (drop i symbols)) ≡ first_doubled (keys old) (names symbols)
  pub added : gs ++ entries n (drop i symbols) ≡ old ++ entries n symbols

pub exporting_first : (n : ℕ) (gs : List (List ℕ × Target)) (symbols : List Symbol) → Exporting n gs gs symbols 0
exporting_first n gs symbols = record { so_far = refl; added = refl }

module _ (n : ℕ) (old gs : List (List ℕ × Target)) (symbols : List Symbol) (i : ℕ) (s : Symbol) (lt : i < length symbols)
    (is : get_or symbols i s ≡ s) (now : Exporting n old gs symbols i) where
  rest : List Symbol
  rest = drop (i + 1) symbols

  names_at : (b : Bool) → is_exported s ≡ b
      → names (drop i symbols) ≡ map (λ x. x.name) (cond b (s ∷ filter is_exported rest) (filter is_exported rest))
  unfolding rest
  names_at b e =
      at_drop_more names symbols i s lt
      ∙ (ap (λ (x : Symbol). names (x ∷ drop (i + 1) symbols)) is
      ∙ ap (λ (t : Bool). map (λ (x : Symbol). x.name)
      (cond t (s ∷ filter is_exported (drop (i + 1) symbols)) (filter is_exported (drop (i + 1) symbols)))) e)

  entries_at : (b : Bool) → is_exported s ≡ b → entries n (drop i symbols) ≡ map (λ x. (x.name, target n x))
      (cond b (s ∷ filter is_exported rest) (filter is_exported rest))
  unfolding rest
  entries_at b e =
      at_drop_more (entries n) symbols i s lt
      ∙ (ap (λ (x : Symbol). entries n (x ∷ drop (i + 1) symbols)) is
      ∙ ap (λ (t : Bool). map (λ (x : Symbol). (x.name, target n x))
      (cond t (s ∷ filter is_exported (drop (i + 1) symbols)) (filter is_exported (drop (i + 1) symbols)))) e)

  pub exporting_skipped : is_exported s ≡ false → Exporting n old gs symbols (i + 1)
  unfolding rest
  exporting_skipped e = record {
    so_far = ap (first_doubled (keys gs)) (sym (names_at false e)) ∙ now.so_far;
    added = ap (λ (es : List (List ℕ × Target)). gs ++ es) (sym (entries_at false e)) ∙ now.added;
  }

  pub exporting_doubled : is_exported s ≡ true → holds (keys gs) s.name ≡ true → first_doubled (keys old) (names symbols) ≡ Some s.name
  unfolding rest first_doubled
  exporting_doubled e there =
      sym now.so_far
      ∙ (ap (first_doubled (keys gs)) (names_at true e)
      ∙ ap (λ (t : Bool). cond t (Some s.name) (first_doubled (keys gs ++ s.name ∷ []) (names (drop (i + 1) symbols)))) there)

  pub exporting_added : is_exported s ≡ true → holds (keys gs) s.name ≡ false
      → Exporting n old (gs ++ (s.name, target n s) ∷ []) symbols (i + 1)
  unfolding rest first_doubled
  exporting_added e absent = record {
    so_far =
        ap (λ (ks : List (List ℕ)). first_doubled ks (names (drop (i + 1) symbols)))
        (map-append (λ (d : List ℕ × Target). d.0) gs ((s.name, target n s) ∷ []))
        ∙ (sym (ap (λ (t : Bool). cond t (Some s.name) (first_doubled (keys gs ++ s.name ∷ []) (names (drop (i + 1) symbols)))) absent)
        ∙ (sym (ap (first_doubled (keys gs)) (names_at true e)) ∙ now.so_far));
    added =
        append_assoc gs ((s.name, target n s) ∷ []) (entries n (drop (i + 1) symbols))
        ∙ (ap (λ (es : List (List ℕ × Target)). gs ++ es) (sym (entries_at true e)) ∙ now.added);
  }

module _ (n : ℕ) (old gs : List (List ℕ × Target)) (symbols : List Symbol) (i : ℕ) (past : length symbols ≤ i)
    (now : Exporting n old gs symbols i) where
  pub exporting_none : first_doubled (keys old) (names symbols) ≡ None
  unfolding first_doubled
  exporting_none = sym now.so_far ∙ at_drop_all (λ (ss : List Symbol). first_doubled (keys gs) (names ss)) symbols i past

  pub exporting_all : gs ≡ old ++ entries n symbols
  exporting_all =
      sym (append-nil gs) ∙ (ap (λ (es : List (List ℕ × Target)). gs ++ es) (sym (at_drop_all (entries n) symbols i past)) ∙ now.added)
