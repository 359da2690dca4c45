-- Each name of a symbol is read at its place in the string table.
use Rattle.std.proofs.Common.{◌≡◌, ◌≢◌, ℕ, ◌+◌, ◌-◌, ◌<◌, Bool, true, false, cond, eqb, List, [], ◌∷◌, ◌++◌, length, get_or, drop, take, fold, Option, Some, None, refl, sym, ap, ◌∙◌, arith, append_assoc}
use Rattle.std.specs.Prelude.{All, is_some}
use Rattle.std.specs.List.{before_first, position_or_len, AllByRecursion}
use Rattle.std.specs.Str.{bytes_eq}
use Rattle.std.proofs.Math.ListN.{get_or-append}
use Rattle.std.proofs.Math.Seq.{get_or-append_seam, drop-append-add}
use Rattle.std.proofs.lemmas.List.{length-append, length-drop, take_at}
use Rattle.std.proofs.lemmas.List.Folds.{list_any-append}
use Rattle.std.proofs.lemmas.List.Sums.{position_or_len_is}
use Rattle.std.proofs.lemmas.Slice.Eq.{bytes_eq-Decides}
use Rattle.guest_ram.specs.Among.{is_among}
use Rattle.elf_form.specs.declared.object.Symbol.{Symbol}
use Rattle.elf_form.specs.Tables.{further}
use Rattle.elf_form.specs.StringTable.{place_in, with_name, table_bytes, name_place}
use Rattle.elf_form.specs.ObjectLayout.{names_of}
use Rattle.elf_form.specs.Symbols.{name_in}
use Rattle.elf_form.proofs.StringLaws.{else_last, place_in-append}

-- ---- a name that has a place stands there, and a zero byte after it

pub record StandsAt (names : List (List ℕ)) (name : List ℕ) (at : ℕ) : Type 0 where
  pub rest : List ℕ
  pub split : drop at (table_bytes names) ≡ name ++ (0 ∷ rest)

pub stands : (names : List (List ℕ)) (name : List ℕ) (at : ℕ) → place_in names name ≡ Some at → StandsAt names name at
unfolding table_bytes
stands [] name at e = absurd cc
stands (n ∷ names) name at e = split (bytes_eq name n) (λ later is. stands names name later is) refl e where
  behind : (o : Option ℕ) → ((later : ℕ) → place_in names name ≡ Some later → StandsAt names name later) → place_in names name ≡ o
      → further (length n + 1) o ≡ Some at → StandsAt (n ∷ names) name at
  behind None known is h = absurd cc
  behind (Some later) known is h =
      let left : StandsAt names name later = known later is in
      let place : later + (length n + 1) ≡ at = cc in
      let len : length (n ++ 0 ∷ []) + later ≡ at = omega (arith, length-append n (0 ∷ [])) in
      record {
        rest = left.rest;
        split = ap (λ (k : ℕ). drop k ((n ++ 0 ∷ []) ++ table_bytes names)) (sym len)
            ∙ drop-append-add (n ++ 0 ∷ []) (table_bytes names) later ∙ left.split;
      }

  split : (b : Bool) → ((later : ℕ) → place_in names name ≡ Some later → StandsAt names name later) → bytes_eq name n ≡ b
      → cond b (Some 0) (further (length n + 1) (place_in names name)) ≡ Some at → StandsAt (n ∷ names) name at
  split true known is h =
      let start : 0 ≡ at = cc in
      let same : n ≡ name = sym ((bytes_eq-Decides name n).0 is) in
      record {
        rest = table_bytes names;
        split = ap (λ (k : ℕ). drop k ((n ++ 0 ∷ []) ++ table_bytes names)) (sym start) ∙ append_assoc n (0 ∷ []) (table_bytes names)
            ∙ ap (λ (m : List ℕ). m ++ (0 ∷ table_bytes names)) same;
      }
  split false known is h = behind (place_in names name) known refl h

-- ---- each name that was added has a place

abbrev pub HasPlace : List (List ℕ) → List ℕ → Type 0
HasPlace names name = (at : ℕ) × (place_in names name ≡ Some at)

last_stays : (o : Option ℕ) (at end : ℕ) (same : Bool) → o ≡ Some at → else_last o same end ≡ Some at
last_stays None at end same e = absurd cc
last_stays (Some b) at end same e = e

place_stays : (names : List (List ℕ)) (name q : List ℕ) (o : Option ℕ) → HasPlace names q
    → HasPlace (cond (is_some o) names (names ++ name ∷ [])) q
place_stays names name q None has =
    (has.0, place_in-append names name q ∙ last_stays (place_in names q) (has.0) (length (table_bytes names)) (bytes_eq q name) (has.1))
place_stays names name q (Some at) has = has

placed_now : (names : List (List ℕ)) (name : List ℕ) (o : Option ℕ) → place_in names name ≡ o
    → HasPlace (cond (is_some o) names (names ++ name ∷ [])) name
placed_now names name None e =
    let same : bytes_eq name name ≡ true = (bytes_eq-Decides name name).1 refl in
    (length (table_bytes names), place_in-append names name name ∙ rw (e, same) refl)
placed_now names name (Some at) e = (at, e)

places_stay : (xs : List Symbol) (names : List (List ℕ)) (q : List ℕ) → HasPlace names q
    → HasPlace (fold (λ ns s. with_name ns s.name) names xs) q
places_stay [] names q has = has
places_stay (x ∷ xs) names q has = places_stay xs (with_name names x.name) q (place_stays names x.name q (place_in names x.name) has)

all_placed : (xs : List Symbol) (names : List (List ℕ))
    → AllByRecursion (λ s. HasPlace (fold (λ ns s. with_name ns s.name) names xs) s.name) xs
all_placed [] names = tt
all_placed (x ∷ xs) names = (
  places_stay xs (with_name names x.name) x.name (placed_now names x.name (place_in names x.name) refl),
  all_placed xs (with_name names x.name),
)

pub names_placed : (xs : List Symbol) → AllByRecursion (λ s. HasPlace (names_of xs) s.name) xs
unfolding names_of
names_placed xs = all_placed xs ([] ∷ [])

-- ---- what is read of a name that has a place

not_zero : (b : ℕ) → b ≢ 0 → eqb b 0 ≡ false
not_zero b ne = grind (arith, ne)

before_zero : (name rest : List ℕ) → All (λ b. b ≢ 0) name → before_first (λ b. eqb b 0) (name ++ (0 ∷ rest)) ≡ name
before_zero name rest none =
    let len : length (name ++ (0 ∷ rest)) ≡ length name + (length rest + 1) = omega (arith, length-append name (0 ∷ rest)) in
    let at : position_or_len (λ b. eqb b 0) (name ++ (0 ∷ rest)) ≡ length name =
    position_or_len_is (λ b. eqb b 0) (name ++ (0 ∷ rest)) (length name) 0 (omega arith)
    (λ k lt. ap (λ (b : ℕ). eqb b 0) (get_or-append name (0 ∷ rest) 0 k lt) ∙ not_zero (get_or name k 0) (none k 0 lt))
    (λ lt. ap (λ (b : ℕ). eqb b 0) (get_or-append_seam name 0 rest 0)) in
    ap (λ (n : ℕ). take n (name ++ (0 ∷ rest))) at ∙ take_at name (0 ∷ rest) (length name) refl

some_zero : (name rest : List ℕ) → is_among 0 (name ++ (0 ∷ rest)) ≡ true
some_zero name rest = list_any-append (eqb 0) name (0 ∷ rest) ∙ grind arith

-- what is known of a name in the string table
pub record IsRead (names : List (List ℕ)) (name : List ℕ) : Type 0 where
  pub inside : name_place names name < length (table_bytes names)
  pub ended : is_among 0 (drop (name_place names name) (table_bytes names)) ≡ true
  pub read : name_in (table_bytes names) (name_place names name) ≡ name

pub name_read : (names : List (List ℕ)) (name : List ℕ) → HasPlace names name → All (λ b. b ≢ 0) name → IsRead names name
unfolding name_place
name_read names name has none =
    let known : StandsAt names name (has.0) = stands names name (has.0) (has.1) in
    let here : name_place names name ≡ has.0 = rw (has.1) refl in
    let split : drop (name_place names name) (table_bytes names) ≡ name ++ (0 ∷ known.rest) =
    ap (λ (k : ℕ). drop k (table_bytes names)) here ∙ known.split in
    let left : length (table_bytes names) - name_place names name ≡ length name + (length known.rest + 1) =
    sym (length-drop (name_place names name) (table_bytes names)) ∙ ap length split ∙ length-append name (0 ∷ known.rest) ∙ omega arith in
    record {
      inside = omega arith;
      ended = ap (is_among 0) split ∙ some_zero name known.rest;
      read = ap (before_first (λ b. eqb b 0)) split ∙ before_zero name known.rest none;
    }
