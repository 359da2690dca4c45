-- The symbols of an object in their order.
use Rattle.std.proofs.Common.{◌≡◌, ◌<◌, ◌+◌, ℕ, zero, suc, Bool, List, [], ◌∷◌, ◌++◌, length, take, get_or, Some, refl, ap, ◌∙◌, cond, arith, add-one}
use Rattle.std.specs.Prelude.{slice_get, count_by, map, All}
use Rattle.std.specs.List.{range_with_len}
use Rattle.std.proofs.lemmas.List.FromFn.{get_or-map-range_with_len}
use Rattle.std.proofs.lemmas.List.Elements.{All-head, All-tail}
use Rattle.elf_form.specs.declared.object.Reloc.{Reloc}
use Rattle.std.proofs.lemmas.List.{take_more, map-append}
use Rattle.std.proofs.lemmas.List.Sums.{sum_by-append}
use Rattle.elf_form.specs.declared.object.Symbol.{Symbol}
use Rattle.afterburner.specs.declared.symbol.Definition.{Definition}
use Rattle.afterburner.specs.Objects.{symbol, symbols_seen, ordered_number, renumbered}
use Rattle.afterburner.specs.Tables.{with_number}

pub some_inj : {A : Type 0} {x y : A} → Some x ≡ Some y → x ≡ y
some_inj e = cc

seen_suc : (names : List (List ℕ)) (ds : List Definition) (k : ℕ) (name : List ℕ) (d : Definition) → k < length ds
    → slice_get names k ≡ Some name → symbols_seen (take (suc k) names) (take (suc k) ds) ≡ symbols_seen (take k names) (take k ds)
    ++ symbol name (get_or ds k d) ∷ []
seen_suc [] ds k name d lt e = cc
seen_suc (n ∷ names) [] k name d lt e = absurd (omega arith)
seen_suc (n ∷ names) (x ∷ ds) zero name d lt e = ap (λ (m : List ℕ). symbol m x ∷ []) (some_inj e)
seen_suc (n ∷ names) (x ∷ ds) (suc k) name d lt e =
    let less : k < length ds = omega arith in
    ap (λ (ss : List Symbol). symbol n x ∷ ss) (seen_suc names ds k name d less e)

pub seen_more : (names : List (List ℕ)) (ds : List Definition) (k : ℕ) (name : List ℕ) (d : Definition) → k < length ds
    → slice_get names k ≡ Some name → symbols_seen (take (k + 1) names) (take (k + 1) ds) ≡ symbols_seen (take k names) (take k ds)
    ++ symbol name (get_or ds k d) ∷ []
seen_more names ds k name d lt e = rw (add-one k) (seen_suc names ds k name d lt e)

pub counted_more : {X : Type 0} (p : X → Bool) (xs : List X) (i : ℕ) (d : X) → i < length xs
    → count_by p (take (i + 1) xs) ≡ count_by p (take i xs) + cond (p (get_or xs i d)) 1 0
counted_more p xs i d lt =
    rw (take_more xs i d lt, sum_by-append (λ x. cond (p x) 1 0) (take i xs) (get_or xs i d ∷ [])) (omega arith)

pub renumbered_one : (ds : List Definition) (relocs : List Reloc) → All (λ (r : Reloc). r.symbol < length ds) relocs
    → map (with_number (map (ordered_number ds) (range_with_len 0 (length ds)))) relocs ≡ map (renumbered ds) relocs
renumbered_one ds [] all = refl
renumbered_one ds (r ∷ relocs) all =
    let first : r.symbol < length ds = All-head (λ (x : Reloc). x.symbol < length ds) r relocs all in
    let number : get_or (map (ordered_number ds) (range_with_len 0 (length ds))) r.symbol 0 ≡ ordered_number ds r.symbol =
    get_or-map-range_with_len (ordered_number ds) 0 (length ds) r.symbol r.symbol 0 first (omega arith) in
    let rest = renumbered_one ds relocs (All-tail (λ (x : Reloc). x.symbol < length ds) r relocs all) in
    ap (λ (n : ℕ). record r { symbol = n } ∷ map (with_number (map (ordered_number ds) (range_with_len 0 (length ds)))) relocs) number
    ∙ ap (λ (rs : List Reloc). renumbered ds r ∷ rs) rest

pub renumbered_two : (ds : List Definition) (text data1 out first : List Reloc) (numbers : List ℕ)
    → numbers ≡ map (ordered_number ds) (range_with_len 0 (length ds)) → All (λ (r : Reloc). r.symbol < length ds) text
    → All (λ (r : Reloc). r.symbol < length ds) data1 → first ≡ map (with_number numbers) text → out ≡ first
    ++ map (with_number numbers) data1 → out ≡ map (renumbered ds) (text ++ data1)
renumbered_two ds text data1 out first numbers n t d f o =
    let texts = renumbered_one ds text t in
    let datas = renumbered_one ds data1 d in
    rw (o, f, n, texts, datas, map-append) refl
