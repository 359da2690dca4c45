-- Where the symbol of a name stands among the ordered ones.
use Rattle.std.proofs.Common.{◌≡◌, ◌+◌, ℕ, zero, suc, Bool, true, false, not, cond, List, [], ◌∷◌, ◌++◌, length, take, Some, refl, sym, ap, ◌∙◌, arith}
use Rattle.std.specs.Prelude.{slice_get, count_by, filter}
use Rattle.std.proofs.lemmas.List.Sums.{sum_by-cons}
use Rattle.elf_form.specs.declared.object.Symbol.{Symbol}
use Rattle.afterburner.specs.declared.symbol.Definition.{Definition}
use Rattle.afterburner.specs.Symbols.{definition_of}
use Rattle.afterburner.specs.Objects.{is_global, are, defines, symbol, symbols_seen, ordered, ordered_number}
use Rattle.afterburner.proofs.Ordering.{some_inj}

-- one more symbol in front, if it is counted
counted : (b : Bool) (s : Symbol) (rest : List Symbol) (c : ℕ) → slice_get (cond b (s ∷ rest) rest) (cond b 1 0 + c) ≡ slice_get rest c
counted true s rest c =
    let e : 1 + c ≡ suc c = omega arith in
    ap (slice_get (s ∷ rest)) e
counted false s rest c =
    let e : 0 + c ≡ c = omega arith in
    ap (slice_get rest) e

first_counted : (b : Bool) (s : Symbol) (rest : List Symbol) → b ≡ true → slice_get (cond b (s ∷ rest) rest) 0 ≡ Some s
first_counted true s rest e = refl
first_counted false s rest e = cc

-- among the symbols of one reach, the symbol of a name of that reach
among : (g : Bool) (names : List (List ℕ)) (ds : List Definition) (k : ℕ) (name : List ℕ) → length names ≡ length ds
    → slice_get names k ≡ Some name → defines g (definition_of ds k) ≡ true
    → slice_get (filter (are g) (symbols_seen names ds)) (count_by (defines g) (take k ds)) ≡ Some (symbol name (definition_of ds k))
among g [] ds k name same is of_it = cc
among g (n ∷ names) [] k name same is of_it = absurd (omega arith)
among g (n ∷ names) (d ∷ ds) zero name same is of_it =
    first_counted (defines g d) (symbol n d) (filter (are g) (symbols_seen names ds)) of_it
    ∙ ap (λ (x : List ℕ). Some (symbol x d)) (some_inj is)
among g (n ∷ names) (d ∷ ds) (suc k) name same is of_it =
    ap (slice_get (cond (defines g d) (symbol n d ∷ filter (are g) (symbols_seen names ds)) (filter (are g) (symbols_seen names ds))))
    (sum_by-cons (λ (x : Definition). cond (defines g x) 1 0) d (take k ds))
    ∙ counted (defines g d) (symbol n d) (filter (are g) (symbols_seen names ds)) (count_by (defines g) (take k ds))
    ∙ among g names ds k name (omega arith) is of_it

length_on : (b : Bool) (s : Symbol) (rest : List Symbol) (c : ℕ) → length rest ≡ c → length (cond b (s ∷ rest) rest) ≡ cond b 1 0 + c
length_on true s rest c e = omega (arith, e)
length_on false s rest c e = omega (arith, e)

how_many : (g : Bool) (names : List (List ℕ)) (ds : List Definition) → length names ≡ length ds
    → length (filter (are g) (symbols_seen names ds)) ≡ count_by (defines g) ds
how_many g [] [] same = refl
how_many g [] (d ∷ ds) same = absurd (omega arith)
how_many g (n ∷ names) [] same = absurd (omega arith)
how_many g (n ∷ names) (d ∷ ds) same =
    length_on (defines g d) (symbol n d) (filter (are g) (symbols_seen names ds)) (count_by (defines g) ds)
    (how_many g names ds (omega arith))
    ∙ sym (sum_by-cons (λ (x : Definition). cond (defines g x) 1 0) d ds)

-- in the first of two lists, and in the second
in_first : (xs ys : List Symbol) (i : ℕ) (s : Symbol) → slice_get xs i ≡ Some s → slice_get (xs ++ ys) i ≡ Some s
in_first [] ys i s is = cc
in_first (x ∷ xs) ys zero s is = is
in_first (x ∷ xs) ys (suc i) s is = in_first xs ys i s is

in_second : (xs ys : List Symbol) (i : ℕ) → slice_get (xs ++ ys) (length xs + i) ≡ slice_get ys i
in_second [] ys i =
    let e : 0 + i ≡ i = omega arith in
    ap (slice_get ys) e
in_second (x ∷ xs) ys i =
    let e : suc (length xs) + i ≡ suc (length xs + i) = omega arith in
    ap (slice_get (x ∷ (xs ++ ys))) e ∙ in_second xs ys i

by_reach : (b : Bool) (names : List (List ℕ)) (ds : List Definition) (k : ℕ) (name : List ℕ) → is_global (definition_of ds k) ≡ b
    → length names ≡ length ds → slice_get names k ≡ Some name
    → slice_get (filter (are false) (symbols_seen names ds) ++ filter (are true) (symbols_seen names ds))
    (cond b (count_by (defines false) ds + count_by (defines true) (take k ds)) (count_by (defines false) (take k ds)))
    ≡ Some (symbol name (definition_of ds k))
by_reach true names ds k name reach same is =
    let seen = symbols_seen names ds in
    ap (λ (n : ℕ). slice_get (filter (are false) seen ++ filter (are true) seen) (n + count_by (defines true) (take k ds)))
    (sym (how_many false names ds same))
    ∙ in_second (filter (are false) seen) (filter (are true) seen) (count_by (defines true) (take k ds))
    ∙ among true names ds k name same is reach
by_reach false names ds k name reach same is =
    in_first (filter (are false) (symbols_seen names ds)) (filter (are true) (symbols_seen names ds)) (count_by (defines false) (take k ds))
    (symbol name (definition_of ds k))
    (among false names ds k name same is (ap not reach))

pub stands_at : (names : List (List ℕ)) (ds : List Definition) (k : ℕ) (name : List ℕ) → length names ≡ length ds
    → slice_get names k ≡ Some name
    → slice_get (ordered (symbols_seen names ds)) (ordered_number ds k) ≡ Some (symbol name (definition_of ds k))
unfolding ordered ordered_number
stands_at names ds k name same is = by_reach (is_global (definition_of ds k)) names ds k name refl same is
