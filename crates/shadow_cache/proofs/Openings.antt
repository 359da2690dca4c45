-- For which directory indices pairs have tables, after each call.
use Rattle.std.proofs.Common.{◌≡◌, ℕ, zero, suc, ◌<◌, ◌≤◌, List, [], ◌∷◌, length, length-append, take, filter, remove, slice_get, Bool, true, false, not, cond, Option, Some, None, sym, ap, subst, arith}
use Rattle.std.specs.Prelude.{MatchOption, slice_set}
use Rattle.std.proofs.lemmas.Option.{same_Some}
use Rattle.shadow_tables.specs.Slots.{held, roots, IsEmpty}
use Rattle.shadow_tables.specs.Opened.{HasOpenedOnly}
use Rattle.shadow_tables.specs.Laws.Openings.{only-kept, only-has_tables_under, only-none}
use Rattle.shadow_tables.specs.declared.words.Side.{Side}
use Rattle.shadow_cache.specs.Pairs.{reads, frames_of}
use Rattle.shadow_cache.specs.Opening.{AllOpenedOnly}
use Rattle.shadow_cache.specs.Others.{AreKept, AllLoseWrites, place_of}
use Rattle.shadow_cache.specs.After.{noted_in, written_in, emptied, OpensIn, KeepsIn}
use Rattle.shadow_cache.specs.Switched.{IsFresh, staying_pairs, ComesBack, Opens, IsSwitched}
use Rattle.shadow_cache.specs.declared.pair.Pair.{Pair}

no-longer : (xs ys : List ℕ) → xs ≡ ys → length xs ≤ length ys
no-longer xs ys e = let f = ap (λ (l : List ℕ). length l) e in omega (arith, f)

pub kept-has_tables_under : (indices : ℕ → Bool) (ps : List Pair) (m m' : List ℕ) → AreKept ps m m' → AllOpenedOnly indices ps m
    → AllOpenedOnly indices ps m'
kept-has_tables_under indices [] m m' k h = tt
kept-has_tables_under indices (p ∷ ps) m m' k h =
    (only-kept indices p.shadow m m' k.4 (no-longer _ _ k.1) h.0, kept-has_tables_under indices ps m m' k.3 h.1)

pub lose-has_tables_under : (indices : ℕ → Bool) (ps : List Pair) (m m' : List ℕ) (frame : ℕ) → AllLoseWrites ps m m' frame
    → AllOpenedOnly indices ps m → AllOpenedOnly indices ps m'
lose-has_tables_under indices [] m m' frame k h = tt
lose-has_tables_under indices (p ∷ ps) m m' frame k h =
    (only-kept indices p.shadow m m' k.3 (no-longer _ _ k.2) h.0, lose-has_tables_under indices ps m m' frame k.1 h.1)

-- the present pair keeps its tables, and the others are kept
pub dropped-has_tables_under : (indices : ℕ → Bool) (p : Pair) (ps qs : List Pair) (m m' : List ℕ) → qs ≡ p ∷ ps → KeepsIn (p ∷ ps) m m'
    → AreKept ps m m' → AllOpenedOnly indices (p ∷ ps) m → AllOpenedOnly indices qs m'
dropped-has_tables_under indices p ps qs m m' e k o h =
    subst (λ (xs : List Pair). AllOpenedOnly indices xs m') (sym e) (
      only-kept indices p.shadow m m' k.1 (no-longer _ _ k.0) h.0,
      kept-has_tables_under indices ps m m' o h.1,
    )

pub filled-has_tables_under : (indices : ℕ → Bool) (p : Pair) (ps qs : List Pair) (m m' : List ℕ) (side : Side) (index : ℕ) → index < 1024
    → qs ≡ p ∷ ps → OpensIn (p ∷ ps) m m' side index → AreKept ps m m' → indices index ≡ true
    → AllOpenedOnly indices (p ∷ ps) m → AllOpenedOnly indices qs m'
filled-has_tables_under indices p ps qs m m' side index l e k o may h =
    subst (λ (xs : List Pair). AllOpenedOnly indices xs m') (sym e) (
      only-has_tables_under indices p.shadow m m' side index l k may h.0,
      kept-has_tables_under indices ps m m' o h.1,
    )

-- what is noted of a pair makes no difference
pub read_from-has_tables_under : (indices : ℕ → Bool) (p : Pair) (ps qs : List Pair) (m m' : List ℕ) (frame : ℕ)
    → qs ≡ noted_in (p ∷ ps) frame → AllLoseWrites (p ∷ ps) m m' frame → AllOpenedOnly indices (p ∷ ps) m → AllOpenedOnly indices qs m'
read_from-has_tables_under indices p ps qs m m' frame e k h =
    subst (λ (xs : List Pair). AllOpenedOnly indices xs m') (sym e) (lose-has_tables_under indices (p ∷ ps) m m' frame k h)

filter-has_tables_under : (indices : ℕ → Bool) (test : Pair → Bool) (ps : List Pair) (m : List ℕ) → AllOpenedOnly indices ps m
    → AllOpenedOnly indices (filter test ps) m
filter-has_tables_under indices test [] m h = tt
filter-has_tables_under indices test (p ∷ ps) m h = by (test p) (filter-has_tables_under indices test ps m h.1)
  where
    by : (b : Bool) → AllOpenedOnly indices (filter test ps) m → AllOpenedOnly indices (cond b (p ∷ filter test ps) (filter test ps)) m
    by true k = (h.0, k)
    by false k = k

stale-has_tables_under : (indices : ℕ → Bool) (p : Pair) (ps : List Pair) (m : List ℕ) (frame : ℕ) → AllOpenedOnly indices (p ∷ ps) m
    → AllOpenedOnly indices (written_in (p ∷ ps) frame) m
stale-has_tables_under indices p ps m frame h = (by (reads p frame), filter-has_tables_under indices (λ q. not (reads q frame)) ps m h.1)
  where
    by : (b : Bool) → HasOpenedOnly indices (cond b (record p { tables = slice_set p.tables frame false; stale = true }) p).shadow m
    by true = h.0
    by false = h.0

pub written-has_tables_under : (indices : ℕ → Bool) (p : Pair) (ps qs : List Pair) (m m' : List ℕ) (frame : ℕ)
    → qs ≡ written_in (p ∷ ps) frame → AreKept qs m m' → AllOpenedOnly indices (p ∷ ps) m → AllOpenedOnly indices qs m'
written-has_tables_under indices p ps qs m m' frame e k h =
    kept-has_tables_under indices qs m m' k
    (subst (λ (xs : List Pair). AllOpenedOnly indices xs m) (sym e) (stale-has_tables_under indices p ps m frame h))

pub emptied-has_tables_under : (indices : ℕ → Bool) (p : Pair) (ps qs : List Pair) (m' : List ℕ) → qs ≡ emptied (p ∷ ps)
    → length (frames_of qs m') ≡ 2 → AllOpenedOnly indices qs m'
unfolding frames_of
emptied-has_tables_under indices p ps qs m' e two =
    subst (λ (xs : List Pair). AllOpenedOnly indices xs m') (sym e) (
      only-none indices p.shadow m' (let a = ap (λ (xs : List Pair). length (frames_of xs m')) e in
          let b = length-append (held p.shadow m') [] in omega (arith, a, b, two)),
      tt,
    )

-- ---- a load

staying-has_tables_under : (indices : ℕ → Bool) (p : Pair) (ps : List Pair) (m : List ℕ) → AllOpenedOnly indices (p ∷ ps) m
    → AllOpenedOnly indices (staying_pairs (p ∷ ps)) m
staying-has_tables_under indices p ps m h = by p.stale
  where
    by : (b : Bool) → AllOpenedOnly indices (cond b ps (p ∷ ps)) m
    by true = h.1
    by false = h

take-has_tables_under : (indices : ℕ → Bool) (n : ℕ) (ps : List Pair) (m : List ℕ) → AllOpenedOnly indices ps m
    → AllOpenedOnly indices (take n ps) m
take-has_tables_under indices zero ps m h = tt
take-has_tables_under indices (suc n) [] m h = tt
take-has_tables_under indices (suc n) (p ∷ ps) m h = (h.0, take-has_tables_under indices n ps m h.1)

pub fresh-has_tables_under : (indices : ℕ → Bool) (p : Pair) (m : List ℕ) (cr3 : ℕ) → IsFresh p m cr3 → HasOpenedOnly indices p.shadow m
fresh-has_tables_under indices p m cr3 h = only-none indices p.shadow m (no-longer (held p.shadow m) (roots p.shadow) h.empty.frames)

remove-has_tables_under : (indices : ℕ → Bool) (ps : List Pair) (i : ℕ) (m : List ℕ) → AllOpenedOnly indices ps m
    → AllOpenedOnly indices (remove ps i) m
remove-has_tables_under indices [] zero m h = tt
remove-has_tables_under indices [] (suc i) m h = tt
remove-has_tables_under indices (q ∷ qs) zero m h = h.1
remove-has_tables_under indices (q ∷ qs) (suc i) m h = (h.0, remove-has_tables_under indices qs i m h.1)

at-has_tables_under : (indices : ℕ → Bool) (ps : List Pair) (i : ℕ) (p : Pair) (m : List ℕ) → slice_get ps i ≡ Some p
    → AllOpenedOnly indices ps m → HasOpenedOnly indices p.shadow m
at-has_tables_under indices [] i p m e h = absurd cc
at-has_tables_under indices (q ∷ qs) zero p m e h = subst (λ (x : Pair). HasOpenedOnly indices x.shadow m) (same_Some q p e) h.0
at-has_tables_under indices (q ∷ qs) (suc i) p m e h = at-has_tables_under indices qs i p m e h.1

back-has_tables_under : (indices : ℕ → Bool) (ps qs : List Pair) (m m' : List ℕ) (i : ℕ) → ComesBack ps qs m m' i
    → AllOpenedOnly indices ps m → AllOpenedOnly indices qs m'
back-has_tables_under indices ps qs m m' i c h =
    kept-has_tables_under indices qs m m' c.kept
    (subst (λ (xs : List Pair). AllOpenedOnly indices xs m) (sym c.front)
    (at-has_tables_under indices ps i c.pair m c.here h, remove-has_tables_under indices ps i m h))

new-has_tables_under : (indices : ℕ → Bool) (ps qs : List Pair) (m m' : List ℕ) (cr3 : ℕ) → Opens ps qs m m' cr3
    → AllOpenedOnly indices ps m → AllOpenedOnly indices qs m'
new-has_tables_under indices ps qs m m' cr3 o h =
    subst (λ (xs : List Pair). AllOpenedOnly indices xs m') (sym o.front) (
      fresh-has_tables_under indices o.pair m' cr3 o.fresh,
      kept-has_tables_under indices (take 7 ps) m m' o.kept (take-has_tables_under indices 7 ps m h),
    )

comes-has_tables_under : (indices : ℕ → Bool) (ps qs : List Pair) (m m' : List ℕ) (cr3 : ℕ) (o : Option ℕ)
    → MatchOption o (Opens ps qs m m' cr3) (λ i. ComesBack ps qs m m' i) → AllOpenedOnly indices ps m → AllOpenedOnly indices qs m'
comes-has_tables_under indices ps qs m m' cr3 None c h = new-has_tables_under indices ps qs m m' cr3 c h
comes-has_tables_under indices ps qs m m' cr3 (Some i) c h = back-has_tables_under indices ps qs m m' i c h

pub loaded-has_tables_under : (indices : ℕ → Bool) (p : Pair) (ps qs : List Pair) (m m' : List ℕ) (cr3 : ℕ)
    → IsSwitched (p ∷ ps) qs m m' cr3 → AllOpenedOnly indices (p ∷ ps) m → AllOpenedOnly indices qs m'
loaded-has_tables_under indices p ps qs m m' cr3 c h = comes-has_tables_under indices (staying_pairs (p ∷ ps)) qs m m' cr3
    (place_of cr3 (staying_pairs (p ∷ ps))) c (staying-has_tables_under indices p ps m h)

pub start-has_tables_under : (indices : ℕ → Bool) (p : Pair) (ps : List Pair) (m : List ℕ) → ps ≡ [] → IsEmpty p.shadow m
    → AllOpenedOnly indices (p ∷ ps) m
start-has_tables_under indices p ps m none h = (
  only-none indices p.shadow m (no-longer (held p.shadow m) (roots p.shadow) h.frames),
  subst (λ (xs : List Pair). AllOpenedOnly indices xs m) (sym none) tt,
)

pub renewed-has_tables_under : (indices : ℕ → Bool) (p : Pair) (ps qs : List Pair) (m' : List ℕ) → qs ≡ emptied (p ∷ ps)
    → length (frames_of qs m') ≡ 2 → AllOpenedOnly indices qs m'
renewed-has_tables_under indices p ps qs m' e two = emptied-has_tables_under indices p ps qs m' e two
