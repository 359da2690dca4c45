-- What is kept for values of CR3 that aren't present, after each call.
use Rattle.std.proofs.Common.{◌≡◌, ℕ, List, [], ◌∷◌, filter, Bool, true, false, not, cond, refl, sym, ap, subst}
use Rattle.shadow_tables.specs.OtherRoot.{OtherRoot, AreSame, LoseWrites, spared}
use Rattle.shadow_cache.specs.Pairs.{reads}
use Rattle.shadow_cache.specs.Others.{AreKept, AllLoseWrites}
use Rattle.shadow_cache.specs.After.{beside, emptied, noted_in, written_in}
use Rattle.shadow_cache.specs.OtherRoots.{other_root_of, other_roots_of}
use Rattle.shadow_cache.specs.Laws.{same-kept}
use Rattle.shadow_cache.specs.declared.pair.Pair.{Pair}

pub others-kept : (p : Pair) (ps qs : List Pair) (m m' : List ℕ) → qs ≡ p ∷ ps → AreKept ps m m'
    → AreSame (other_roots_of ps m) (other_roots_of (beside qs) m')
others-kept p ps qs m m' e k =
    subst (λ (xs : List Pair). AreSame (other_roots_of ps m) (other_roots_of (beside xs) m')) (sym e) (same-kept ps m m' k)

other_roots-lose : (ps : List Pair) (m m' : List ℕ) (frame : ℕ) → AllLoseWrites ps m m' frame
    → LoseWrites (frame ∷ []) (other_roots_of ps m) (other_roots_of ps m')
other_roots-lose [] m m' frame k = tt
other_roots-lose (p ∷ ps) m m' frame k = (record { cr3 = refl; tables = λ f. refl; slots = k.0 }, other_roots-lose ps m m' frame k.1)

pub others-lose : (p : Pair) (ps qs : List Pair) (m m' : List ℕ) (frame : ℕ) → qs ≡ noted_in (p ∷ ps) frame
    → AllLoseWrites (p ∷ ps) m m' frame → LoseWrites (frame ∷ []) (other_roots_of ps m) (other_roots_of (beside qs) m')
others-lose p ps qs m m' frame e k =
    subst (λ (xs : List Pair). LoseWrites (frame ∷ []) (other_roots_of ps m) (other_roots_of (beside xs) m')) (sym e)
    (other_roots-lose ps m m' frame k.1)

one-other : (b : Bool) (p : Pair) (qs : List Pair) (m : List ℕ) (xs : List OtherRoot) → other_roots_of qs m ≡ xs
    → other_roots_of (cond b (p ∷ qs) qs) m ≡ cond b (other_root_of p m ∷ xs) xs
one-other true p qs m xs e = ap (λ (ys : List OtherRoot). other_root_of p m ∷ ys) e
one-other false p qs m xs e = e

spared-are : (frame : ℕ) (ps : List Pair) (m : List ℕ) → other_roots_of (filter (λ q. not (reads q frame)) ps) m ≡ spared frame
    (other_roots_of ps m)
spared-are frame [] m = refl
spared-are frame (p ∷ ps) m =
    one-other (not (reads p frame)) p (filter (λ q. not (reads q frame)) ps) m (spared frame (other_roots_of ps m)) (spared-are frame ps m)

written-kept : (p : Pair) (ps : List Pair) (m m' : List ℕ) (frame : ℕ) → AreKept (written_in (p ∷ ps) frame) m m'
    → AreSame (spared frame (other_roots_of ps m)) (other_roots_of (filter (λ q. not (reads q frame)) ps) m')
written-kept p ps m m' frame k =
    subst (λ (xs : List OtherRoot). AreSame xs (other_roots_of (filter (λ q. not (reads q frame)) ps) m')) (spared-are frame ps m)
    (same-kept (filter (λ q. not (reads q frame)) ps) m m' k.3)

pub others-spared : (p : Pair) (ps qs : List Pair) (m m' : List ℕ) (frame : ℕ) → qs ≡ written_in (p ∷ ps) frame → AreKept qs m m'
    → AreSame (spared frame (other_roots_of ps m)) (other_roots_of (beside qs) m')
others-spared p ps qs m m' frame e k =
    subst (λ (xs : List Pair). AreSame (spared frame (other_roots_of ps m)) (other_roots_of (beside xs) m')) (sym e)
    (written-kept p ps m m' frame (subst (λ (xs : List Pair). AreKept xs m m') e k))

pub none-beside : (p : Pair) (ps qs : List Pair) (m' : List ℕ) → qs ≡ emptied (p ∷ ps) → other_roots_of (beside qs) m' ≡ []
none-beside p ps qs m' e = ap (λ (xs : List Pair). other_roots_of (beside xs) m') e
