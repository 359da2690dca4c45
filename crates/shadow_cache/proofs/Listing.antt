-- The frames that are listed as those to which no pair gives the right to write.
use Rattle.std.proofs.Common.{◌≡◌, ℕ, zero, suc, ◌^◌, ◌<◌, ◌⊎◌, List, [], ◌∷◌, take, get_or, slice_set, Bool, true, false, not, ◌&&◌, cond, Option, Some, None, MatchOption, refl, sym, ap, ◌∙◌, subst, inl, inr}
use Rattle.std.proofs.lemmas.Bool.{both_ways}
use Rattle.std.proofs.lemmas.Option.{same_Some}
use Rattle.paging.specs.declared.entry.Entry.{Entry}
use Rattle.shadow_tables.specs.Slots.{Slot, filled, permits, slot_at, IsEmpty}
use Rattle.shadow_tables.specs.declared.words.Side.{Side}
use Rattle.shadow_cache.specs.Pairs.{reads, BarsWrites, AllBarWrites}
use Rattle.shadow_cache.specs.Others.{AreKept, place_of}
use Rattle.shadow_cache.specs.Switched.{staying_pairs, Opens, ComesBack, IsSwitched}
use Rattle.shadow_cache.specs.Laws.{kept-barred}
use Rattle.shadow_cache.specs.declared.pair.Pair.{Pair}
use Rattle.shadow_cache.proofs.Beside.{bars-fewer, all-fewer, barred-filter, reads-set}
use Rattle.shadow_cache.proofs.Present.{bars-turned}
use Rattle.shadow_cache.proofs.Calls.{bars-empty, unspoilt}
use Rattle.shadow_cache.proofs.Coming.{barred-at, barred-remove}

-- ---- a fill

gone : (bits : List Bool) (i : ℕ) → get_or (slice_set bits i false) i false ≡ false
gone [] i = refl
gone (b ∷ bs) zero = refl
gone (b ∷ bs) (suc i) = gone bs i

abbrev pub listed : List Bool → ℕ → Bool
listed bits frame = get_or bits frame false

abbrev pub without_if : Bool → List Bool → ℕ → List Bool
without_if goes bits frame = cond goes (slice_set bits frame false) bits

fewer-set : (bits : List Bool) (frame x : ℕ) → listed (slice_set bits frame false) x ≡ true → listed bits x ≡ true
fewer-set bits frame x y =
    elim (reads-set bits frame x false) [ inl s ↦ sym s ∙ y | inr t ↦ absurd (both_ways (listed (slice_set bits frame false) x) t.2 y) ]

fewer : (goes : Bool) (bits : List Bool) (frame x : ℕ) → listed (without_if goes bits frame) x ≡ true → listed bits x ≡ true
fewer true bits frame x y = fewer-set bits frame x y
fewer false bits frame x y = y

given : (goes : Bool) (bits : List Bool) (b : Bool) (side : Side) (entry : Entry) (wp : Bool) (slot : Slot)
    → goes ≡ (not b && permits side entry true wp) → filled b side entry wp ≡ slot
    → listed (without_if goes bits entry.frame) slot.entry.frame ≡ true → slot.writes ≡ false
given true bits b side entry wp slot g e y =
    let out = listed (slice_set bits entry.frame false) in
    absurd (both_ways (out slot.entry.frame) (sym (ap (λ (s : Slot). out s.entry.frame) e) ∙ gone bits entry.frame) y)
given false bits b side entry wp slot g e y = sym (ap (λ (s : Slot). s.writes) e) ∙ sym g

pub bars-given : (goes : Bool) (bits : List Bool) (f f' : ℕ → Option Slot) (b : Bool) (side : Side) (entry : Entry) (wp : Bool)
    → goes ≡ (not b && permits side entry true wp) → BarsWrites (listed bits) f
    → f' entry.page ≡ Some (filled b side entry wp) → ((q : ℕ) → q < 2 ^ 20 → (q ≡ entry.page → ⊥) → f' q ≡ f q)
    → BarsWrites (listed (without_if goes bits entry.frame)) f'
bars-given goes bits f f' b side entry wp g h e o =
    let left = listed (without_if goes bits entry.frame) in
    bars-turned left f f' entry.page (bars-fewer (listed bits) left f (fewer goes bits entry.frame) h) o
    (λ slot s y. given goes bits b side entry wp slot g (same_Some (filled b side entry wp) slot (sym e ∙ s)) y)

pub all-given : (goes : Bool) (bits : List Bool) (frame : ℕ) (ps : List Pair) (m m' : List ℕ) → AreKept ps m m'
    → AllBarWrites (listed bits) ps m → AllBarWrites (listed (without_if goes bits frame)) ps m'
all-given goes bits frame ps m m' k h =
    all-fewer (listed bits) (listed (without_if goes bits frame)) ps m' (fewer goes bits frame) (kept-barred (listed bits) ps m m' k h)

-- ---- a frame that is noted

pub more-set : (bits : List Bool) (frame x : ℕ) → listed (slice_set bits frame true) x ≡ true → (x ≡ frame) ⊎ (listed bits x ≡ true)
more-set bits frame x y = elim (reads-set bits frame x true) [ inl s ↦ inr (sym s ∙ y) | inr t ↦ inl t.0 ]

-- ---- a load of CR3

take-barred : (test : ℕ → Bool) (n : ℕ) (ps : List Pair) (m : List ℕ) → AllBarWrites test ps m → AllBarWrites test (take n ps) m
take-barred test zero ps m h = tt
take-barred test (suc n) [] m h = tt
take-barred test (suc n) (p ∷ ps) m h = (h.0, take-barred test n ps m h.1)

staying-barred : (test : ℕ → Bool) (b : Bool) (p : Pair) (ps : List Pair) (m : List ℕ) → AllBarWrites test (p ∷ ps) m
    → AllBarWrites test (cond b ps (p ∷ ps)) m
staying-barred test true p ps m h = h.1
staying-barred test false p ps m h = h

by-place : (test : ℕ → Bool) (o : Option ℕ) (ps ps' : List Pair) (m m' : List ℕ) (cr3 : ℕ) → AllBarWrites test ps m
    → MatchOption o (Opens ps ps' m m' cr3) (λ i. ComesBack ps ps' m m' i) → AllBarWrites test ps' m'
by-place test None ps ps' m m' cr3 h x =
    subst (λ (qs : List Pair). AllBarWrites test qs m') (sym x.front) (
      bars-empty test x.pair m' x.fresh.empty,
      kept-barred test (take 7 ps) m m' x.kept (take-barred test 7 ps m h),
    )
by-place test (Some i) ps ps' m m' cr3 h x =
    kept-barred test ps' m m' x.kept
    (subst (λ (qs : List Pair). AllBarWrites test qs m) (sym x.front) (barred-at test ps i x.pair m x.here h, barred-remove test ps i m h))

pub switched-barred : (test : ℕ → Bool) (p : Pair) (ps ps' : List Pair) (m m' : List ℕ) (cr3 : ℕ) → AllBarWrites test (p ∷ ps) m
    → IsSwitched (p ∷ ps) ps' m m' cr3 → AllBarWrites test ps' m'
switched-barred test p ps ps' m m' cr3 h x =
    let left = staying_pairs (p ∷ ps) in by-place test (place_of cr3 left) left ps' m m' cr3 (staying-barred test p.stale p ps m h) x

-- ---- a frame that was written

pub written-barred : (test : ℕ → Bool) (frame : ℕ) (p p' : Pair) (ps ps' : List Pair) (m m' : List ℕ) → p'.shadow ≡ p.shadow
    → ps' ≡ unspoilt frame ps → AreKept (p' ∷ ps') m m' → AllBarWrites test (p ∷ ps) m → AllBarWrites test (p' ∷ ps') m'
written-barred test frame p p' ps ps' m m' e rest k h =
    kept-barred test (p' ∷ ps') m m' k (
      subst (λ s. BarsWrites test (slot_at s m)) (sym e) h.0,
      subst (λ (xs : List Pair). AllBarWrites test xs m) (sym rest) (barred-filter test (λ y. not (reads y frame)) ps m h.1),
    )

-- ---- new pairs

pub fresh-barred : (test : ℕ → Bool) (p : Pair) (ps : List Pair) (m : List ℕ) → ps ≡ [] → IsEmpty p.shadow m → AllBarWrites test (p ∷ ps) m
fresh-barred test p ps m none e = (bars-empty test p m e, subst (λ (xs : List Pair). AllBarWrites test xs m) (sym none) tt)
