-- A call on the other pairs, beside which the present one stays as it was.
use Rattle.std.proofs.Common.{◌≡◌, ℕ, zero, suc, ◌<◌, ◌≤◌, ◌⊎◌, List, [], ◌∷◌, ◌++◌, length, replicate, filter, get_or, slice_set, Bool, true, false, not, ◌||◌, cond, Option, refl, sym, ap, ◌∙◌, subst, inl, inr, arith}
use Rattle.std.proofs.lemmas.List.{length-replicate}
use Rattle.std.proofs.lemmas.Bool.{or_right}
use Rattle.frame_pool.specs.declared.Pool.{Pool}
use Rattle.frame_pool.specs.Held.{times, Holds, Owns, Moves, SameIn}
use Rattle.frame_pool.proofs.Lengths.{times-append}
use Rattle.frame_pool.proofs.Held.{Owns-part, Owns-moves, Owns-counts, Holds-from_Owns, Moves-counts, Moves-counts_from, Moves-beside, SameIn-beside}
use Rattle.shadow_tables.specs.Slots.{Slot, ArePart, held, slot_at, SameSlots, IsShadow}
use Rattle.shadow_tables.specs.Laws.Views.{held-stays, slot_at-stays, IsShadow-stays}
use Rattle.shadow_cache.specs.Pairs.{no_frames, reads, any_reads, tables_of, frames_of, AreShadows, AreSized, BarsWrites, AllBarWrites, AreUnmarked, IsRoots}
use Rattle.shadow_cache.specs.declared.pair.Pair.{Pair}
use Rattle.shadow_tables.specs.Opened.{KeepsTables}
use Rattle.shadow_cache.specs.Laws.{keeps-same, frames-cons, times-frames, bars-same, tables-any}

-- ---- fewer frames that are barred

pub bars-fewer : (t u : ℕ → Bool) (f : ℕ → Option Slot) → ((x : ℕ) → u x ≡ true → t x ≡ true) → BarsWrites t f → BarsWrites u f
bars-fewer t u f i b = λ page slot l e y. b page slot l e (i slot.entry.frame y)

pub all-fewer : (t u : ℕ → Bool) (ps : List Pair) (m : List ℕ) → ((x : ℕ) → u x ≡ true → t x ≡ true) → AllBarWrites t ps m
    → AllBarWrites u ps m
all-fewer t u [] m i b = tt
all-fewer t u (p ∷ ps) m i b = (bars-fewer t u (slot_at p.shadow m) i b.0, all-fewer t u ps m i b.1)

pub tables-part : (ps qs : List Pair) → ((x : ℕ) → any_reads qs x ≡ true → any_reads ps x ≡ true) → ArePart (tables_of qs) (tables_of ps)
tables-part ps qs i = λ f e. tables-any ps f ∙ i f (sym (tables-any qs f) ∙ e)

-- ---- the frames

module _ (pool pool' : Pool) (p : Pair) (ps ps' : List Pair) (m m' : List ℕ) (h : IsRoots (p ∷ ps) m)
    (o : Owns pool m (frames_of (p ∷ ps) m)) where
  swap : (f : ℕ) → times f (frames_of ps m ++ held p.shadow m) ≡ times f (frames_of (p ∷ ps) m)
  swap f = let a = times-append f (frames_of ps m) (held p.shadow m) in let b = times-frames f p ps m in omega (arith, a, b)

  swapped : Owns pool m (frames_of ps m ++ held p.shadow m)
  swapped = Owns-counts pool m (frames_of (p ∷ ps) m) (frames_of ps m ++ held p.shadow m) swap o

  pub others-owns : Owns pool m (frames_of ps m)
  others-owns = Owns-part pool m (frames_of ps m) (held p.shadow m) swapped

  module _ (v : Moves pool pool' m m' (frames_of ps m) (frames_of ps' m')) where
    aside : SameIn (held p.shadow m) m m'
    aside = SameIn-beside pool pool' m m' (frames_of ps m) (frames_of ps' m') (held p.shadow m) swapped v

    pub beside-shadow : IsShadow p.shadow m'
    beside-shadow = IsShadow-stays p.shadow m m' h.shadows.0 aside

    pub beside-held : held p.shadow m' ≡ held p.shadow m
    beside-held = held-stays p.shadow m m' h.shadows.0 aside

    pub beside-slots : SameSlots (slot_at p.shadow m) (slot_at p.shadow m')
    beside-slots page l = slot_at-stays p.shadow m m' h.shadows.0 aside page l

    pub beside-tables : KeepsTables p.shadow m m'
    beside-tables = keeps-same p.shadow m m' aside

    swap' : (f : ℕ) → times f (frames_of (p ∷ ps') m') ≡ times f (frames_of ps' m' ++ held p.shadow m)
    swap' f =
        let a = times-append f (frames_of ps' m') (held p.shadow m) in let b = times-frames f p ps' m' in
        let c = ap (times f) beside-held in omega (arith, a, b, c)

    pub beside-moves : Moves pool pool' m m' (frames_of (p ∷ ps) m) (frames_of (p ∷ ps') m')
    beside-moves =
        Moves-counts_from pool pool' m m' (frames_of ps m ++ held p.shadow m) (frames_of (p ∷ ps) m)
        (frames_of (p ∷ ps') m') (λ f. sym (swap f))
        (Moves-counts pool pool' m m' (frames_of ps m ++ held p.shadow m) (frames_of ps' m' ++ held p.shadow m)
        (frames_of (p ∷ ps') m') swap'
        (Moves-beside pool pool' m m' (frames_of ps m) (frames_of ps' m') (held p.shadow m) v))

    pub beside-owns : Owns pool' m' (frames_of (p ∷ ps') m')
    beside-owns = Owns-moves pool pool' m m' (frames_of (p ∷ ps) m) (frames_of (p ∷ ps') m') o beside-moves

    -- fewer others, and of fewer tables
    pub beside-roots : (p' : Pair) → p'.shadow ≡ p.shadow → length p'.tables ≡ 16384 → length ps' ≤ length ps → AreShadows ps' m'
        → AreSized ps' → AllBarWrites (any_reads (p ∷ ps)) ps' m' → AreUnmarked ps'
        → ((x : ℕ) → any_reads (p' ∷ ps') x ≡ true → any_reads (p ∷ ps) x ≡ true) → IsRoots (p' ∷ ps') m'
    beside-roots p' same size few shadows sized barred unmarked fewer =
        let same' = sym same in let most = h.few in
        let all = frames-cons p ps' m' ∙ ap (λ s. held s m' ++ frames_of ps' m') same' ∙ sym (frames-cons p' ps' m') in
        record {
          few = omega (arith, few, most);
          holds = subst (Holds m') all (Holds-from_Owns pool' m' (frames_of (p ∷ ps') m') beside-owns);
          shadows = (subst (λ s. IsShadow s m') same' beside-shadow, shadows);
          sized = (size, sized);
          barred = (
            bars-fewer (any_reads (p ∷ ps)) (any_reads (p' ∷ ps')) (slot_at p'.shadow m') fewer
                (subst (λ s. BarsWrites (any_reads (p ∷ ps)) (slot_at s m')) same'
                (bars-same (any_reads (p ∷ ps)) (slot_at p.shadow m) (slot_at p.shadow m') beside-slots h.barred.0)),
            all-fewer (any_reads (p ∷ ps)) (any_reads (p' ∷ ps')) ps' m' fewer barred,
          );
          unmarked = unmarked;
        }

-- ---- those that a test lets stay

one-filter : (b : Bool) (p : Pair) (qs : List Pair) (n : ℕ) → length qs ≤ n → length (cond b (p ∷ qs) qs) ≤ suc n
one-filter true p qs n h = omega (arith, h)
one-filter false p qs n h = omega (arith, h)

pub few-filter : (t : Pair → Bool) (ps : List Pair) → length (filter t ps) ≤ length ps
few-filter t [] = omega arith
few-filter t (p ∷ ps) = one-filter (t p) p (filter t ps) (length ps) (few-filter t ps)

one-sized : (b : Bool) (p : Pair) (qs : List Pair) → length p.tables ≡ 16384 → AreSized qs → AreSized (cond b (p ∷ qs) qs)
one-sized true p qs h k = (h, k)
one-sized false p qs h k = k

pub sized-filter : (t : Pair → Bool) (ps : List Pair) → AreSized ps → AreSized (filter t ps)
sized-filter t [] h = tt
sized-filter t (p ∷ ps) h = one-sized (t p) p (filter t ps) h.0 (sized-filter t ps h.1)

one-barred : (test : ℕ → Bool) (b : Bool) (p : Pair) (qs : List Pair) (m : List ℕ) → BarsWrites test (slot_at p.shadow m)
    → AllBarWrites test qs m → AllBarWrites test (cond b (p ∷ qs) qs) m
one-barred test true p qs m h k = (h, k)
one-barred test false p qs m h k = k

pub barred-filter : (test : ℕ → Bool) (t : Pair → Bool) (ps : List Pair) (m : List ℕ) → AllBarWrites test ps m
    → AllBarWrites test (filter t ps) m
barred-filter test t [] m h = tt
barred-filter test t (p ∷ ps) m h = one-barred test (t p) p (filter t ps) m h.0 (barred-filter test t ps m h.1)

one-unmarked : (b : Bool) (p : Pair) (qs : List Pair) → p.stale ≡ false → AreUnmarked qs → AreUnmarked (cond b (p ∷ qs) qs)
one-unmarked true p qs h k = (h, k)
one-unmarked false p qs h k = k

pub unmarked-filter : (t : Pair → Bool) (ps : List Pair) → AreUnmarked ps → AreUnmarked (filter t ps)
unmarked-filter t [] h = tt
unmarked-filter t (p ∷ ps) h = one-unmarked (t p) p (filter t ps) h.0 (unmarked-filter t ps h.1)

pub or-less : (a b c : Bool) → (a || b) ≡ true → (b ≡ true → c ≡ true) → (a || c) ≡ true
or-less true b c e h = refl
or-less false b c e h = h e

one-any : (b : Bool) (p : Pair) (qs ps : List Pair) (x : ℕ) → any_reads (cond b (p ∷ qs) qs) x ≡ true
    → (any_reads qs x ≡ true → any_reads ps x ≡ true) → (reads p x || any_reads ps x) ≡ true
one-any true p qs ps x e h = or-less (reads p x) (any_reads qs x) (any_reads ps x) e h
one-any false p qs ps x e h = or_right (reads p x) (any_reads ps x) (h e)

pub any-filter : (t : Pair → Bool) (ps : List Pair) (x : ℕ) → any_reads (filter t ps) x ≡ true → any_reads ps x ≡ true
any-filter t [] x e = e
any-filter t (p ∷ ps) x e = one-any (t p) p (filter t ps) ps x e (any-filter t ps x)

-- none that stay read the frame
one-reads : (b : Bool) (p : Pair) (qs : List Pair) (frame : ℕ) → reads p frame ≡ b → any_reads qs frame ≡ false
    → any_reads (cond (not b) (p ∷ qs) qs) frame ≡ false
one-reads true p qs frame e h = h
one-reads false p qs frame e h = ap (λ b. b || any_reads qs frame) e ∙ h

pub none-reads : (ps : List Pair) (frame : ℕ) → any_reads (filter (λ p. not (reads p frame)) ps) frame ≡ false
none-reads [] frame = refl
none-reads (p ∷ ps) frame = one-reads (reads p frame) p (filter (λ q. not (reads q frame)) ps) frame refl (none-reads ps frame)

-- ---- one bit

pub reads-set : (bits : List Bool) (i f : ℕ) (v : Bool) → (get_or (slice_set bits i v) f false ≡ get_or bits f false)
    ⊎ ((f ≡ i) × (i < length bits) × (get_or (slice_set bits i v) f false ≡ v))
reads-set [] i f v = inl refl
reads-set (b ∷ bs) zero zero v = inr (refl, omega arith, refl)
reads-set (b ∷ bs) zero (suc f) v = inl refl
reads-set (b ∷ bs) (suc i) zero v = inl refl
reads-set (b ∷ bs) (suc i) (suc f) v =
    elim (reads-set bs i f v) [ inl e ↦ inl e | inr t ↦ (let e = t.0 in let l = t.1 in inr (omega (arith, e), omega (arith, l), t.2)) ]

pub reads-there : (bits : List Bool) (i : ℕ) (v : Bool) → i < length bits → get_or (slice_set bits i v) i false ≡ v
reads-there [] i v l = absurd (omega (arith, l))
reads-there (b ∷ bs) zero v l = refl
reads-there (b ∷ bs) (suc i) v l = reads-there bs i v (omega (arith, l))

pub reads-none : (n f : ℕ) → get_or (replicate n false) f false ≡ false
reads-none zero f = refl
reads-none (suc n) zero = refl
reads-none (suc n) (suc f) = reads-none n f

pub no-reads : (f : ℕ) → get_or no_frames f false ≡ false
unfolding no_frames
no-reads f = reads-none 16384 f

pub no-length : length no_frames ≡ 16384
unfolding no_frames
no-length = length-replicate {A = Bool} 16384 false
