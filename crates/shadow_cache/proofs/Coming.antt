-- A load of CR3.
use Rattle.std.proofs.Common.{◌≡◌, ℕ, zero, suc, ◌≤◌, List, [], ◌∷◌, ◌++◌, length, take, slice_get, remove, get_or, Bool, true, false, ◌||◌, cond, MatchOption, Option, Some, None, refl, sym, ap, ◌∙◌, subst, inl, inr, arith}
use Rattle.std.proofs.lemmas.Bool.Decides.{eqb_tells}
use Rattle.frame_pool.specs.declared.Pool.{Pool}
use Rattle.frame_pool.specs.Held.{times, Holds, Owns, Moves, SameIn}
use Rattle.frame_pool.proofs.Held.{Owns-moves, Holds-from_Owns, Moves-counts, Moves-refl, Moves-beside, SameIn-beside}
use Rattle.shadow_tables.specs.Slots.{held, slot_at, IsEmpty}
use Rattle.shadow_cache.specs.Pairs.{no_frames, reads, any_reads, frames_of, AreShadows, AreSized, BarsWrites, AllBarWrites, AreUnmarked, OthersUnmarked, IsRoots}
use Rattle.shadow_cache.specs.Others.{AreKept, one_later, place_of}
use Rattle.shadow_cache.specs.Switched.{Opens, ComesBack, Comes, IsSwitched}
use Rattle.shadow_cache.specs.declared.pair.Pair.{Pair}
use Rattle.shadow_cache.specs.Laws.{frames-cons, times-frames, kept-same, kept-shadows, kept-frames, kept-barred}
use Rattle.shadow_cache.proofs.Leaving.{kept-refl, kept-trans, times-remove, shadows-at, shadows-remove, any-at}
use Rattle.shadow_cache.proofs.Beside.{all-fewer, or-less, no-reads, no-length}
use Rattle.std.proofs.lemmas.List.{append-nil, drop_all}
use Rattle.std.proofs.lemmas.Bool.{or_right}
use Rattle.std.proofs.lemmas.Option.{same_Some, none-some}

-- ---- some of the pairs

pub sub-roots : (ps qs : List Pair) (m : List ℕ) → length qs ≤ 8 → Holds m (frames_of qs m) → AreShadows qs m → AreSized qs
    → AllBarWrites (any_reads ps) qs m → ((x : ℕ) → any_reads qs x ≡ true → any_reads ps x ≡ true) → OthersUnmarked qs → IsRoots qs m
sub-roots ps qs m few holds shadows sized barred i unmarked =
    record {
      few = few;
      holds = holds;
      shadows = shadows;
      sized = sized;
      barred = all-fewer (any_reads ps) (any_reads qs) qs m i barred;
      unmarked = unmarked;
    }

pub sized-remove : (ps : List Pair) (i : ℕ) → AreSized ps → AreSized (remove ps i)
sized-remove [] zero h = tt
sized-remove [] (suc i) h = tt
sized-remove (q ∷ qs) zero h = h.1
sized-remove (q ∷ qs) (suc i) h = (h.0, sized-remove qs i h.1)

pub unmarked-remove : (ps : List Pair) (i : ℕ) → AreUnmarked ps → AreUnmarked (remove ps i)
unmarked-remove [] zero h = tt
unmarked-remove [] (suc i) h = tt
unmarked-remove (q ∷ qs) zero h = h.1
unmarked-remove (q ∷ qs) (suc i) h = (h.0, unmarked-remove qs i h.1)

pub unmarked-at : (ps : List Pair) (i : ℕ) (p : Pair) → slice_get ps i ≡ Some p → AreUnmarked ps → p.stale ≡ false
unmarked-at [] i p e h = absurd cc
unmarked-at (q ∷ qs) zero p e h = subst (λ (x : Pair). x.stale ≡ false) (same_Some q p e) h.0
unmarked-at (q ∷ qs) (suc i) p e h = unmarked-at qs i p e h.1

-- all of them, so all but the first
pub others-unmarked : (ps : List Pair) → AreUnmarked ps → OthersUnmarked ps
others-unmarked [] h = tt
others-unmarked (p ∷ ps) h = h.1

sized-at : (ps : List Pair) (i : ℕ) (p : Pair) → slice_get ps i ≡ Some p → AreSized ps → length p.tables ≡ 16384
sized-at [] i p e h = absurd cc
sized-at (q ∷ qs) zero p e h = subst (λ (x : Pair). length x.tables ≡ 16384) (same_Some q p e) h.0
sized-at (q ∷ qs) (suc i) p e h = sized-at qs i p e h.1

pub barred-remove : (test : ℕ → Bool) (ps : List Pair) (i : ℕ) (m : List ℕ) → AllBarWrites test ps m → AllBarWrites test (remove ps i) m
barred-remove test [] zero m h = tt
barred-remove test [] (suc i) m h = tt
barred-remove test (q ∷ qs) zero m h = h.1
barred-remove test (q ∷ qs) (suc i) m h = (h.0, barred-remove test qs i m h.1)

pub barred-at : (test : ℕ → Bool) (ps : List Pair) (i : ℕ) (p : Pair) (m : List ℕ) → slice_get ps i ≡ Some p → AllBarWrites test ps m
    → BarsWrites test (slot_at p.shadow m)
barred-at test [] i p m e h = absurd cc
barred-at test (q ∷ qs) zero p m e h = subst (λ (x : Pair). BarsWrites test (slot_at x.shadow m)) (same_Some q p e) h.0
barred-at test (q ∷ qs) (suc i) p m e h = barred-at test qs i p m e h.1

pub any-remove : (ps : List Pair) (i x : ℕ) → any_reads (remove ps i) x ≡ true → any_reads ps x ≡ true
any-remove [] zero x e = e
any-remove [] (suc i) x e = e
any-remove (q ∷ qs) zero x e = or_right (reads q x) (any_reads qs x) e
any-remove (q ∷ qs) (suc i) x e = or-less (reads q x) (any_reads (remove qs i) x) (any_reads qs x) e (any-remove qs i x)

length-remove : (ps : List Pair) (i : ℕ) (p : Pair) → slice_get ps i ≡ Some p → suc (length (remove ps i)) ≡ length ps
length-remove [] i p e = absurd cc
length-remove (q ∷ qs) zero p e = refl
length-remove (q ∷ qs) (suc i) p e = ap suc (length-remove qs i p e)

-- ---- one comes to the front

module _ (ps : List Pair) (i : ℕ) (p : Pair) (m : List ℕ) (here : slice_get ps i ≡ Some p) (h : IsRoots ps m) where
  front-counts : (f : ℕ) → times f (frames_of (p ∷ remove ps i) m) ≡ times f (frames_of ps m)
  front-counts f = let a = times-frames f p (remove ps i) m in let b = times-remove f ps i p m here in omega (arith, a, b)

  front-any-by : (x : ℕ) (b : Bool) → reads p x ≡ b → any_reads (p ∷ remove ps i) x ≡ true → any_reads ps x ≡ true
  front-any-by x true r e = any-at ps i x p here r
  front-any-by x false r e = any-remove ps i x (sym (ap (λ b. b || any_reads (remove ps i) x) r) ∙ e)

  front-any : (x : ℕ) → any_reads (p ∷ remove ps i) x ≡ true → any_reads ps x ≡ true
  front-any x e = front-any-by x (reads p x) refl e

  pub front-roots : AreUnmarked ps → IsRoots (p ∷ remove ps i) m
  front-roots unmarked =
      let n = length-remove ps i p here in let few = h.few in
      sub-roots ps (p ∷ remove ps i) m (omega (arith, n, few))
      (record {
        room = λ f k. h.holds.room f (let c = front-counts f in omega (arith, c, k));
        once = λ f. (let c = front-counts f in let o = h.holds.once f in omega (arith, c, o));
      })
      (shadows-at ps i p m here h.shadows, shadows-remove ps i m h.shadows) (sized-at ps i p here h.sized, sized-remove ps i h.sized)
      (barred-at (any_reads ps) ps i p m here h.barred, barred-remove (any_reads ps) ps i m h.barred) front-any
      (unmarked-remove ps i unmarked)

  pub front-moves : (pool : Pool) → Owns pool m (frames_of ps m) → Moves pool pool m m (frames_of ps m) (frames_of (p ∷ remove ps i) m)
  front-moves pool o = Moves-counts pool pool m m (frames_of ps m) (frames_of ps m) (frames_of (p ∷ remove ps i) m) front-counts
      (Moves-refl pool m (frames_of ps m) o.stands)

-- ---- the last of 8 leaves

pub last-leaves : (ps : List Pair) → length ps ≤ 8 → remove ps 7 ≡ take 7 ps
last-leaves ps l = ap (λ (qs : List Pair). take 7 ps ++ qs) (drop_all 8 ps l) ∙ append-nil (take 7 ps)

-- ---- a new one

module _ (pool pool' : Pool) (q : Pair) (ps : List Pair) (m m' : List ℕ) (h : IsRoots ps m) (o : Owns pool m (frames_of ps m))
    (v : Moves pool pool' m m' [] (held q.shadow m'))
    (e : IsEmpty q.shadow m') (t : q.tables ≡ no_frames) (few : length ps ≤ 7) where
  same : SameIn (frames_of ps m) m m'
  same = SameIn-beside pool pool' m m' [] (held q.shadow m') (frames_of ps m) o v

  pub open-kept : AreKept ps m m'
  open-kept = kept-same ps m m' h.shadows same

  open-frames : frames_of (q ∷ ps) m' ≡ held q.shadow m' ++ frames_of ps m
  open-frames = frames-cons q ps m' ∙ ap (λ (fs : List ℕ). held q.shadow m' ++ fs) (kept-frames ps m m' open-kept)

  pub open-moves : Moves pool pool' m m' (frames_of ps m) (frames_of (q ∷ ps) m')
  open-moves = subst (Moves pool pool' m m' (frames_of ps m)) (sym open-frames)
      (Moves-beside pool pool' m m' [] (held q.shadow m') (frames_of ps m) v)

  pub open-roots : AreUnmarked ps → IsRoots (q ∷ ps) m'
  open-roots unmarked =
      let none : (x : ℕ) → reads q x ≡ false = λ x. ap (λ bs. get_or bs x false) t ∙ no-reads x in
      sub-roots ps (q ∷ ps) m' (omega (arith, few))
      (Holds-from_Owns pool' m' (frames_of (q ∷ ps) m') (Owns-moves pool pool' m m' (frames_of ps m) (frames_of (q ∷ ps) m') o open-moves))
      (e.shadow, kept-shadows ps m m' open-kept)
      (ap (λ (bs : List Bool). length bs) t ∙ no-length, h.sized)
      ((λ page slot l s y. absurd (none-some slot (sym (e.none page l) ∙ s))), kept-barred (any_reads ps) ps m m' open-kept h.barred)
      (λ x y. sym (ap (λ b. b || any_reads ps x) (none x)) ∙ y) unmarked

-- ---- what is kept all the while

pub kept-front : (ps : List Pair) (i : ℕ) (p : Pair) (m m' : List ℕ) → slice_get ps i ≡ Some p → AreKept ps m m'
    → AreKept (p ∷ remove ps i) m m'
kept-front [] i p m m' e k = absurd cc
kept-front (q ∷ qs) zero p m m' e k = subst (λ (x : Pair). AreKept (x ∷ qs) m m') (same_Some q p e) k
kept-front (q ∷ qs) (suc i) p m m' e k = let r = kept-front qs i p m m' e k.3 in (r.0, r.1, r.2, (k.0, k.1, k.2, r.3, k.4), r.4)

pub kept-take : (n : ℕ) (ps : List Pair) (m m' : List ℕ) → AreKept ps m m' → AreKept (take n ps) m m'
kept-take zero ps m m' k = tt
kept-take (suc n) [] m m' k = tt
kept-take (suc n) (p ∷ ps) m m' k = (k.0, k.1, k.2, kept-take n ps m m' k.3, k.4)

comes-by : (o : Option ℕ) (ps ps' : List Pair) (m m1 m2 : List ℕ) (cr3 : ℕ) → AreKept ps m m1
    → MatchOption o (Opens ps ps' m1 m2 cr3) (λ i. ComesBack ps ps' m1 m2 i)
    → MatchOption o (Opens ps ps' m m2 cr3) (λ i. ComesBack ps ps' m m2 i)
comes-by None ps ps' m m1 m2 cr3 k x =
    record { pair = x.pair; fresh = x.fresh; front = x.front; kept = kept-trans (take 7 ps) m m1 m2 (kept-take 7 ps m m1 k) x.kept }
comes-by (Some i) ps ps' m m1 m2 cr3 k x =
    record {
      pair = x.pair;
      here = x.here;
      front = x.front;
      kept =
          kept-trans ps' m m1 m2 (subst (λ (qs : List Pair). AreKept qs m m1) (sym x.front) (kept-front ps i x.pair m m1 x.here k)) x.kept;
    }

pub comes-after : (ps ps' : List Pair) (m m1 m2 : List ℕ) (cr3 : ℕ) → AreKept ps m m1 → Comes ps ps' m1 m2 cr3 → Comes ps ps' m m2 cr3
comes-after ps ps' m m1 m2 cr3 k x = comes-by (place_of cr3 ps) ps ps' m m1 m2 cr3 k x

-- ---- the present value is loaded again

first-place : (p : Pair) (ps : List Pair) (cr3 : ℕ) → p.cr3 ≡ cr3 → place_of cr3 (p ∷ ps) ≡ Some 0
first-place p ps cr3 e =
    elim (eqb_tells p.cr3 cr3) [ inl t ↦ ap (λ b. cond b (Some 0) (one_later (place_of cr3 ps))) t.0 | inr t ↦ absurd (t.1 e) ]

pub stays-here : (p : Pair) (ps : List Pair) (m : List ℕ) (cr3 : ℕ) → AreShadows (p ∷ ps) m → p.cr3 ≡ cr3 → p.stale ≡ false
    → IsSwitched (p ∷ ps) (p ∷ ps) m m cr3
stays-here p ps m cr3 h e u =
    let back : ComesBack (p ∷ ps) (p ∷ ps) m m 0 = record { pair = p; here = refl; front = refl; kept = kept-refl (p ∷ ps) m h } in
    let comes : Comes (p ∷ ps) (p ∷ ps) m m cr3 =
    subst (λ o. MatchOption o (Opens (p ∷ ps) (p ∷ ps) m m cr3) (λ i. ComesBack (p ∷ ps) (p ∷ ps) m m i))
    (sym (first-place p ps cr3 e)) back
    in
    subst (λ b. Comes (cond b ps (p ∷ ps)) (p ∷ ps) m m cr3) (sym u) comes
