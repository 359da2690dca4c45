-- Taking the right to write from pair after pair.
use Rattle.std.proofs.Common.{◌≡◌, ℕ, zero, suc, ◌+◌, ◌≤◌, List, [], ◌∷◌, ◌++◌, length, slice_get, Some, refl, sym, ap, ◌∙◌, subst, add-one, arith}
use Rattle.std.proofs.lemmas.Option.{same_Some}
use Rattle.frame_pool.specs.Held.{times, Holds, Writes, SameIn}
use Rattle.shadow_tables.specs.Slots.{held, slot_at, barred, SameSlots, LosesWrites, IsShadow}
use Rattle.shadow_cache.specs.Pairs.{frames_of, AreShadows}
use Rattle.shadow_cache.specs.Others.{AreKept, AllLoseWrites}
use Rattle.shadow_cache.specs.declared.pair.Pair.{Pair}
use Rattle.shadow_tables.specs.Opened.{KeepsTables}
use Rattle.shadow_cache.specs.Laws.{keeps-same, frames-cons, times-frames, kept-same, kept-shadows, kept-frames}
use Rattle.shadow_tables.specs.Laws.Views.{held-stays, slot_at-stays, IsShadow-stays}

-- the first n have lost it, and the others are as they were
abbrev pub FirstLose : ℕ → List Pair → (m m' : List ℕ) → ℕ → Type 0
FirstLose n [] m m' frame = Unit {0}
FirstLose zero (p ∷ ps) m m' frame =
    SameSlots (slot_at p.shadow m) (slot_at p.shadow m') × FirstLose zero ps m m' frame × (held p.shadow m' ≡ held p.shadow m)
    × KeepsTables p.shadow m m'
FirstLose (suc n) (p ∷ ps) m m' frame =
    LosesWrites (slot_at p.shadow m) (slot_at p.shadow m') (frame ∷ []) × FirstLose n ps m m' frame × (held p.shadow m' ≡ held p.shadow m)
    × KeepsTables p.shadow m m'

pub lose-none : (ps : List Pair) (m : List ℕ) (frame : ℕ) → FirstLose 0 ps m m frame
lose-none [] m frame = tt
lose-none (p ∷ ps) m frame = ((λ page l. refl), lose-none ps m frame, refl, λ side index l ne. ne)

pub lose-all : (n : ℕ) (ps : List Pair) (m m' : List ℕ) (frame : ℕ) → length ps ≤ n → FirstLose n ps m m' frame
    → AllLoseWrites ps m m' frame
lose-all n [] m m' frame l h = tt
lose-all zero (p ∷ ps) m m' frame l h = absurd (omega (arith, l))
lose-all (suc n) (p ∷ ps) m m' frame l h = (h.0, lose-all n ps m m' frame (omega (arith, l)) h.1, h.2, h.3)

-- ---- what is written in the frames of one leaves the others as they were

rest-same : (q : Pair) (qs : List Pair) (m m' : List ℕ) → Holds m (frames_of (q ∷ qs) m) → Writes (held q.shadow m) m m'
    → SameIn (frames_of qs m) m m'
rest-same q qs m m' h w =
    record { size = w.size; frames = λ f k. w.others f (let t = times-frames f q qs m in let s = h.once f in omega (arith, t, s, k)) }

pub rest-holds : (q : Pair) (qs : List Pair) (m : List ℕ) → Holds m (frames_of (q ∷ qs) m) → Holds m (frames_of qs m)
rest-holds q qs m h =
    record {
      room = λ f k. h.room f (let t = times-frames f q qs m in omega (arith, t, k));
      once = λ f. (let t = times-frames f q qs m in let s = h.once f in omega (arith, t, s));
    }

held-in : (f : ℕ) (ps : List Pair) (i : ℕ) (p : Pair) (m : List ℕ) → slice_get ps i ≡ Some p
    → times f (held p.shadow m) ≤ times f (frames_of ps m)
held-in f [] i p m e = absurd cc
held-in f (q ∷ qs) zero p m e = let t =
    times-frames f q qs m in let s = ap (λ (x : Pair). times f (held x.shadow m)) (same_Some q p e) in omega (arith, t, s)
held-in f (q ∷ qs) (suc i) p m e = let t = times-frames f q qs m in let r = held-in f qs i p m e in omega (arith, t, r)

first-same : (q : Pair) (qs : List Pair) (i : ℕ) (p : Pair) (m m' : List ℕ) → slice_get qs i ≡ Some p → Holds m (frames_of (q ∷ qs) m)
    → Writes (held p.shadow m) m m' → SameIn (held q.shadow m) m m'
first-same q qs i p m m' e h w =
    record {
      size = w.size;
      frames = λ f k. w.others f (let t = times-frames f q qs m in let s = h.once f in let r = held-in f qs i p m e in
          omega (arith, t, s, k, r));
    }

pub bar-writes : (ps : List Pair) (i : ℕ) (p : Pair) (m m' : List ℕ) → slice_get ps i ≡ Some p → Writes (held p.shadow m) m m'
    → Writes (frames_of ps m) m m'
bar-writes ps i p m m' e w = record { size = w.size; others = λ g z. w.others g (let r = held-in g ps i p m e in omega (arith, r, z)) }

pub bar-shadows : (ps : List Pair) (i : ℕ) (p : Pair) (m m' : List ℕ) → slice_get ps i ≡ Some p → AreShadows ps m → Holds m (frames_of ps m)
    → IsShadow p.shadow m' → Writes (held p.shadow m) m m' → AreShadows ps m'
bar-shadows [] i p m m' e h o s w = tt
bar-shadows (q ∷ qs) zero p m m' e h o s w =
    let same = same_Some q p e in
    let w' : Writes (held q.shadow m) m m' = subst (λ (x : Pair). Writes (held x.shadow m) m m') (sym same) w in
    (subst (λ (x : Pair). IsShadow x.shadow m') (sym same) s, kept-shadows qs m m' (kept-same qs m m' h.1 (rest-same q qs m m' o w')))
bar-shadows (q ∷ qs) (suc i) p m m' e h o s w =
    (IsShadow-stays q.shadow m m' h.0 (first-same q qs i p m m' e o w), bar-shadows qs i p m m' e h.1 (rest-holds q qs m o) s w)

both-frames : (q : Pair) (qs : List Pair) (m m' : List ℕ) → held q.shadow m' ≡ held q.shadow m → frames_of qs m' ≡ frames_of qs m
    → frames_of (q ∷ qs) m' ≡ frames_of (q ∷ qs) m
both-frames q qs m m' a b =
    frames-cons q qs m' ∙ ap (λ (fs : List ℕ). fs ++ frames_of qs m') a ∙ ap (λ (fs : List ℕ). held q.shadow m ++ fs) b
    ∙ sym (frames-cons q qs m)

pub barred-frames : (ps : List Pair) (i : ℕ) (p : Pair) (m m' : List ℕ) → slice_get ps i ≡ Some p → AreShadows ps m
    → Holds m (frames_of ps m) → held p.shadow m' ≡ held p.shadow m → Writes (held p.shadow m) m m' → frames_of ps m' ≡ frames_of ps m
unfolding frames_of
barred-frames [] i p m m' e h o s w = refl
barred-frames (q ∷ qs) zero p m m' e h o s w =
    let same = same_Some q p e in
    let w' : Writes (held q.shadow m) m m' = subst (λ (x : Pair). Writes (held x.shadow m) m m') (sym same) w in
    both-frames q qs m m' (subst (λ (x : Pair). held x.shadow m' ≡ held x.shadow m) (sym same) s)
    (kept-frames qs m m' (kept-same qs m m' h.1 (rest-same q qs m m' o w')))
barred-frames (q ∷ qs) (suc i) p m m' e h o s w =
    both-frames q qs m m' (held-stays q.shadow m m' h.0 (first-same q qs i p m m' e o w))
    (barred-frames qs i p m m' e h.1 (rest-holds q qs m o) s w)

-- ---- one more

kept-none : (ps : List Pair) (m m1 m2 : List ℕ) (frame : ℕ) → FirstLose 0 ps m m1 frame → AreKept ps m1 m2 → FirstLose 0 ps m m2 frame
kept-none [] m m1 m2 frame h k = tt
kept-none (p ∷ ps) m m1 m2 frame h k = (
  (λ page l. k.2 page l ∙ h.0 page l),
  kept-none ps m m1 m2 frame h.1 k.3,
  k.1 ∙ h.2,
  λ side index l ne. k.4 side index l (h.3 side index l ne),
)

lose-suc : (i : ℕ) (ps : List Pair) (p : Pair) (m m1 m2 : List ℕ) (frame : ℕ) → slice_get ps i ≡ Some p → AreShadows ps m1
    → Holds m1 (frames_of ps m1) → LosesWrites (slot_at p.shadow m1) (slot_at p.shadow m2) (frame ∷ []) → Writes (held p.shadow m1) m1 m2
    → held p.shadow m2 ≡ held p.shadow m1 → KeepsTables p.shadow m1 m2 → FirstLose i ps m m1 frame → FirstLose (suc i) ps m m2 frame
lose-suc i [] p m m1 m2 frame e h o s w d k f = tt
lose-suc zero (q ∷ qs) p m m1 m2 frame e h o s w d k f =
    let same = same_Some q p e in
    let w' : Writes (held q.shadow m1) m1 m2 = subst (λ (x : Pair). Writes (held x.shadow m1) m1 m2) (sym same) w in
    let s' : LosesWrites (slot_at q.shadow m1) (slot_at q.shadow m2) (frame ∷ []) =
    subst (λ (x : Pair). LosesWrites (slot_at x.shadow m1) (slot_at x.shadow m2) (frame ∷ [])) (sym same) s in
    let d' : held q.shadow m2 ≡ held q.shadow m1 = subst (λ (x : Pair). held x.shadow m2 ≡ held x.shadow m1) (sym same) d in
    let k' : KeepsTables q.shadow m1 m2 = subst (λ (x : Pair). KeepsTables x.shadow m1 m2) (sym same) k in (
      (λ page l. s' page l ∙ ap (barred (frame ∷ [])) (f.0 page l)),
      kept-none qs m m1 m2 frame f.1 (kept-same qs m1 m2 h.1 (rest-same q qs m1 m2 o w')),
      d' ∙ f.2,
      λ side index l ne. k' side index l (f.3 side index l ne),
    )
lose-suc (suc i) (q ∷ qs) p m m1 m2 frame e h o s w d k f =
    let same = first-same q qs i p m1 m2 e o w in (
      (λ page l. slot_at-stays q.shadow m1 m2 h.0 same page l ∙ f.0 page l),
      lose-suc i qs p m m1 m2 frame e h.1 (rest-holds q qs m1 o) s w d k f.1,
      held-stays q.shadow m1 m2 h.0 same ∙ f.2,
      λ side index l ne. keeps-same q.shadow m1 m2 same side index l (f.3 side index l ne),
    )

pub lose-more : (i : ℕ) (ps : List Pair) (p : Pair) (m m1 m2 : List ℕ) (frame : ℕ) → slice_get ps i ≡ Some p → AreShadows ps m1
    → Holds m1 (frames_of ps m1) → LosesWrites (slot_at p.shadow m1) (slot_at p.shadow m2) (frame ∷ []) → Writes (held p.shadow m1) m1 m2
    → held p.shadow m2 ≡ held p.shadow m1 → KeepsTables p.shadow m1 m2 → FirstLose i ps m m1 frame → FirstLose (i + 1) ps m m2 frame
lose-more i ps p m m1 m2 frame e h o s w d k f =
    subst (λ n. FirstLose n ps m m2 frame) (sym (add-one i)) (lose-suc i ps p m m1 m2 frame e h o s w d k f)
