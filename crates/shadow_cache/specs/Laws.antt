-- The proofs of the laws of `Roots`. They stand here since an impl of the trait may name this folder alone.
use Rattle.std.proofs.Common.{◌≡◌, ℕ, zero, suc, ◌+◌, ◌*◌, ◌^◌, ◌<◌, ◌≤◌, List, [], ◌∷◌, ◌++◌, length, length-append, get_or, Bool, true, false, ◌||◌, eqb, Option, Some, refl, sym, ap, ◌∙◌, subst, inl, inr, arith}
use Rattle.std.proofs.Props.{props}
use Rattle.std.proofs.Math.Logic.{∥∥₁_elim, ∥∥₁_map}
use Rattle.std.proofs.lemmas.Bool.Decides.{eqb_tells}
use Rattle.std.proofs.lemmas.Grind.{merely}
use Rattle.std.specs.Coded.{Unit-prop}
use Rattle.std.specs.List.{list_any}
use mathlib.Core.HLevel.{Π_prop, ×_prop}
use Rattle.frame_pool.specs.Held.{times, Holds, SameIn}
use Rattle.frame_pool.proofs.Lengths.{times-append}
use Rattle.frame_pool.proofs.Held.{Holds-writes}
use Rattle.frame_pool.proofs.Props.{Holds-prop}
use Rattle.paging.specs.Reached.{reached, walk_frames}
use Rattle.shadow_tables.specs.Host.{lent}
use Rattle.guest_ram.specs.Among.{is_among}
use Rattle.shadow_tables.specs.Slots.{Slot, roots, held, slot_at, root_of, SameSlots, IsShadow}
use Rattle.shadow_tables.specs.Opened.{KeepsTables}
use Rattle.shadow_tables.specs.declared.shadow.Shadow.{Shadow}
use Rattle.shadow_views.proofs.Counts.{owned-root}
use Rattle.shadow_views.proofs.Changes.{dir-frame}
use Rattle.shadow_tables.specs.declared.words.Side.{Side}
use Rattle.shadow_tables.specs.Laws as below
use Rattle.shadow_tables.specs.Laws.Views.{in-root, held-stays, slot_at-stays, IsShadow-stays}
use Rattle.shadow_tables.specs.Laws.Props.{IsShadow-prop}
use Rattle.shadow_cache.specs.Pairs.{reads, any_reads, places_from, tables_of, frames_of, AreShadows, AreSized, BarsWrites, AllBarWrites, AreUnmarked, OthersUnmarked, IsRoots}
use Rattle.shadow_tables.specs.Seen.{of_roots, protects, seen_of}
use Rattle.shadow_tables.specs.OtherRoot.{OtherRoot, AreSame, AllFit, AllBarred, AllProtected}
use Rattle.shadow_cache.specs.OtherRoots.{other_roots_of}
use Rattle.shadow_tables.specs.Laws.Openings.{only-same, held-size}
use Rattle.shadow_tables.proofs.OtherRoots.{among-append}
use Rattle.shadow_cache.specs.Opening.{AllOpenedOnly}
use Rattle.std.specs.Set.{is_member, distinct_count}
use Rattle.std.proofs.Math.Bool.{or-true}
use Rattle.shadow_cache.specs.Others.{AreKept}
use Rattle.shadow_cache.specs.declared.pair.Pair.{Pair}

-- ---- at most one proof

AreShadows-prop : (ps : List Pair) (m : List ℕ) → IsProp (AreShadows ps m)
AreShadows-prop [] m = Unit-prop
AreShadows-prop (p ∷ ps) m = ×_prop (IsShadow-prop p.shadow m) (AreShadows-prop ps m)

AreSized-prop : (ps : List Pair) → IsProp (AreSized ps)
AreSized-prop [] = Unit-prop
AreSized-prop (p ∷ ps) = let here : IsProp (length p.tables ≡ 16384) = Prim.hlevel props in ×_prop here (AreSized-prop ps)

pub AllBarWrites-prop : (test : ℕ → Bool) (ps : List Pair) (m : List ℕ) → IsProp (AllBarWrites test ps m)
AllBarWrites-prop test [] m = Unit-prop
AllBarWrites-prop test (p ∷ ps) m =
    let last : (slot : Slot) → IsProp (slot.writes ≡ false) = λ slot. Prim.hlevel props in
    ×_prop (Π_prop (λ page. Π_prop (λ slot. Π_prop (λ _. Π_prop (λ _. Π_prop (λ _. last slot)))))) (AllBarWrites-prop test ps m)

AreUnmarked-prop : (ps : List Pair) → IsProp (AreUnmarked ps)
AreUnmarked-prop [] = Unit-prop
AreUnmarked-prop (p ∷ ps) = let here : IsProp (p.stale ≡ false) = Prim.hlevel props in ×_prop here (AreUnmarked-prop ps)

OthersUnmarked-prop : (ps : List Pair) → IsProp (OthersUnmarked ps)
OthersUnmarked-prop [] = Unit-prop
OthersUnmarked-prop (p ∷ ps) = AreUnmarked-prop ps

pub IsRoots-prop : (ps : List Pair) (m : List ℕ) → IsProp (IsRoots ps m)
IsRoots-prop ps m x y =
    let few_prop : IsProp (length ps ≤ 8) = Prim.hlevel props in
    λ i. record {
      few = few_prop x.few y.few i;
      holds = Holds-prop m (frames_of ps m) x.holds y.holds i;
      shadows = AreShadows-prop ps m x.shadows y.shadows i;
      sized = AreSized-prop ps x.sized y.sized i;
      barred = AllBarWrites-prop (any_reads ps) ps m x.barred y.barred i;
      unmarked = OthersUnmarked-prop ps x.unmarked y.unmarked i;
    }

pub had : (ps : List Pair) (m : List ℕ) → ∥ IsRoots ps m ∥₁ → IsRoots ps m
had ps m h = ∥∥₁_elim h (IsRoots-prop ps m) (λ x. x)

-- ---- the frames of all

pub frames-cons : (p : Pair) (ps : List Pair) (m : List ℕ) → frames_of (p ∷ ps) m ≡ held p.shadow m ++ frames_of ps m
unfolding frames_of
frames-cons p ps m = refl

pub times-frames : (f : ℕ) (p : Pair) (ps : List Pair) (m : List ℕ) → times f (frames_of (p ∷ ps) m) ≡ times f (held p.shadow m)
    + times f (frames_of ps m)
times-frames f p ps m = ap (times f) (frames-cons p ps m) ∙ times-append f (held p.shadow m) (frames_of ps m)

pub same-first : (p : Pair) (ps : List Pair) (m m' : List ℕ) → SameIn (frames_of (p ∷ ps) m) m m' → SameIn (held p.shadow m) m m'
same-first p ps m m' e = record { size = e.size; frames = λ f h. e.frames f (let t = times-frames f p ps m in omega (arith, t, h)) }

pub same-rest : (p : Pair) (ps : List Pair) (m m' : List ℕ) → SameIn (frames_of (p ∷ ps) m) m m' → SameIn (frames_of ps m) m m'
same-rest p ps m m' e = record { size = e.size; frames = λ f h. e.frames f (let t = times-frames f p ps m in omega (arith, t, h)) }

-- ---- pairs that keep what they kept

pub keeps-same : (s : Shadow) (m m' : List ℕ) → SameIn (held s m) m m' → KeepsTables s m m'
keeps-same s m m' e = λ side index l ne z.
    let r = root_of s side in
    ne (sym (dir-frame m m' r index (e.frames r (owned-root m r (roots s) (in-root s side))) l) ∙ z)

pub kept-same : (ps : List Pair) (m m' : List ℕ) → AreShadows ps m → SameIn (frames_of ps m) m m' → AreKept ps m m'
kept-same [] m m' h e = tt
kept-same (p ∷ ps) m m' h e =
    let here = same-first p ps m m' e in (
      IsShadow-stays p.shadow m m' h.0 here,
      held-stays p.shadow m m' h.0 here,
      λ page l. slot_at-stays p.shadow m m' h.0 here page l,
      kept-same ps m m' h.1 (same-rest p ps m m' e),
      keeps-same p.shadow m m' here,
    )

pub kept-shadows : (ps : List Pair) (m m' : List ℕ) → AreKept ps m m' → AreShadows ps m'
kept-shadows [] m m' k = tt
kept-shadows (p ∷ ps) m m' k = (k.0, kept-shadows ps m m' k.3)

pub kept-frames : (ps : List Pair) (m m' : List ℕ) → AreKept ps m m' → frames_of ps m' ≡ frames_of ps m
unfolding frames_of
kept-frames [] m m' k = refl
kept-frames (p ∷ ps) m m' k =
    ap (λ (fs : List ℕ). fs ++ frames_of ps m') k.1 ∙ ap (λ (fs : List ℕ). held p.shadow m ++ fs) (kept-frames ps m m' k.3)

pub bars-same : (test : ℕ → Bool) (f f' : ℕ → Option Slot) → SameSlots f f' → BarsWrites test f → BarsWrites test f'
bars-same test f f' s b = λ page slot l e t. b page slot l (sym (s page l) ∙ e) t

pub kept-barred : (test : ℕ → Bool) (ps : List Pair) (m m' : List ℕ) → AreKept ps m m' → AllBarWrites test ps m → AllBarWrites test ps m'
kept-barred test [] m m' k b = tt
kept-barred test (p ∷ ps) m m' k b = (bars-same test (slot_at p.shadow m) (slot_at p.shadow m') k.2 b.0, kept-barred test ps m m' k.3 b.1)

pub roots-stay : (ps : List Pair) (m m' : List ℕ) → IsRoots ps m → SameIn (frames_of ps m) m m' → IsRoots ps m'
roots-stay ps m m' h e =
    let k = kept-same ps m m' h.shadows e in
    record {
      few = h.few;
      holds = subst (Holds m') (sym (kept-frames ps m m' k)) (Holds-writes (frames_of ps m) m m' h.holds e.size);
      shadows = kept-shadows ps m m' k;
      sized = h.sized;
      barred = kept-barred (any_reads ps) ps m m' k h.barred;
      unmarked = h.unmarked;
    }

-- ---- the frames that were read as tables

places-above : (f n : ℕ) (bits : List Bool) → f < n → is_among f (places_from n bits) ≡ false
unfolding places_from
places-above f n [] l = refl
places-above f n (true ∷ bs) l =
    elim (eqb_tells f n) [
      | inl t ↦ absurd (let e = t.1 in omega (arith, e, l))
      | inr t ↦ ap (λ b. b || is_among f (places_from (suc n) bs))
          t.0 ∙ places-above f (suc n) bs (omega (arith, l))
    ]
places-above f n (false ∷ bs) l = places-above f (suc n) bs (omega (arith, l))

places-are : (f n i : ℕ) (bits : List Bool) → f ≡ n + i → is_among f (places_from n bits) ≡ get_or bits i false
unfolding places_from
places-are f n i [] e = refl
places-are f n zero (true ∷ bs) e =
    elim (eqb_tells f n) [ inl t ↦ ap (λ b. b || is_among f (places_from (suc n) bs)) t.0 | inr t ↦ absurd (t.1 (omega (arith, e))) ]
places-are f n zero (false ∷ bs) e = places-above f (suc n) bs (omega (arith, e))
places-are f n (suc i) (true ∷ bs) e =
    elim (eqb_tells f n) [
      | inl t ↦ absurd (let q = t.1 in omega (arith, e, q))
      | inr t ↦ ap (λ b. b || is_among f (places_from (suc n) bs)) t.0 ∙ places-are f (suc n) i bs (omega (arith, e))
    ]
places-are f n (suc i) (false ∷ bs) e = places-are f (suc n) i bs (omega (arith, e))

pub tables-any : (ps : List Pair) (f : ℕ) → is_among f (tables_of ps) ≡ any_reads ps f
tables-any [] f = refl
tables-any (p ∷ ps) f =
    among-append f (places_from 0 p.tables) (tables_of ps)
    ∙ ap (λ b. b || is_among f (tables_of ps)) (places-are f 0 f p.tables (omega arith))
    ∙ ap (λ b. reads p f || b) (tables-any ps f)

any-roots : (frame : ℕ) (ps : List Pair) (m : List ℕ) → list_any (λ (a : OtherRoot). a.tables frame) (of_roots (other_roots_of ps m))
    ≡ any_reads ps frame
any-roots frame [] m = refl
any-roots frame (p ∷ ps) m = ap (λ b. reads p frame || b) (any-roots frame ps m)

pub protects-is : (p : Pair) (ps : List Pair) (m : List ℕ) (f : ℕ → Option Slot) (frame : ℕ)
    → is_among frame (tables_of (p ∷ ps)) ≡ protects (seen_of f (reads p) p.stale (Some p.cr3) (other_roots_of ps m)) frame
protects-is p ps m f frame = tables-any (p ∷ ps) frame ∙ sym (ap (λ b. reads p frame || b) (any-roots frame ps m))

-- ---- the laws

pub lies : (ps : List Pair) (m : List ℕ) → ∥ IsRoots ps m ∥₁ → Holds m (frames_of ps m)
lies ps m h = (had ps m h).holds

pub two : (p : Pair) (ps : List Pair) (m : List ℕ) → 2 ≤ length (frames_of (p ∷ ps) m)
two p ps m =
    let a = below.held-roots p.shadow m in let b = length-append (held p.shadow m) (frames_of ps m) in
    let c = ap (λ (fs : List ℕ). length fs) (frames-cons p ps m) in omega (arith, a, b, c)

shadow : (p : Pair) (ps : List Pair) (m : List ℕ) → ∥ IsRoots (p ∷ ps) m ∥₁ → ∥ IsShadow p.shadow m ∥₁
shadow p ps m h = ∥∥₁_map h (λ x. x.shadows.0)

pub walked : (p : Pair) (ps : List Pair) (m : List ℕ) (side : Side) (page f : ℕ) → ∥ IsRoots (p ∷ ps) m ∥₁ → page < 2 ^ 20
    → 1 ≤ times f (walk_frames m (root_of p.shadow side) page) → 1 ≤ times f (frames_of (p ∷ ps) m)
walked p ps m side page f h l i =
    let a = below.walked p.shadow m side page f (shadow p ps m h) l i in let t = times-frames f p ps m in omega (arith, a, t)

pub host : (p : Pair) (ps : List Pair) (m : List ℕ) (n : ℕ) (side : Side) (page : ℕ) (write : Bool) → ∥ IsRoots (p ∷ ps) m ∥₁
    → 4096 * n ≡ length m → page < 2 ^ 20 → reached m n (root_of p.shadow side) page write ≡ lent n (slot_at p.shadow m page) side write
host p ps m n side page write h e l = below.host p.shadow m n side page write (shadow p ps m h) e l

pub fits : (p : Pair) (ps : List Pair) (m : List ℕ) (page : ℕ) (slot : Slot) → ∥ IsRoots (p ∷ ps) m ∥₁ → page < 2 ^ 20
    → slot_at p.shadow m page ≡ Some slot → (slot.entry.page ≡ page) × (slot.entry.frame < 2 ^ 20)
fits p ps m page slot h l e = below.fits p.shadow m page slot (shadow p ps m h) l e

pub barred : (p : Pair) (ps : List Pair) (m : List ℕ) (page : ℕ) (slot : Slot) → ∥ IsRoots (p ∷ ps) m ∥₁ → page < 2 ^ 20
    → slot_at p.shadow m page ≡ Some slot → is_among slot.entry.frame (tables_of (p ∷ ps)) ≡ true → slot.writes ≡ false
barred p ps m page slot h l e t = (had (p ∷ ps) m h).barred.0 page slot l e (sym (tables-any (p ∷ ps) slot.entry.frame) ∙ t)

pub stays : (ps : List Pair) (m m' : List ℕ) → ∥ IsRoots ps m ∥₁ → SameIn (frames_of ps m) m m' → ∥ IsRoots ps m' ∥₁
stays ps m m' h e = ∥∥₁_map h (λ x. roots-stay ps m m' x e)

pub same-frames : (ps : List Pair) (m m' : List ℕ) → ∥ IsRoots ps m ∥₁ → SameIn (frames_of ps m) m m' → frames_of ps m' ≡ frames_of ps m
same-frames ps m m' h e = kept-frames ps m m' (kept-same ps m m' (had ps m h).shadows e)

pub same-slots : (p : Pair) (ps : List Pair) (m m' : List ℕ) → ∥ IsRoots (p ∷ ps) m ∥₁ → SameIn (frames_of (p ∷ ps) m) m m'
    → SameSlots (slot_at p.shadow m) (slot_at p.shadow m')
same-slots p ps m m' h e = (kept-same (p ∷ ps) m m' (had (p ∷ ps) m h).shadows e).2

-- ---- what is kept for other values

pub same-kept : (ps : List Pair) (m m' : List ℕ) → AreKept ps m m' → AreSame (other_roots_of ps m) (other_roots_of ps m')
same-kept [] m m' k = tt
same-kept (p ∷ ps) m m' k = (record { cr3 = refl; tables = λ f. refl; slots = k.2 }, same-kept ps m m' k.3)

pub same-other_roots : (p : Pair) (ps : List Pair) (m m' : List ℕ) → ∥ IsRoots (p ∷ ps) m ∥₁ → SameIn (frames_of (p ∷ ps) m) m m'
    → AreSame (other_roots_of ps m) (other_roots_of ps m')
same-other_roots p ps m m' h e = same-kept ps m m' (kept-same (p ∷ ps) m m' (had (p ∷ ps) m h).shadows e).3

all-fit : (ps : List Pair) (m : List ℕ) → AreShadows ps m → AllFit (other_roots_of ps m)
all-fit [] m h = tt
all-fit (p ∷ ps) m h = (λ page slot l e. below.fits p.shadow m page slot (merely h.0) l e, all-fit ps m h.1)

pub other_roots-fit : (p : Pair) (ps : List Pair) (m : List ℕ) → ∥ IsRoots (p ∷ ps) m ∥₁ → AllFit (other_roots_of ps m)
other_roots-fit p ps m h = all-fit ps m (had (p ∷ ps) m h).shadows.1

all-barred : (t u : ℕ → Bool) (ps : List Pair) (m : List ℕ) → ((f : ℕ) → u f ≡ t f) → AllBarWrites t ps m
    → AllBarred u (other_roots_of ps m)
all-barred t u [] m i h = tt
all-barred t u (p ∷ ps) m i h = (λ page slot l e y. h.0 page slot l e (sym (i slot.entry.frame) ∙ y), all-barred t u ps m i h.1)

pub other_roots-barred : (p : Pair) (ps : List Pair) (m : List ℕ) → ∥ IsRoots (p ∷ ps) m ∥₁
    → AllBarred (λ f. is_among f (tables_of (p ∷ ps))) (other_roots_of ps m)
other_roots-barred p ps m h =
    all-barred (any_reads (p ∷ ps)) (λ f. is_among f (tables_of (p ∷ ps))) ps m (λ f. tables-any (p ∷ ps) f) (had (p ∷ ps) m h).barred.1

pub read_from-write_protected : (p : Pair) (ps : List Pair) (frame : ℕ) → reads p frame ≡ true → is_among frame (tables_of (p ∷ ps)) ≡ true
read_from-write_protected p ps frame e = tables-any (p ∷ ps) frame ∙ ap (λ b. b || any_reads ps frame) e

all-write_protected : (t : ℕ → Bool) (ps : List Pair) (m : List ℕ) → ((f : ℕ) → any_reads ps f ≡ true → t f ≡ true)
    → AllProtected t (other_roots_of ps m)
all-write_protected t [] m h = tt
all-write_protected t (p ∷ ps) m h = (
  λ f e. h f (ap (λ b. b || any_reads ps f) e),
  all-write_protected t ps m (λ f e. h f (ap (λ b. reads p f || b) e ∙ or-true (reads p f))),
)

pub other_roots-write_protected : (p : Pair) (ps : List Pair) (m : List ℕ)
    → AllProtected (λ f. is_among f (tables_of (p ∷ ps))) (other_roots_of ps m)
other_roots-write_protected p ps m = all-write_protected (λ f. is_among f (tables_of (p ∷ ps))) ps m
    (λ f e. tables-any (p ∷ ps) f ∙ (ap (λ b. reads p f || b) e ∙ or-true (reads p f)))

other_roots-length : (ps : List Pair) (m : List ℕ) → length (other_roots_of ps m) ≡ length ps
other_roots-length [] m = refl
other_roots-length (p ∷ ps) m = ap suc (other_roots-length ps m)

pub few-other_roots : (p : Pair) (ps : List Pair) (m : List ℕ) → ∥ IsRoots (p ∷ ps) m ∥₁ → length (other_roots_of ps m) ≤ 7
few-other_roots p ps m h = let few = (had (p ∷ ps) m h).few in let e = other_roots-length ps m in omega (arith, few, e)

-- ---- for which directory indices tables are there

all-same : (indices : ℕ → Bool) (ps : List Pair) (m m' : List ℕ) → SameIn (frames_of ps m) m m' → AllOpenedOnly indices ps m
    → AllOpenedOnly indices ps m'
all-same indices [] m m' e h = tt
all-same indices (p ∷ ps) m m' e h =
    (only-same indices p.shadow m m' (same-first p ps m m' e) h.0, all-same indices ps m m' (same-rest p ps m m' e) h.1)

pub same-has_tables_under : (ps : List Pair) (m m' : List ℕ) (indices : ℕ → Bool) → SameIn (frames_of ps m) m m'
    → AllOpenedOnly indices ps m → AllOpenedOnly indices ps m'
same-has_tables_under ps m m' indices e h = all-same indices ps m m' e h

pub wider-has_tables_under : (ps : List Pair) (m : List ℕ) (indices more : ℕ → Bool)
    → ((index : ℕ) → indices index ≡ true → more index ≡ true) → AllOpenedOnly indices ps m → AllOpenedOnly more ps m
wider-has_tables_under [] m indices more w h = tt
wider-has_tables_under (p ∷ ps) m indices more w h =
    (λ side index l t. w index (h.0 side index l t), wider-has_tables_under ps m indices more w h.1)

all-sized : (ps : List Pair) (m : List ℕ) (indices : ℕ → Bool) (xs : List ℕ) → AllOpenedOnly indices ps m
    → ((index : ℕ) → index < 1024 → indices index ≡ true → is_member eqb xs index ≡ true) → (n : ℕ) → length ps ≤ n
    → length (frames_of ps m) ≤ n * (2 + 2 * distinct_count eqb xs)
unfolding frames_of
all-sized [] m indices xs h all n few = omega arith
all-sized (p ∷ ps) m indices xs h all zero few = absurd (omega (arith, few))
all-sized (p ∷ ps) m indices xs h all (suc n) few =
    let a = length-append (held p.shadow m) (frames_of ps m) in
    let b = held-size indices p.shadow m xs h.0 all in
    let c = all-sized ps m indices xs h.1 all n (omega (arith, few)) in
    let d = one-pair n (2 + 2 * distinct_count eqb xs) in
    omega (arith, a, b, c, d)
  where
    one-pair : (n k : ℕ) → suc n * k ≡ k + n * k
    one-pair n k = omega arith

pub frames-sized : (p : Pair) (ps : List Pair) (m : List ℕ) (indices : ℕ → Bool) (xs : List ℕ) → ∥ IsRoots (p ∷ ps) m ∥₁
    → AllOpenedOnly indices (p ∷ ps) m → ((index : ℕ) → index < 1024 → indices index ≡ true → is_member eqb xs index ≡ true)
    → length (frames_of (p ∷ ps) m) ≤ 8 * (2 + 2 * distinct_count eqb xs)
frames-sized p ps m indices xs h only all = all-sized (p ∷ ps) m indices xs only all 8 (had (p ∷ ps) m h).few
