-- A call on the present pair, beside which the others stay as they were.
use Rattle.std.proofs.Common.{◌≡◌, ℕ, ◌/◌, ◌^◌, ◌<◌, List, ◌∷◌, ◌++◌, Bool, true, false, not, ◌&&◌, Option, Some, None, refl, sym, ap, ◌∙◌, subst, inl, inr}
use Rattle.std.proofs.lemmas.Bool.Decides.{eqb_tells}
use Rattle.std.proofs.lemmas.Option.{same_Some, none-some}
use Rattle.frame_pool.specs.declared.Pool.{Pool}
use Rattle.frame_pool.specs.Held.{Holds, Owns, Writes, Moves, SameIn}
use Rattle.frame_pool.proofs.Held.{Owns-part, Owns-moves, Holds-from_Owns, Holds-writes, Moves-beside, SameIn-beside, SameIn-writes, Writes-more, Moves-kept}
use Rattle.paging.specs.declared.entry.Entry.{Entry}
use Rattle.shadow_tables.specs.Slots.{Slot, filled, permits, held, slot_at, LosesDir, IsShadow}
use Rattle.shadow_tables.specs.declared.words.Side.{Side}
use Rattle.shadow_cache.specs.Pairs.{any_reads, frames_of, BarsWrites, IsRoots}
use Rattle.shadow_cache.specs.Others.{AreKept}
use Rattle.shadow_cache.specs.declared.pair.Pair.{Pair}
use Rattle.shadow_cache.specs.Laws.{frames-cons, kept-same, kept-shadows, kept-frames, kept-barred}

-- ---- rights to write

pub bars-turned : (test : ℕ → Bool) (f f' : ℕ → Option Slot) (page : ℕ) → BarsWrites test f
    → ((q : ℕ) → q < 2 ^ 20 → (q ≡ page → ⊥) → f' q ≡ f q)
    → ((slot : Slot) → f' page ≡ Some slot → test slot.entry.frame ≡ true → slot.writes ≡ false) → BarsWrites test f'
bars-turned test f f' page b others here = λ q slot l e t.
    elim (eqb_tells q page) [ inl x ↦ here slot (ap f' (sym x.1) ∙ e) t | inr x ↦ b q slot l (sym (others q l x.1) ∙ e) t ]

pub bars-dropped : (test : ℕ → Bool) (f f' : ℕ → Option Slot) (page : ℕ) → BarsWrites test f → f' page ≡ None
    → ((q : ℕ) → q < 2 ^ 20 → (q ≡ page → ⊥) → f' q ≡ f q) → BarsWrites test f'
bars-dropped test f f' page b none others = bars-turned test f f' page b others (λ slot e t. absurd (none-some slot (sym none ∙ e)))

pub bars-lost : (test : ℕ → Bool) (f f' : ℕ → Option Slot) (index : ℕ) → BarsWrites test f → LosesDir f f' index → BarsWrites test f'
bars-lost test f f' index b d = λ q slot l e t.
    elim (eqb_tells (q / 1024) index)
    [ inl x ↦ absurd (none-some slot (sym (d.gone q l x.1) ∙ e)) | inr x ↦ b q slot l (sym (d.others q l x.1) ∙ e) t ]

no-right : (b p : Bool) → b ≡ true → (not b && p) ≡ false
no-right true p e = refl
no-right false p e = cc

pub bars-filled : (test : ℕ → Bool) (f f' : ℕ → Option Slot) (b : Bool) (side : Side) (entry : Entry) (wp : Bool) → b ≡ test entry.frame
    → BarsWrites test f → f' entry.page ≡ Some (filled b side entry wp) → ((q : ℕ) → q < 2 ^ 20 → (q ≡ entry.page → ⊥) → f' q ≡ f q)
    → BarsWrites test f'
bars-filled test f f' b side entry wp same bars there others =
    bars-turned test f f' entry.page bars others (λ slot e t. (
    let q = same_Some (filled b side entry wp) slot (sym there ∙ e) in
    let on : b ≡ true = same ∙ ap (λ (s : Slot). test s.entry.frame) q ∙ t in
    sym (ap (λ (s : Slot). s.writes) q) ∙ no-right b (permits side entry true wp) on))

-- ---- the pairs

module _ (p : Pair) (ps : List Pair) (m m' : List ℕ) (h : IsRoots (p ∷ ps) m) (s : IsShadow p.shadow m') (e : SameIn (frames_of ps m) m m')
    (b : BarsWrites (any_reads (p ∷ ps)) (slot_at p.shadow m')) where
  rest-frames : frames_of ps m' ≡ frames_of ps m
  rest-frames = kept-frames ps m m' (kept-same ps m m' h.shadows.1 e)

  present-frames : frames_of (p ∷ ps) m' ≡ held p.shadow m' ++ frames_of ps m
  present-frames = frames-cons p ps m' ∙ ap (λ (fs : List ℕ). held p.shadow m' ++ fs) rest-frames

  pub present-roots : Holds m' (held p.shadow m' ++ frames_of ps m) → IsRoots (p ∷ ps) m'
  present-roots holds =
      let k = kept-same ps m m' h.shadows.1 e in
      record {
        few = h.few;
        holds = subst (Holds m') (sym present-frames) holds;
        shadows = (s, kept-shadows ps m m' k);
        sized = h.sized;
        barred = (b, kept-barred (any_reads (p ∷ ps)) ps m m' k h.barred.1);
        unmarked = h.unmarked;
      }

-- only its frames were written, and they are the same ones
module _ (p : Pair) (ps : List Pair) (m m' : List ℕ) (h : IsRoots (p ∷ ps) m) (s : IsShadow p.shadow m')
    (same : held p.shadow m' ≡ held p.shadow m) (w : Writes (held p.shadow m) m m') where
  joint : Holds m (held p.shadow m ++ frames_of ps m)
  joint = subst (Holds m) (frames-cons p ps m) h.holds

  pub apart : SameIn (frames_of ps m) m m'
  apart = SameIn-writes m m' (held p.shadow m) (frames_of ps m) joint w

  pub write-kept : AreKept ps m m'
  write-kept = kept-same ps m m' h.shadows.1 apart

  pub write-roots : BarsWrites (any_reads (p ∷ ps)) (slot_at p.shadow m') → IsRoots (p ∷ ps) m'
  write-roots b =
      present-roots p ps m m' h s apart b
      (subst (λ (fs : List ℕ). Holds m' (fs ++ frames_of ps m)) (sym same)
      (Holds-writes (held p.shadow m ++ frames_of ps m) m m' joint w.size))

  pub write-frames : frames_of (p ∷ ps) m' ≡ frames_of (p ∷ ps) m
  write-frames =
      frames-cons p ps m' ∙ ap (λ (fs : List ℕ). held p.shadow m' ++ fs) (kept-frames ps m m' (kept-same ps m m' h.shadows.1 apart))
      ∙ ap (λ (fs : List ℕ). fs ++ frames_of ps m) same ∙ sym (frames-cons p ps m)

  pub write-memory : Writes (frames_of (p ∷ ps) m) m m'
  write-memory = subst (λ (fs : List ℕ). Writes fs m m') (sym (frames-cons p ps m)) (Writes-more m m' (held p.shadow m) (frames_of ps m) w)

  pub write-moves : (pool : Pool) → Owns pool m (frames_of (p ∷ ps) m) → Moves pool pool m m' (frames_of (p ∷ ps) m) (frames_of (p ∷ ps) m')
  write-moves pool o = Moves-kept pool m m' (frames_of (p ∷ ps) m) (frames_of (p ∷ ps) m') o write-frames write-memory

-- its frames may be others then
module _ (pool pool' : Pool) (p : Pair) (ps : List Pair) (m m' : List ℕ) (h : IsRoots (p ∷ ps) m)
    (o : Owns pool m (frames_of (p ∷ ps) m)) where
  parted : Owns pool m (held p.shadow m ++ frames_of ps m)
  parted = subst (Owns pool m) (frames-cons p ps m) o

  pub present-owns : Owns pool m (held p.shadow m)
  present-owns = Owns-part pool m (held p.shadow m) (frames_of ps m) parted

  module _ (s : IsShadow p.shadow m') (v : Moves pool pool' m m' (held p.shadow m) (held p.shadow m')) where
    aside : SameIn (frames_of ps m) m m'
    aside = SameIn-beside pool pool' m m' (held p.shadow m) (held p.shadow m') (frames_of ps m) parted v

    moved : Moves pool pool' m m' (held p.shadow m ++ frames_of ps m) (held p.shadow m' ++ frames_of ps m)
    moved = Moves-beside pool pool' m m' (held p.shadow m) (held p.shadow m') (frames_of ps m) v

    pub move-kept : AreKept ps m m'
    move-kept = kept-same ps m m' h.shadows.1 aside

    pub move-roots : BarsWrites (any_reads (p ∷ ps)) (slot_at p.shadow m') → IsRoots (p ∷ ps) m'
    move-roots b =
        present-roots p ps m m' h s aside b
        (Holds-from_Owns pool' m' (held p.shadow m' ++ frames_of ps m)
        (Owns-moves pool pool' m m' (held p.shadow m ++ frames_of ps m) (held p.shadow m' ++ frames_of ps m) parted moved))

    pub move-moves : Moves pool pool' m m' (frames_of (p ∷ ps) m) (frames_of (p ∷ ps) m')
    move-moves =
        let there = frames-cons p ps m'
        ∙ ap (λ (fs : List ℕ). held p.shadow m' ++ fs) (kept-frames ps m m' (kept-same ps m m' h.shadows.1 aside)) in
        subst (λ (fs : List ℕ). Moves pool pool' m m' fs (frames_of (p ∷ ps) m')) (sym (frames-cons p ps m))
        (subst (Moves pool pool' m m' (held p.shadow m ++ frames_of ps m)) (sym there) moved)

    pub move-owns : Owns pool' m' (frames_of (p ∷ ps) m')
    move-owns = Owns-moves pool pool' m m' (frames_of (p ∷ ps) m) (frames_of (p ∷ ps) m') o move-moves
