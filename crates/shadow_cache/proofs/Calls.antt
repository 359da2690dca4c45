-- The outcome of each call.
use Rattle.std.proofs.Common.{◌≡◌, ℕ, zero, suc, ◌<◌, ◌≤◌, List, [], ◌∷◌, ◌++◌, length, filter, get_or, slice_set, Bool, true, false, not, ◌||◌, cond, refl, sym, ap, ◌∙◌, subst, inl, inr, arith}
use Rattle.std.proofs.lemmas.Bool.{both_ways}
use Rattle.std.proofs.lemmas.Option.{none-some}
use Rattle.plain_laws.proofs.Tests.{either_less}
use Rattle.frame_pool.specs.declared.Pool.{Pool}
use Rattle.frame_pool.specs.Held.{Holds, Owns, Moves}
use Rattle.frame_pool.proofs.Held.{Moves-trans, Owns-moves}
use Rattle.guest_ram.specs.Among.{is_among}
use Rattle.shadow_tables.specs.Slots.{ArePart, held, slot_at, SameSlots, IsShadow, IsEmpty}
use Rattle.shadow_tables.specs.Opened.{KeepsTables}
use Rattle.shadow_cache.specs.Pairs.{no_frames, reads, any_reads, tables_of, frames_of, AreSized, BarsWrites, AllBarWrites, AreUnmarked, IsRoots}
use Rattle.shadow_cache.specs.Others.{AreKept}
use Rattle.shadow_cache.specs.declared.pair.Pair.{Pair}
use Rattle.shadow_cache.specs.Laws.{frames-cons, kept-shadows, kept-barred, tables-any}
use Rattle.shadow_cache.proofs.Leaving.{none-frames}
use Rattle.shadow_cache.proofs.Present.{present-owns, move-roots, move-moves}
use Rattle.shadow_cache.proofs.Beside.{bars-fewer, all-fewer, tables-part, few-filter, sized-filter, barred-filter, unmarked-filter, any-filter, none-reads, or-less, reads-set, reads-there, no-reads, no-length, beside-shadow, beside-held, beside-slots, beside-tables, beside-moves, beside-owns, beside-roots}
use Rattle.shadow_cache.proofs.Small.{length-set}

-- ---- the same views

pub frames-shadow : (p p' : Pair) (ps : List Pair) (m : List ℕ) → p'.shadow ≡ p.shadow → frames_of (p' ∷ ps) m ≡ frames_of (p ∷ ps) m
frames-shadow p p' ps m e = frames-cons p' ps m ∙ ap (λ s. held s m ++ frames_of ps m) e ∙ sym (frames-cons p ps m)

pub roots-shadow : (p p' : Pair) (ps : List Pair) (m : List ℕ) → IsRoots (p ∷ ps) m → p'.shadow ≡ p.shadow → length p'.tables ≡ 16384
    → ((x : ℕ) → any_reads (p' ∷ ps) x ≡ true → any_reads (p ∷ ps) x ≡ true) → IsRoots (p' ∷ ps) m
roots-shadow p p' ps m h e size i =
    let e' = sym e in
    record {
      few = h.few;
      holds = subst (Holds m) (sym (frames-shadow p p' ps m e)) h.holds;
      shadows = (subst (λ s. IsShadow s m) e' h.shadows.0, h.shadows.1);
      sized = (size, h.sized.1);
      barred = (
        bars-fewer (any_reads (p ∷ ps)) (any_reads (p' ∷ ps)) (slot_at p'.shadow m) i
            (subst (λ s. BarsWrites (any_reads (p ∷ ps)) (slot_at s m)) e' h.barred.0),
        all-fewer (any_reads (p ∷ ps)) (any_reads (p' ∷ ps)) ps m i h.barred.1,
      );
      unmarked = h.unmarked;
    }

-- ---- all dropped

abbrev pub emptied_pair : Pair → Pair
emptied_pair p = record p { tables = no_frames; stale = false }

pub bars-empty : (test : ℕ → Bool) (p : Pair) (m : List ℕ) → IsEmpty p.shadow m → BarsWrites test (slot_at p.shadow m)
bars-empty test p m e = λ page slot l q t. absurd (none-some slot (sym (e.none page l) ∙ q))

unread : (p : Pair) (x : ℕ) → any_reads (emptied_pair p ∷ []) x ≡ false
unread p x = ap (λ b. b || false) (no-reads x)

module _ (pool pool1 pool2 : Pool) (p : Pair) (ps ps' : List Pair) (m m1 m2 : List ℕ) (h : IsRoots (p ∷ ps) m)
    (o : Owns pool m (frames_of (p ∷ ps) m)) (none : ps' ≡ [])
    (v : Moves pool pool1 m m1 (frames_of ps m) []) where
  gone : Moves pool pool1 m m1 (frames_of ps m) (frames_of [] m1)
  gone = subst (Moves pool pool1 m m1 (frames_of ps m)) (sym (none-frames m1)) v

  alone : IsRoots (p ∷ []) m1
  alone = beside-roots pool pool1 p ps [] m m1 h o gone p refl h.sized.0 (omega arith) tt tt tt tt
      (λ x e. or-less (reads p x) false (any_reads ps x) e (λ f. absurd (both_ways false refl f)))

  pub alone-shadow : IsShadow p.shadow m1
  alone-shadow = beside-shadow pool pool1 p ps [] m m1 h o gone

  alone-owned : Owns pool1 m1 (frames_of (p ∷ []) m1)
  alone-owned = beside-owns pool pool1 p ps [] m m1 h o gone

  pub alone-owns : Owns pool1 m1 (held p.shadow m1)
  alone-owns = present-owns pool1 pool1 p [] m1 m1 alone alone-owned

  module _ (e : IsEmpty p.shadow m2) (w : Moves pool1 pool2 m1 m2 (held p.shadow m1) (held p.shadow m2)) (p' : Pair)
      (q : p' ≡ emptied_pair p) where
    bare : IsRoots (emptied_pair p ∷ []) m2
    bare =
        roots-shadow p (emptied_pair p) [] m2
        (move-roots pool1 pool2 p [] m1 m2 alone alone-owned e.shadow w (bars-empty (any_reads (p ∷ [])) p m2 e)) refl
        (no-length) (λ x f. absurd (both_ways (any_reads (emptied_pair p ∷ []) x) (unread p x) f))

    lists : (x : Pair) (xs : List Pair) → x ≡ emptied_pair p → xs ≡ [] → x ∷ xs ≡ emptied_pair p ∷ []
    lists x xs a b = ap (λ (y : Pair). y ∷ xs) a ∙ ap (λ (ys : List Pair). emptied_pair p ∷ ys) b

    pub dropped-roots : IsRoots (p' ∷ ps') m2
    dropped-roots = subst (λ (xs : List Pair). IsRoots xs m2) (sym (lists p' ps' q none)) bare

    pub dropped-moves : Moves pool pool2 m m2 (frames_of (p ∷ ps) m) (frames_of (p' ∷ ps') m2)
    dropped-moves =
        subst (λ (xs : List Pair). Moves pool pool2 m m2 (frames_of (p ∷ ps) m) (frames_of xs m2)) (sym (lists p' ps' q none))
        (subst (Moves pool pool2 m m2 (frames_of (p ∷ ps) m)) (sym (frames-shadow p (emptied_pair p) [] m2 refl))
        (Moves-trans pool pool1 pool2 m m1 m2 (frames_of (p ∷ ps) m) (frames_of (p ∷ []) m1) (frames_of (p ∷ []) m2)
        (beside-moves pool pool1 p ps [] m m1 h o gone) (move-moves pool1 pool2 p [] m1 m2 alone alone-owned e.shadow w)))

    pub dropped-owns : Owns pool2 m2 (frames_of (p' ∷ ps') m2)
    dropped-owns = Owns-moves pool pool2 m m2 (frames_of (p ∷ ps) m) (frames_of (p' ∷ ps') m2) o dropped-moves

    pub dropped-two : length (frames_of (p' ∷ ps') m2) ≡ 2
    dropped-two =
        ap (λ (xs : List Pair). length (frames_of xs m2)) (lists p' ps' q none)
        ∙ ap (λ (fs : List ℕ). length fs)
        (frames-cons (emptied_pair p) [] m2 ∙ ap (λ (fs : List ℕ). held p.shadow m2 ++ fs) (none-frames m2))
        ∙ ap (λ (fs : List ℕ). length (fs ++ [])) e.frames

    pub dropped-write_protected : ArePart (tables_of (p' ∷ ps')) (tables_of (p ∷ ps))
    dropped-write_protected =
        subst (λ (xs : List Pair). ArePart (tables_of xs) (tables_of (p ∷ ps))) (sym (lists p' ps' q none))
        (tables-part (p ∷ ps) (emptied_pair p ∷ []) (λ x f. absurd (both_ways (any_reads (emptied_pair p ∷ []) x) (unread p x) f)))

-- ---- a frame that was written

abbrev pub spoilt : Bool → Pair → ℕ → Pair
spoilt b p frame = cond b (record p { tables = slice_set p.tables frame false; stale = true }) p

spoilt-shadow : (b : Bool) (p : Pair) (frame : ℕ) → (spoilt b p frame).shadow ≡ p.shadow
spoilt-shadow true p frame = refl
spoilt-shadow false p frame = refl

spoilt-size : (b : Bool) (p : Pair) (frame : ℕ) → length (spoilt b p frame).tables ≡ length p.tables
spoilt-size true p frame = length-set p.tables frame false
spoilt-size false p frame = refl

spoilt-reads : (b : Bool) (p : Pair) (frame x : ℕ) → reads (spoilt b p frame) x ≡ true → reads p x ≡ true
spoilt-reads false p frame x e = e
spoilt-reads true p frame x e = elim (reads-set p.tables frame x false) [ inl s ↦ sym s ∙ e | inr t ↦ absurd (both_ways _ t.2 e) ]

pub read-there : (bits : List Bool) (i : ℕ) → get_or bits i false ≡ true → i < length bits
read-there [] i e = cc
read-there (b ∷ bs) zero e = omega arith
read-there (b ∷ bs) (suc i) e = let r = read-there bs i e in omega (arith, r)

spoilt-there : (b : Bool) (p : Pair) (frame : ℕ) → reads p frame ≡ b → reads (spoilt b p frame) frame ≡ false
spoilt-there false p frame e = e
spoilt-there true p frame e = reads-there p.tables frame false (read-there p.tables frame e)

abbrev pub unspoilt : ℕ → List Pair → List Pair
unspoilt frame ps = filter (λ q. not (reads q frame)) ps

module _ (pool pool1 : Pool) (p p' : Pair) (ps ps' : List Pair) (m m1 : List ℕ) (frame : ℕ) (h : IsRoots (p ∷ ps) m)
    (o : Owns pool m (frames_of (p ∷ ps) m))
    (rest : ps' ≡ unspoilt frame ps) (kept : AreKept ps' m m1) (v : Moves pool pool1 m m1 (frames_of ps m) (frames_of ps' m1))
    (q : p' ≡ spoilt (reads p frame) p frame) where
  pub spoilt-same : p'.shadow ≡ p.shadow
  spoilt-same = ap (λ (x : Pair). x.shadow) q ∙ spoilt-shadow (reads p frame) p frame

  pub spoilt-fewer : (x : ℕ) → any_reads (p' ∷ ps') x ≡ true → any_reads (p ∷ ps) x ≡ true
  spoilt-fewer x e =
      let f : any_reads (spoilt (reads p frame) p frame ∷ unspoilt frame ps) x ≡ true =
      sym (ap (λ (y : Pair). any_reads (y ∷ ps') x) q ∙ ap (λ (ys : List Pair). reads (spoilt (reads p frame) p frame) x || any_reads ys x)
      rest) ∙ e in
      either_less (reads (spoilt (reads p frame) p frame) x) (any_reads (unspoilt frame ps) x) (reads p x) (any_reads ps x)
      (spoilt-reads (reads p frame) p frame x) (any-filter (λ y. not (reads y frame)) ps x) f

  pub spoilt-roots : IsRoots (p' ∷ ps') m1
  spoilt-roots =
      beside-roots pool pool1 p ps ps' m m1 h o v p' spoilt-same
      (ap (λ (x : Pair). length x.tables) q ∙ spoilt-size (reads p frame) p frame ∙ h.sized.0)
      (subst (λ (xs : List Pair). length xs ≤ length ps) (sym rest) (few-filter (λ y. not (reads y frame)) ps))
      (kept-shadows ps' m m1 kept)
      (subst AreSized (sym rest) (sized-filter (λ y. not (reads y frame)) ps h.sized.1))
      (kept-barred (any_reads (p ∷ ps)) ps' m m1 kept
      (subst (λ (xs : List Pair). AllBarWrites (any_reads (p ∷ ps)) xs m) (sym rest)
      (barred-filter (any_reads (p ∷ ps)) (λ y. not (reads y frame)) ps m h.barred.1)))
      (subst AreUnmarked (sym rest) (unmarked-filter (λ y. not (reads y frame)) ps h.unmarked))
      spoilt-fewer

  pub spoilt-slots : SameSlots (slot_at p.shadow m) (slot_at p'.shadow m1)
  spoilt-slots = subst (λ s. SameSlots (slot_at p.shadow m) (slot_at s m1)) (sym spoilt-same) (beside-slots pool pool1 p ps ps' m m1 h o v)

  pub spoilt-kept : AreKept (p' ∷ ps') m m1
  spoilt-kept =
      let same = sym spoilt-same in (
        subst (λ s. IsShadow s m1) same (beside-shadow pool pool1 p ps ps' m m1 h o v),
        subst (λ s. held s m1 ≡ held s m) same (beside-held pool pool1 p ps ps' m m1 h o v),
        subst (λ s. SameSlots (slot_at s m) (slot_at s m1)) same (beside-slots pool pool1 p ps ps' m m1 h o v),
        kept,
        subst (λ s. KeepsTables s m m1) same (beside-tables pool pool1 p ps ps' m m1 h o v),
      )

  pub spoilt-unprotected : is_among frame (tables_of (p' ∷ ps')) ≡ false
  spoilt-unprotected =
      tables-any (p' ∷ ps') frame
      ∙ ap (λ (y : Pair). any_reads (y ∷ ps') frame) q
      ∙ ap (λ b. b || any_reads ps' frame) (spoilt-there (reads p frame) p frame refl)
      ∙ ap (λ (ys : List Pair). any_reads ys frame) rest ∙ none-reads ps frame

  pub spoilt-moves : Moves pool pool1 m m1 (frames_of (p ∷ ps) m) (frames_of (p' ∷ ps') m1)
  spoilt-moves = subst (Moves pool pool1 m m1 (frames_of (p ∷ ps) m)) (sym (frames-shadow p p' ps' m1 spoilt-same))
      (beside-moves pool pool1 p ps ps' m m1 h o v)

  pub spoilt-owns : Owns pool1 m1 (frames_of (p' ∷ ps') m1)
  spoilt-owns = Owns-moves pool pool1 m m1 (frames_of (p ∷ ps) m) (frames_of (p' ∷ ps') m1) o spoilt-moves
