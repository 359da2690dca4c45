-- A frame that is noted, and a new pair.
use Rattle.std.proofs.Common.{◌≡◌, ℕ, ◌<◌, ◌⊎◌, List, [], ◌∷◌, ◌++◌, length, get_or, slice_set, Bool, true, false, not, ◌||◌, ◌&&◌, eqb, Option, Some, None, refl, sym, ap, ◌∙◌, subst, inl, inr, arith}
use Rattle.std.proofs.lemmas.Bool.Decides.{eqb_tells}
use Rattle.frame_pool.specs.declared.Pool.{Pool}
use Rattle.frame_pool.specs.Held.{Holds, Owns, Writes, Moves, SameIn}
use Rattle.frame_pool.proofs.Held.{Holds-writes, Writes-trans, Moves-kept}
use Rattle.guest_ram.specs.Among.{is_among}
use Rattle.shadow_tables.specs.Slots.{Slot, barred, ArePart, held, slot_at, LosesWrites, IsShadow, IsEmpty}
use Rattle.shadow_tables.specs.Laws.Views.{held-stays, slot_at-stays, IsShadow-stays}
use Rattle.shadow_cache.specs.Pairs.{no_frames, any_reads, tables_of, frames_of, AreShadows, BarsWrites, AllBarWrites, IsRoots}
use Rattle.shadow_cache.specs.Others.{AreKept, AllLoseWrites}
use Rattle.shadow_cache.specs.declared.pair.Pair.{Pair}
use Rattle.shadow_tables.specs.Opened.{KeepsTables}
use Rattle.shadow_cache.specs.Laws.{keeps-same, frames-cons, times-frames, kept-same, kept-shadows, tables-any}
use Rattle.shadow_cache.proofs.Leaving.{none-frames}
use Rattle.shadow_cache.proofs.Barring.{rest-holds}
use Rattle.shadow_cache.proofs.Present.{apart, write-frames, write-memory}
use Rattle.shadow_cache.proofs.Beside.{reads-set, reads-there, no-length}
use Rattle.shadow_cache.proofs.Small.{length-set}
use Rattle.std.proofs.lemmas.List.{append-nil}
use Rattle.std.proofs.lemmas.Bool.{and_left, false_from_ne_true}
use Rattle.std.proofs.lemmas.Option.{same_Some, none-some}
use Rattle.std.proofs.Math.Bool.{or-false, or-true}

-- ---- a new pair

pub alone-frames : (p : Pair) (ps : List Pair) (m : List ℕ) → ps ≡ [] → frames_of (p ∷ ps) m ≡ held p.shadow m
alone-frames p ps m e =
    ap (λ (qs : List Pair). frames_of (p ∷ qs) m) e ∙ frames-cons p [] m ∙ ap (λ (fs : List ℕ). held p.shadow m ++ fs) (none-frames m)
    ∙ append-nil (held p.shadow m)

pub fresh-roots : (p : Pair) (ps : List Pair) (m : List ℕ) → ps ≡ [] → IsEmpty p.shadow m → p.tables ≡ no_frames → IsRoots (p ∷ ps) m
fresh-roots p ps m e f t =
    subst (λ (qs : List Pair). IsRoots (p ∷ qs) m) (sym e) (record {
      few = omega arith;
      holds = subst (Holds m) (sym (alone-frames p [] m refl)) f.shadow.holds;
      shadows = (f.shadow, tt);
      sized = (ap (λ (bs : List Bool). length bs) t ∙ no-length, tt);
      barred = (λ page slot l q y. absurd (none-some slot (sym (f.none page l) ∙ q)), tt);
      unmarked = tt;
    })

-- ---- a right to write that goes

abbrev one : ℕ → List ℕ
one frame = frame ∷ []

out : (a b : Bool) → b ≡ true → (a && not (b || false)) ≡ false
out true true e = refl
out false b e = refl
out true false e = cc

abbrev Bars : (ℕ → Bool) → Option Slot → Type 0
Bars test o = (slot : Slot) → o ≡ Some slot → test slot.entry.frame ≡ true → slot.writes ≡ false

bars-one : (t u : ℕ → Bool) (frame : ℕ) (o : Option Slot) → ((x : ℕ) → u x ≡ true → (x ≡ frame) ⊎ (t x ≡ true)) → Bars t o
    → Bars u (barred (one frame) o)
bars-one t u frame None i b = λ slot e y. absurd (none-some slot e)
bars-one t u frame (Some s) i b = λ slot e y.
    let q = same_Some (record s { writes = s.writes && not (eqb s.entry.frame frame || false) }) slot e in
    let z : u s.entry.frame ≡ true = ap (λ (x : Slot). u x.entry.frame) q ∙ y in
    sym (ap (λ (x : Slot). x.writes) q) ∙ elim (i s.entry.frame z) [
      | inl same ↦ elim (eqb_tells s.entry.frame frame) [ inl k ↦ out s.writes (eqb s.entry.frame frame) k.0 | inr k ↦ absurd (k.1 same) ]
      | inr old ↦ and_left s.writes (not (eqb s.entry.frame frame || false)) (b s refl old)
    ]

bars-read_from : (t u : ℕ → Bool) (frame : ℕ) (f f' : ℕ → Option Slot) → ((x : ℕ) → u x ≡ true → (x ≡ frame) ⊎ (t x ≡ true))
    → LosesWrites f f' (one frame) → BarsWrites t f → BarsWrites u f'
bars-read_from t u frame f f' i l b =
    λ page slot low e y. bars-one t u frame (f page) i (λ s q z. b page s low q z) slot (sym (l page low) ∙ e) y

pub all-read_from : (t u : ℕ → Bool) (frame : ℕ) (ps : List Pair) (m m' : List ℕ) → ((x : ℕ) → u x ≡ true → (x ≡ frame) ⊎ (t x ≡ true))
    → AllLoseWrites ps m m' frame → AllBarWrites t ps m → AllBarWrites u ps m'
all-read_from t u frame [] m m' i l b = tt
all-read_from t u frame (p ∷ ps) m m' i l b =
    (bars-read_from t u frame (slot_at p.shadow m) (slot_at p.shadow m') i l.0 b.0, all-read_from t u frame ps m m' i l.1 b.1)

all-lose : (ps : List Pair) (m m1 m2 : List ℕ) (frame : ℕ) → AreKept ps m m1 → AllLoseWrites ps m1 m2 frame → AllLoseWrites ps m m2 frame
all-lose [] m m1 m2 frame k l = tt
all-lose (p ∷ ps) m m1 m2 frame k l = (
  (λ page h. l.0 page h ∙ ap (barred (one frame)) (k.2 page h)),
  all-lose ps m m1 m2 frame k.3 l.1,
  l.2 ∙ k.1,
  λ side index h ne. l.3 side index h (k.4 side index h ne),
)

-- the same right goes by all frames that are write-protected then
flags : (a b c : Bool) → (a ≡ true → b ≡ c) → (a && not (b || false)) ≡ (a && not c)
flags false b c h = refl
flags true b c h = ap (λ x. not (x || false)) (h refl) ∙ ap not (or-false c)

-- ---- pair after pair

module _ (p : Pair) (ps : List Pair) (m m1 m2 : List ℕ) (frame : ℕ) (h : IsRoots (p ∷ ps) m)
    (s1 : IsShadow p.shadow m1) (l1 : LosesWrites (slot_at p.shadow m) (slot_at p.shadow m1) (frame ∷ []))
    (e1 : held p.shadow m1 ≡ held p.shadow m) (w1 : Writes (held p.shadow m) m m1) where
  kept1 : AreKept ps m m1
  kept1 = kept-same ps m m1 h.shadows.1 (apart p ps m m1 h s1 e1 w1)

  frames1 : frames_of (p ∷ ps) m1 ≡ frames_of (p ∷ ps) m
  frames1 = write-frames p ps m m1 h s1 e1 w1

  holds1 : Holds m1 (frames_of (p ∷ ps) m1)
  holds1 = subst (Holds m1) (sym frames1) (Holds-writes (frames_of (p ∷ ps) m) m m1 h.holds w1.size)

  pub bar-rest : AreShadows ps m1
  bar-rest = kept-shadows ps m m1 kept1

  pub bar-holds : Holds m1 (frames_of ps m1)
  bar-holds = rest-holds p ps m1 holds1

  module _ (shadows2 : AreShadows ps m2) (frames2 : frames_of ps m2 ≡ frames_of ps m1) (l2 : AllLoseWrites ps m1 m2 frame)
      (w2 : Writes (frames_of ps m1) m1 m2) where
    apart2 : SameIn (held p.shadow m1) m1 m2
    apart2 = record {
      size = w2.size;
      frames = λ f k. w2.others f (let t = times-frames f p ps m1 in let o = holds1.once f in omega (arith, t, o, k));
    }

    pub bar-both : AreShadows (p ∷ ps) m2
    bar-both = (IsShadow-stays p.shadow m1 m2 s1 apart2, shadows2)

    pub bar-loses : KeepsTables p.shadow m m1 → AllLoseWrites (p ∷ ps) m m2 frame
    bar-loses k = (
      (λ page l. slot_at-stays p.shadow m1 m2 s1 apart2 page l ∙ l1 page l),
      all-lose ps m m1 m2 frame kept1 l2,
      held-stays p.shadow m1 m2 s1 apart2 ∙ e1,
      λ side index h ne. keeps-same p.shadow m1 m2 apart2 side index h (k side index h ne),
    )

    pub bar-frames : frames_of (p ∷ ps) m2 ≡ frames_of (p ∷ ps) m
    bar-frames =
        frames-cons p ps m2
        ∙ ap (λ (fs : List ℕ). fs ++ frames_of ps m2) (held-stays p.shadow m1 m2 s1 apart2)
        ∙ ap (λ (fs : List ℕ). held p.shadow m1 ++ fs) frames2
        ∙ sym (frames-cons p ps m1) ∙ frames1

    more : Writes (frames_of (p ∷ ps) m1) m1 m2
    more = record { size = w2.size; others = λ g z. w2.others g (let t = times-frames g p ps m1 in omega (arith, t, z)) }

    pub bar-memory : Writes (frames_of (p ∷ ps) m) m m2
    bar-memory =
        Writes-trans (frames_of (p ∷ ps) m) m m1 m2 (write-memory p ps m m1 h s1 e1 w1)
        (subst (λ (fs : List ℕ). Writes fs m1 m2) frames1 more)

-- ---- a frame that is write-protected already

no-write : (a b : Bool) → a ≡ false → a ≡ (a && b)
no-write true b e = cc
no-write false b e = refl

a-write : (a b : Bool) → b ≡ false → a ≡ (a && not (b || false))
a-write true true e = cc
a-write false b e = refl
a-write true false e = refl

barred-before : (t : ℕ → Bool) (frame : ℕ) (o : Option Slot) → t frame ≡ true → Bars t o → o ≡ barred (one frame) o
barred-before t frame None e b = refl
barred-before t frame (Some s) e b =
    ap (λ w. Some (record s { writes = w }))
    (elim (eqb_tells s.entry.frame frame) [
      | inl k ↦ no-write s.writes (not (eqb s.entry.frame frame || false)) (b s refl (ap t k.1 ∙ e))
      | inr k ↦ a-write s.writes (eqb s.entry.frame frame) k.0
    ])

pub all-barred : (t : ℕ → Bool) (frame : ℕ) (ps : List Pair) (m : List ℕ) → t frame ≡ true → AllBarWrites t ps m
    → AllLoseWrites ps m m frame
all-barred t frame [] m e b = tt
all-barred t frame (p ∷ ps) m e b = (
  (λ page l. barred-before t frame (slot_at p.shadow m page) e (λ s q y. b.0 page s l q y)),
  all-barred t frame ps m e b.1,
  refl,
  λ side index h ne. ne,
)

pub write_protected-loses : (ps : List Pair) (m : List ℕ) (frame : ℕ) → IsRoots ps m → any_reads ps frame ≡ true
    → AllLoseWrites ps m m frame
write_protected-loses ps m frame h e = all-barred (any_reads ps) frame ps m e h.barred

-- ---- a frame that is noted

abbrev pub with_noted : Pair → ℕ → Pair
with_noted p frame = record p { tables = slice_set p.tables frame true }

module _ (p : Pair) (ps : List Pair) (m m2 : List ℕ) (frame : ℕ) (h : IsRoots (p ∷ ps) m) (low : frame < 16384)
    (shadows : AreShadows (p ∷ ps) m2) (loses : AllLoseWrites (p ∷ ps) m m2 frame) (frames : frames_of (p ∷ ps) m2 ≡ frames_of (p ∷ ps) m)
    (memory : Writes (frames_of (p ∷ ps) m) m m2) where
  size : length (slice_set p.tables frame true) ≡ 16384
  size = length-set p.tables frame true ∙ h.sized.0

  any-read_from : (x : ℕ) → any_reads (with_noted p frame ∷ ps) x ≡ true → (x ≡ frame) ⊎ (any_reads (p ∷ ps) x ≡ true)
  any-read_from x e = elim (reads-set p.tables frame x true) [ inl s ↦ inr (sym (ap (λ b. b || any_reads ps x) s) ∙ e) | inr t ↦ inl t.0 ]

  pub note-frames : frames_of (with_noted p frame ∷ ps) m2 ≡ frames_of (p ∷ ps) m
  note-frames = frames-cons (with_noted p frame) ps m2 ∙ sym (frames-cons p ps m2) ∙ frames

  pub note-moves : (pool : Pool) → Owns pool m (frames_of (p ∷ ps) m)
      → Moves pool pool m m2 (frames_of (p ∷ ps) m) (frames_of (with_noted p frame ∷ ps) m2)
  note-moves pool o = Moves-kept pool m m2 (frames_of (p ∷ ps) m) (frames_of (with_noted p frame ∷ ps) m2) o note-frames memory

  pub note-roots : IsRoots (with_noted p frame ∷ ps) m2
  note-roots =
      record {
        few = h.few;
        holds = subst (Holds m2) (sym note-frames) (Holds-writes (frames_of (p ∷ ps) m) m m2 h.holds memory.size);
        shadows = shadows;
        sized = (size, h.sized.1);
        barred = (
          bars-read_from (any_reads (p ∷ ps)) (any_reads (with_noted p frame ∷ ps)) frame (slot_at p.shadow m) (slot_at p.shadow m2)
              any-read_from loses.0 h.barred.0,
          all-read_from (any_reads (p ∷ ps)) (any_reads (with_noted p frame ∷ ps)) frame ps m m2 any-read_from loses.1 h.barred.1,
        );
        unmarked = h.unmarked;
      }

  any-is : (x : ℕ) → any_reads (p ∷ ps) x ≡ false → eqb x frame ≡ any_reads (with_noted p frame ∷ ps) x
  any-is x e =
      elim (eqb_tells x frame) [
        | inl t ↦
            let z = h.sized.0 in
            t.0 ∙ sym (ap (λ y. get_or (slice_set p.tables frame true) y false || any_reads ps y) t.1 ∙ ap (λ b. b || any_reads ps frame)
            (reads-there p.tables frame true (omega (arith, z, low))))
        | inr t ↦ t.0 ∙ sym (false_from_ne_true (any_reads (with_noted p frame ∷ ps) x)
            (λ y. elim (any-read_from x y) [ inl s ↦ t.1 s | inr s ↦ (let q : false ≡ true = sym e ∙ s in cc) ]))
      ]

  same-rights : (o : Option Slot) → Bars (any_reads (p ∷ ps)) o → barred (frame ∷ []) o ≡ barred (tables_of (with_noted p frame ∷ ps)) o
  same-rights None b = refl
  same-rights (Some s) b =
      ap (λ w. Some (record s { writes = w }))
      (flags s.writes (eqb s.entry.frame frame) (is_among s.entry.frame (tables_of (with_noted p frame ∷ ps))) (λ y.
      any-is s.entry.frame (false_from_ne_true (any_reads (p ∷ ps) s.entry.frame) (λ z. (let q : true ≡ false = sym y ∙ b s refl z in cc)))
      ∙ sym (tables-any (with_noted p frame ∷ ps) s.entry.frame)))

  pub note-slots : LosesWrites (slot_at p.shadow m) (slot_at p.shadow m2) (tables_of (with_noted p frame ∷ ps))
  note-slots page l = loses.0 page l ∙ same-rights (slot_at p.shadow m page) (λ s e y. h.barred.0 page s l e y)

  pub note-write_protected : ArePart (tables_of (with_noted p frame ∷ ps)) (frame ∷ tables_of (p ∷ ps))
  note-write_protected f e =
      elim (any-read_from f (sym (tables-any (with_noted p frame ∷ ps) f) ∙ e)) [
        | inl s ↦ elim (eqb_tells f frame) [ inl t ↦ ap (λ b. b || is_among f (tables_of (p ∷ ps))) t.0 | inr t ↦ absurd (t.1 s) ]
        | inr s ↦ ap (λ b. eqb f frame || b) (tables-any (p ∷ ps) f ∙ s) ∙ or-true (eqb f frame)
      ]
