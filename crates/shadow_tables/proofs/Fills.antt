-- What is kept after each write.
use Rattle.std.proofs.Common.{◌+◌, ◌≡◌, ◌≢◌, ℕ, zero, suc, ◌/◌, ◌%◌, ◌^◌, ◌<◌, ◌≤◌, ◌⊎◌, List, [], ◌∷◌, ◌++◌, length, Bool, true, false, Some, None, refl, sym, ap, ◌∙◌, subst, inl, inr, arith}
use Rattle.std.proofs.lemmas.Bool.Decides.{eqb_tells}
use Rattle.frame_pool.specs.Pool.{free_list, Stands, Takes}
use Rattle.frame_pool.specs.declared.Pool.{Pool}
use Rattle.paging.specs.declared.entry.Entry.{Entry}
use Rattle.frame_pool.specs.Held.{times, Holds, Owns, Writes, Moves}
use Rattle.shadow_views.specs.Tables.{dir, at, tables, owned, IsIn, IsOwned, Puts, Opens, Empties}
use Rattle.shadow_tables.specs.Slots.{Slot, filled, word_of, slot_of, by_words, lets, roots, held, root_of, slot_at, IsMarked, IsShadow, Becomes, IsEmpty, is_adequate}
use Rattle.shadow_tables.specs.declared.shadow.Shadow.{Shadow}
use Rattle.shadow_tables.specs.declared.words.Side.{Side}
use Rattle.shadow_tables.specs.declared.words.Side.TheVariants.{Kernel, User}
use Rattle.frame_pool.proofs.Calls.{Takes-others}
use Rattle.frame_pool.proofs.Lengths.{hit-self, times-cons}
use Rattle.frame_pool.proofs.Held.{Owns-none, Moves-take, Owns-moves, Holds-from_Owns, Holds-writes, Moves-trans, Moves-writes, Moves-counts, free_list-writes}
use Rattle.shadow_views.proofs.Counts.{owned-root, owned-cons, tables-none}
use Rattle.shadow_views.proofs.Changes.{at-none, high, zero-dir}
use Rattle.shadow_tables.specs.Laws.Views.{in-kernel, in-user, slot-same, Holds-along, word_in, at-side, one-none, none-one}
use Rattle.shadow_tables.proofs.Packed.{slot_of-word_of, word_of-some, word_of-marked}

-- ---- the words of a page

pub by-none : (page k u : ℕ) → k ≡ 0 → u ≡ 0 → by_words page k u ≡ None
by-none page zero zero a b = refl
by-none page zero (suc u) a b = absurd (omega (arith, b))
by-none page (suc k) u a b = absurd (omega (arith, a))

pub by-user : (page k u : ℕ) → k ≡ 0 → u ≢ 0 → by_words page k u ≡ Some (slot_of User page u)
by-user page zero zero a b = absurd (b refl)
by-user page zero (suc u) a b = refl
by-user page (suc k) u a b = absurd (omega (arith, a))

pub by-kernel : (page k u : ℕ) → k ≢ 0 → by_words page k u ≡ Some (slot_of Kernel page k)
by-kernel page zero u a = absurd (a refl)
by-kernel page (suc k) u a = refl

none-by : (page k u : ℕ) → by_words page k u ≡ None → (k ≡ 0) × (u ≡ 0)
none-by page zero zero e = (refl, refl)
none-by page zero (suc u) e = cc
none-by page (suc k) u e = cc

lets-none : (write : Bool) → lets 0 write ≡ false
lets-none true = refl
lets-none false = refl

adequate-by : (page k u : ℕ) (side : Side) (write : Bool) → (k ≡ 0) ⊎ (u ≡ 0)
    → lets (word_in side k u) write ≡ is_adequate (by_words page k u) side write
adequate-by page zero zero Kernel write h = lets-none write
adequate-by page zero zero User write h = lets-none write
adequate-by page zero (suc u) Kernel write h = lets-none write
adequate-by page zero (suc u) User write h = refl
adequate-by page (suc k) zero Kernel write h = refl
adequate-by page (suc k) zero User write h = lets-none write
adequate-by page (suc k) (suc u) side write h = absurd (elim h [ inl e ↦ (omega (arith, e)) | inr e ↦ (omega (arith, e)) ])

-- ---- the views

pub slot-none : (s : Shadow) (m : List ℕ) (q : ℕ) → at m s.kernel q ≡ 0 → at m s.user q ≡ 0 → slot_at s m q ≡ None
unfolding slot_at
slot-none s m q a b = by-none q (at m s.kernel q) (at m s.user q) a b

none-slot : (s : Shadow) (m : List ℕ) (q : ℕ) → slot_at s m q ≡ None → (at m s.kernel q ≡ 0) × (at m s.user q ≡ 0)
unfolding slot_at
none-slot s m q e = none-by q (at m s.kernel q) (at m s.user q) e

pub adequate-is : (s : Shadow) (m : List ℕ) (side : Side) (q : ℕ) (write : Bool) → IsShadow s m → q < 2 ^ 20
    → lets (at m (root_of s side) q) write ≡ is_adequate (slot_at s m q) side write
unfolding slot_at
adequate-is s m side q write h l =
    ap (λ x. lets x write) (at-side s m side q) ∙ adequate-by q (at m s.kernel q) (at m s.user q) side write
    (one-none (at m s.kernel q) (at m s.user q) (h.apart q l))

pub roots-apart : (s : Shadow) (m : List ℕ) → Holds m (held s m) → s.user ≢ s.kernel
roots-apart s m h = λ e. absurd (
    let c = owned-cons m s.kernel s.kernel (s.user ∷ []) in
    let one = hit-self s.kernel in
    let two = owned-root m s.kernel (s.user ∷ []) (inl (sym e)) in
    let once = h.once s.kernel in
    omega (arith, c, one, two, once))

pub both : (s : Shadow) (P : ℕ → Type 0) → P s.kernel → P s.user → (r : ℕ) → IsIn r (roots s) → P r
both s P x y r i = elim i [ inl e ↦ subst P (sym e) x | inr j ↦ elim j [ inl e ↦ subst P (sym e) y | inr k ↦ absurd k ] ]

-- ---- a page that is dropped

module _ (s : Shadow) (m m1 m2 : List ℕ) (page : ℕ) (h : IsShadow s m) (l : page < 2 ^ 20) (a : Puts m m1 (roots s) s.kernel page 0)
    (b : Puts m1 m2 (roots s) s.user page 0) where
  drop-kernel : at m2 s.kernel page ≡ 0
  drop-kernel = b.others s.kernel page (in-kernel s) l (λ e q. roots-apart s m h.holds (sym e)) ∙ a.there

  drop-other : (t q : ℕ) → IsIn t (roots s) → q < 2 ^ 20 → (q ≡ page → ⊥) → at m2 t q ≡ at m t q
  drop-other t q i k n = b.others t q i k (λ e w. n w) ∙ a.others t q i k (λ e w. n w)

  drop-apart : (q : ℕ) → q < 2 ^ 20 → at m2 s.kernel q ≢ 0 → at m2 s.user q ≡ 0
  drop-apart q k ne =
      elim (eqb_tells q page) [
        | inl t ↦ absurd (ne (ap (at m2 s.kernel) t.1 ∙ drop-kernel))
        | inr t ↦ drop-other s.user q (in-user s) k t.1 ∙ h.apart q k (λ z. ne (drop-other s.kernel q (in-kernel s) k t.1 ∙ z))
      ]

  drop-zero : (t : ℕ) → IsIn t (roots s) → at m2 t page ≡ 0
  drop-zero t i = both s (λ x. at m2 x page ≡ 0) drop-kernel b.there t i

  drop-shape : (t d : ℕ) → IsIn t (roots s) → d < 1024 → dir m2 t d ≢ 0 → dir m2 t d % 4096 ≡ 7
  drop-shape t d i k ne =
      let e = b.dirs t d i k ∙ a.dirs t d i k in subst (λ x. x % 4096 ≡ 7) (sym e) (h.shape t d i k (λ z. ne (e ∙ z)))

  drop-marks : (t q : ℕ) → IsIn t (roots s) → q < 2 ^ 20 → at m2 t q ≢ 0 → IsMarked (at m2 t q)
  drop-marks t q i k ne =
      elim (eqb_tells q page) [
        | inl x ↦ absurd (ne (ap (at m2 t) x.1 ∙ drop-zero t i))
        | inr x ↦ let e = drop-other t q i k x.1 in subst IsMarked (sym e) (h.marks t q i k (λ z. ne (e ∙ z)))
      ]

  pub drops : Becomes s m m2 page None
  drops =
      record {
        shadow = record {
          holds = Holds-along m2 (held s m) (held s m2) (b.frames ∙ a.frames)
              (Holds-writes (held s m) m m2 h.holds (b.writes.size ∙ a.writes.size));
          apart = drop-apart;
          shape = drop-shape;
          marks = drop-marks;
        };
        there = slot-none s m2 page drop-kernel b.there;
        others = λ q k n. slot-same s m m2 q (drop-other s.kernel q (in-kernel s) k n) (drop-other s.user q (in-user s) k n);
      }

-- after the first of both writes
pub held-after : (s : Shadow) (m m1 : List ℕ) (r page v : ℕ) → IsShadow s m → Puts m m1 (roots s) r page v → Holds m1 (held s m1)
held-after s m m1 r page v h a = Holds-along m1 (held s m) (held s m1) a.frames (Holds-writes (held s m) m m1 h.holds a.writes.size)

pub drop-half : (s : Shadow) (m m1 : List ℕ) (page : ℕ) → IsShadow s m → Puts m m1 (roots s) s.kernel page 0 → Holds m1 (held s m1)
drop-half s m m1 page h a = Holds-along m1 (held s m) (held s m1) a.frames (Holds-writes (held s m) m m1 h.holds a.writes.size)

-- ---- a page that is filled

-- the page itself, in the two cases

fill-at : (s : Shadow) (m1 m2 m3 : List ℕ) (b : Bool) (side : Side) (entry : Entry) (wp : Bool) → slot_at s m1 entry.page ≡ None
    → ((t q : ℕ) → IsIn t (roots s) → q < 2 ^ 20 → at m2 t q ≡ at m1 t q) → Holds m2 (held s m2)
    → Puts m2 m3 (roots s) (root_of s side) entry.page (word_of (filled b side entry wp)) → entry.page < 2 ^ 20
    → slot_at s m3 entry.page ≡ Some (filled b side entry wp)
unfolding slot_at
fill-at s m1 m2 m3 b Kernel entry wp n w h a l =
    let x : Slot = filled b Kernel entry wp in
    by-kernel entry.page (at m3 s.kernel entry.page) (at m3 s.user entry.page) (λ z. word_of-some x (sym a.there ∙ z))
    ∙ ap (λ y. Some (slot_of Kernel entry.page y)) a.there
    ∙ ap (λ y. Some y) (slot_of-word_of x)
fill-at s m1 m2 m3 b User entry wp n w h a l =
    let x : Slot = filled b User entry wp in
    let k : at m3 s.kernel entry.page ≡ 0 =
    a.others s.kernel entry.page (in-kernel s) l (λ e q. roots-apart s m2 h (sym e))
    ∙ w s.kernel entry.page (in-kernel s) l
    ∙ (none-slot s m1 entry.page n).0
    in
    by-user entry.page (at m3 s.kernel entry.page) (at m3 s.user entry.page) k (λ z. word_of-some x (sym a.there ∙ z))
    ∙ ap (λ y. Some (slot_of User entry.page y)) a.there
    ∙ ap (λ y. Some y) (slot_of-word_of x)

fill-one : (s : Shadow) (m1 m2 m3 : List ℕ) (b : Bool) (side : Side) (entry : Entry) (wp : Bool) → slot_at s m1 entry.page ≡ None
    → ((t q : ℕ) → IsIn t (roots s) → q < 2 ^ 20 → at m2 t q ≡ at m1 t q) → Holds m2 (held s m2)
    → Puts m2 m3 (roots s) (root_of s side) entry.page (word_of (filled b side entry wp)) → entry.page < 2 ^ 20
    → (at m3 s.kernel entry.page ≡ 0) ⊎ (at m3 s.user entry.page ≡ 0)
fill-one s m1 m2 m3 b Kernel entry wp n w h a l =
    inr (a.others s.user entry.page (in-user s) l (λ e q. roots-apart s m2 h e)
    ∙ w s.user entry.page (in-user s) l
    ∙ (none-slot s m1 entry.page n).1)
fill-one s m1 m2 m3 b User entry wp n w h a l =
    inl (a.others s.kernel entry.page (in-kernel s) l (λ e q. roots-apart s m2 h (sym e))
    ∙ w s.kernel entry.page (in-kernel s) l
    ∙ (none-slot s m1 entry.page n).0)

module _ (s : Shadow) (m m1 m2 m3 : List ℕ) (b : Bool) (side : Side) (entry : Entry) (wp : Bool) (d : Becomes s m m1 entry.page None)
    (w : (t q : ℕ) → IsIn t (roots s) → q < 2 ^ 20 → at m2 t q ≡ at m1 t q)
    (sh : (t e : ℕ) → IsIn t (roots s) → e < 1024 → (dir m2 t e ≡ dir m1 t e) ⊎ (dir m2 t e % 4096 ≡ 7)) (h : Holds m2 (held s m2))
    (a : Puts m2 m3 (roots s) (root_of s side) entry.page (word_of (filled b side entry wp))) (l : entry.page < 2 ^ 20)
    (small : entry.frame < 2 ^ 20) where
  fill-other : (t q : ℕ) → IsIn t (roots s) → q < 2 ^ 20 → (q ≡ entry.page → ⊥) → at m3 t q ≡ at m1 t q
  fill-other t q i k n = a.others t q i k (λ e x. n x) ∙ w t q i k

  fill-there : slot_at s m3 entry.page ≡ Some (filled b side entry wp)
  fill-there = fill-at s m1 m2 m3 b side entry wp d.there w h a l

  fill-apart : (q : ℕ) → q < 2 ^ 20 → at m3 s.kernel q ≢ 0 → at m3 s.user q ≡ 0
  fill-apart q k ne =
      elim (eqb_tells q entry.page) [
        | inl t ↦
            none-one (at m3 s.kernel q) (at m3 s.user q)
            (subst (λ x. (at m3 s.kernel x ≡ 0) ⊎ (at m3 s.user x ≡ 0)) (sym t.1) (fill-one s m1 m2 m3 b side entry wp d.there w h a l)) ne
        | inr t ↦ fill-other s.user q (in-user s) k t.1 ∙ d.shadow.apart q k (λ z. ne (fill-other s.kernel q (in-kernel s) k t.1 ∙ z))
      ]

  fill-shape : (t e : ℕ) → IsIn t (roots s) → e < 1024 → dir m3 t e ≢ 0 → dir m3 t e % 4096 ≡ 7
  fill-shape t e i k ne =
      let x = a.dirs t e i k in
      subst (λ y. y % 4096 ≡ 7) (sym x) (elim (sh t e i k) [
        | inr y ↦ y
        | inl y ↦ subst (λ v. v % 4096 ≡ 7) (sym y) (d.shadow.shape t e i k (λ z. ne (x ∙ y ∙ z)))
      ])

  fill-zero : (t : ℕ) → IsIn t (roots s) → at m1 t entry.page ≡ 0
  fill-zero t i = let n = none-slot s m1 entry.page d.there in both s (λ x. at m1 x entry.page ≡ 0) n.0 n.1 t i

  fill-marks : (t q : ℕ) → IsIn t (roots s) → q < 2 ^ 20 → at m3 t q ≢ 0 → IsMarked (at m3 t q)
  fill-marks t q i k ne =
      elim (eqb_tells q entry.page) [
        | inr x ↦ let e = fill-other t q i k x.1 in subst IsMarked (sym e) (d.shadow.marks t q i k (λ z. ne (e ∙ z)))
        | inl x ↦ elim (eqb_tells t (root_of s side)) [
          | inl y ↦
              let e : at m3 t q ≡ word_of (filled b side entry wp) = ap (λ v. at m3 v q) y.1 ∙ ap (at m3 (root_of s side)) x.1 ∙ a.there in
              subst IsMarked (sym e) (word_of-marked b side entry wp small)
          | inr y ↦ absurd (ne (ap (at m3 t) x.1 ∙ a.others t entry.page i l (λ v z. y.1 v) ∙ w t entry.page i l ∙ fill-zero t i))
        ]
      ]

  pub fills : Becomes s m m3 entry.page (Some (filled b side entry wp))
  fills =
      record {
        shadow = record {
          holds = Holds-along m3 (held s m2) (held s m3) a.frames (Holds-writes (held s m2) m2 m3 h a.writes.size);
          apart = fill-apart;
          shape = fill-shape;
          marks = fill-marks;
        };
        there = fill-there;
        others =
            λ q k n. slot-same s m1 m3 q (fill-other s.kernel q (in-kernel s) k n) (fill-other s.user q (in-user s) k n) ∙ d.others q k n;
      }

-- ---- the frames

module _ (s : Shadow) (p : Pool) (m m1 : List ℕ) (o : Owns p m (held s m)) (e : held s m1 ≡ held s m) (w : Writes (held s m) m m1) where
  dropped-moves : Moves p p m m1 (held s m) (held s m1)
  dropped-moves = Moves-counts p p m m1 (held s m) (held s m) (held s m1) (λ f. ap (times f) e) (Moves-writes p m m1 (held s m) o w)

  pub dropped-owns : Owns p m1 (held s m1)
  dropped-owns = Owns-moves p p m m1 (held s m) (held s m1) o dropped-moves

  pub dropped-free : 1 ≤ length (free_list p m) → 1 ≤ length (free_list p m1)
  dropped-free h = subst (λ (gs : List ℕ). 1 ≤ length gs) (sym (free_list-writes p m m1 (held s m) o w)) h

  pub has_tables_under-owns : (p' : Pool) (m2 : List ℕ) (r d : ℕ) → Opens p p' m1 m2 (roots s) r d → Owns p' m2 (held s m2)
  has_tables_under-owns p' m2 r d v = Owns-moves p p' m1 m2 (held s m1) (held s m2) dropped-owns v.moves

  pub fill-takes : (p' : Pool) (m2 m3 : List ℕ) (r d page v : ℕ) → Opens p p' m1 m2 (roots s) r d → Puts m2 m3 (roots s) r page v
      → length (free_list p m) ≤ length (free_list p' m3) + 1
  fill-takes p' m2 m3 r d page v x a =
      let b = ap length (free_list-writes p m m1 (held s m) o w) in
      let c = ap length (free_list-writes p' m2 m3 (held s m2) (has_tables_under-owns p' m2 r d x) a.writes) in
      let one = x.one in omega (arith, b, c, one)

  pub fill-moves : (p' : Pool) (m2 m3 : List ℕ) (r d page v : ℕ) → Opens p p' m1 m2 (roots s) r d → Puts m2 m3 (roots s) r page v
      → Moves p p' m m3 (held s m) (held s m3)
  fill-moves p' m2 m3 r d page v x a =
      Moves-trans p p p' m m1 m3 (held s m) (held s m1) (held s m3) dropped-moves
      (Moves-trans p p' p' m1 m2 m3 (held s m1) (held s m2) (held s m3) x.moves
      (Moves-counts p' p' m2 m3 (held s m2) (held s m2) (held s m3) (λ f. ap (times f) a.frames)
      (Moves-writes p' m2 m3 (held s m2) (has_tables_under-owns p' m2 r d x) a.writes)))

-- ---- views that keep nothing

pub empty-held : (s : Shadow) (m : List ℕ) → ((d : ℕ) → d < 1024 → dir m s.kernel d ≡ 0) → ((d : ℕ) → d < 1024 → dir m s.user d ≡ 0)
    → held s m ≡ roots s
unfolding owned
empty-held s m a b =
    ap (λ (fs : List ℕ). s.kernel ∷ (fs ++ (s.user ∷ (tables m s.user 1024 ++ [])))) (tables-none m s.kernel 1024 a)
    ∙ ap (λ (fs : List ℕ). s.kernel ∷ s.user ∷ (fs ++ [])) (tables-none m s.user 1024 b)

pub empty : (s : Shadow) (m : List ℕ) → Holds m (roots s) → ((d : ℕ) → d < 1024 → dir m s.kernel d ≡ 0)
    → ((d : ℕ) → d < 1024 → dir m s.user d ≡ 0) → IsEmpty s m
empty s m h a b =
    let e = empty-held s m a b in
    record {
      shadow = record {
        holds = subst (Holds m) (sym e) h;
        apart = λ page l ne. at-none m s.user page (b (page / 1024) (high page l));
        shape = λ r d i l ne. absurd (ne (both s (λ x. dir m x d ≡ 0) (a d l) (b d l) r i));
        marks =
            λ r page i l ne. absurd (ne
            (both s (λ x. at m x page ≡ 0) (at-none m s.kernel page (a (page / 1024) (high page l)))
            (at-none m s.user page (b (page / 1024) (high page l))) r i));
      };
      none = λ page l. slot-none s m page (at-none m s.kernel page (a (page / 1024) (high page l)))
          (at-none m s.user page (b (page / 1024) (high page l)));
      frames = e;
    }

module _ (s : Shadow) (p p1 p2 : Pool) (m m1 m2 : List ℕ) (o : Owns p m (held s m)) (a : Empties p p1 m m1 (roots s) s.kernel 1024)
    (b : Empties p1 p2 m1 m2 (roots s) s.user 1024) where
  pub emptied-moves : Moves p p2 m m2 (held s m) (held s m2)
  emptied-moves = Moves-trans p p1 p2 m m1 m2 (held s m) (held s m1) (held s m2) a.moves b.moves

  emptied-holds : Holds m2 (held s m2)
  emptied-holds = Holds-from_Owns p2 m2 (held s m2) (Owns-moves p p2 m m2 (held s m) (held s m2) o emptied-moves)

  pub emptied : IsEmpty s m2
  emptied =
      let k : (d : ℕ) → d < 1024 → dir m2 s.kernel d ≡ 0 =
      λ d l. b.dirs s.kernel d (in-kernel s) l (λ e. roots-apart s m2 emptied-holds (sym e)) ∙ a.gone d l in
      empty s m2 (subst (Holds m2) (empty-held s m2 k b.gone) emptied-holds) k b.gone

pub half-owned : (s : Shadow) (p p1 : Pool) (m m1 : List ℕ) → Owns p m (held s m) → Empties p p1 m m1 (roots s) s.kernel 1024
    → IsOwned p1 m1 s.user
half-owned s p p1 m m1 o a = record { all = roots s; owns = Owns-moves p p1 m m1 (held s m) (held s m1) o a.moves; root = in-user s }

-- ---- the first two frames

module _ (s : Shadow) (p p1 p2 : Pool) (m m1 m2 : List ℕ) (o : Stands p m) (a : Takes p p1 m m1 s.kernel)
    (b : Takes p1 p2 m1 m2 s.user) where
  first : Moves p p1 m m1 [] (s.kernel ∷ [])
  first = Moves-take p p1 m m1 [] s.kernel a

  first-owns : Owns p1 m1 (s.kernel ∷ [])
  first-owns = Owns-moves p p1 m m1 [] (s.kernel ∷ []) (Owns-none p m o) first

  second : Moves p p2 m m2 [] (s.user ∷ s.kernel ∷ [])
  second = Moves-trans p p1 p2 m m1 m2 [] (s.kernel ∷ []) (s.user ∷ s.kernel ∷ []) first (Moves-take p1 p2 m1 m2 (s.kernel ∷ []) s.user b)

  second-roots : Moves p p2 m m2 [] (roots s)
  second-roots = Moves-counts p p2 m m2 [] (s.user ∷ s.kernel ∷ []) (roots s) (λ f.
      let a0 = times-cons f s.user (s.kernel ∷ []) in let b0 = times-cons f s.kernel [] in
      let a1 = times-cons f s.kernel (s.user ∷ []) in let b1 = times-cons f s.user [] in
      omega (arith, a0, b0, a1, b1)) second

  second-apart : s.kernel ≢ s.user
  second-apart = (Takes-others p1 p2 m1 m2 s.user s.kernel b (first-owns.out s.kernel (
      let c = times-cons s.kernel s.kernel [] in let h = hit-self s.kernel in omega (arith, c, h)))).1

  pub made : IsEmpty s m2
  made =
      empty s m2 (Holds-from_Owns p2 m2 (roots s) (Owns-moves p p2 m m2 [] (roots s) (Owns-none p m o) second-roots))
      (λ d l. zero-dir m2 s.kernel d (b.but.others s.kernel second-apart ∙ a.zeroed) l)
      (λ d l. zero-dir m2 s.user d (b.zeroed) l)

  pub made-moves : Moves p p2 m m2 [] (held s m2)
  made-moves = subst (Moves p p2 m m2 []) (sym made.frames) second-roots

  pub made-owns : Owns p2 m2 (held s m2)
  made-owns = Owns-moves p p2 m m2 [] (held s m2) (Owns-none p m o) made-moves
