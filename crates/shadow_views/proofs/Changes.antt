-- What the writes of this crate change.
use Rattle.std.proofs.Common.{◌≡◌, ◌≢◌, ℕ, ◌+◌, ◌*◌, ◌/◌, ◌%◌, ◌^◌, ◌<◌, ◌≤◌, ◌⊎◌, List, ◌∷◌, length, replicate, refl, sym, ap, ◌∙◌, subst, inl, inr, lit<, arith}
use Rattle.std.proofs.lemmas.Bool.Decides.{eqb_tells}
use Rattle.std.proofs.lemmas.List.{get_or-replicate}
use Rattle.guest_ram.specs.Bytes.{word32, with_word32, frame, byte}
use Rattle.guest_ram.proofs.Bytes.{word32-frame, word32-with_word32, word32-with_entry, word32-part, word32-is}
use Rattle.frame_pool.specs.Pool.{free_list, Stands, IsOut, SameFrames, SameBut}
use Rattle.frame_pool.specs.declared.Pool.{Pool}
use Rattle.frame_pool.proofs.Calls.{SameBut-with_word32, IsOut-same}
use Rattle.frame_pool.specs.Held.{hit, times, Holds, Owns, Writes, Moves}
use Rattle.shadow_views.specs.Tables.{dir, at, owned, IsIn, IsView, with_at, IsOwned, Puts, Opens, Grows, Closes, Empties}
use Rattle.frame_pool.proofs.Lengths.{hit-self, times-cons}
use Rattle.frame_pool.proofs.Held.{Moves-from, Owns-not_free, Owns-moves, Holds-from_Owns, Moves-take, Moves-trans, Moves-writes, Moves-counts, Moves-refl, Writes-but, Writes-refl, free_list-writes}
use Rattle.shadow_views.proofs.Counts.{by_dir-none, by_dir-some, owned-root, owned-table, owned-both, owned-sole, owned-same, owned-grow, roots-le}

pub high : (page : ℕ) → page < 2 ^ 20 → page / 1024 < 1024
high page h = omega (arith, h)

pub low : (page : ℕ) → page % 1024 < 1024
low page = omega arith

-- ---- reading

pub dir-frame : (m m' : List ℕ) (r d : ℕ) → frame m' r ≡ frame m r → d < 1024 → dir m' r d ≡ dir m r d
unfolding dir
dir-frame m m' r d e l = word32-frame m' m r (4 * d) e (omega (arith, l))

pub at-none : (m : List ℕ) (r page : ℕ) → dir m r (page / 1024) ≡ 0 → at m r page ≡ 0
unfolding at
at-none m r page e = by_dir-none m (dir m r (page / 1024)) (page % 1024) e

pub at-some : (m : List ℕ) (r page : ℕ) → dir m r (page / 1024) ≢ 0
    → at m r page ≡ word32 m (4096 * (dir m r (page / 1024) / 4096) + 4 * (page % 1024))
unfolding at
at-some m r page ne = by_dir-some m (dir m r (page / 1024)) (page % 1024) ne

-- the word of a page is the same where the PDE is, and the table's frame
pub at-same : (m m' : List ℕ) (r page : ℕ) → dir m' r (page / 1024) ≡ dir m r (page / 1024)
    → (dir m r (page / 1024) ≢ 0 → frame m' (dir m r (page / 1024) / 4096) ≡ frame m (dir m r (page / 1024) / 4096))
    → at m' r page ≡ at m r page
at-same m m' r page e f =
    elim (eqb_tells (dir m r (page / 1024)) 0) [
      | inl t ↦ at-none m' r page (e ∙ t.1) ∙ sym (at-none m r page t.1)
      | inr n ↦
          at-some m' r page (λ z. n.1 (sym e ∙ z))
          ∙ ap (λ w. word32 m' (4096 * (w / 4096) + 4 * (page % 1024))) e
          ∙ word32-frame m' m (dir m r (page / 1024) / 4096) (4 * (page % 1024)) (f n.1) (let l = low page in omega (arith, l))
          ∙ sym (at-some m r page n.1)
    ]

pub IsView-from_Holds : (m rs : List ℕ) (r : ℕ) → Holds m (owned m rs) → IsIn r rs → IsView m r
IsView-from_Holds m rs r h i =
    record {
      root = h.room r (owned-root m r rs i);
      table = λ d l ne. h.room (dir m r d / 4096) (owned-table m r d (dir m r d / 4096) rs i l ne refl);
    }

-- ---- one word of a page

module _ (m rs : List ℕ) (r page v : ℕ) (h : Holds m (owned m rs)) (i : IsIn r rs) (l : page < 2 ^ 20) (ne : dir m r (page / 1024) ≢ 0)
    (b : v < 2 ^ 32) where
  put-fits : 4096 * (dir m r (page / 1024) / 4096) + 4096 ≤ length m
  put-fits = h.room (dir m r (page / 1024) / 4096) (owned-table m r (page / 1024) (dir m r (page / 1024) / 4096) rs i (high page l) ne refl)

  put-but : SameBut (dir m r (page / 1024) / 4096) m (with_at m r page v)
  unfolding with_at
  put-but =
      let f = put-fits in let k = low page in
      SameBut-with_word32 m (dir m r (page / 1024) / 4096) (4 * (page % 1024)) v (omega (arith, f, k)) (omega (arith, k))

  put-dirs : (s d : ℕ) → IsIn s rs → d < 1024 → dir (with_at m r page v) s d ≡ dir m s d
  put-dirs s d j k =
      dir-frame m (with_at m r page v) s d
      (put-but.others s (λ e. absurd (
      let two = owned-both m s r (page / 1024) rs j i (high page l) ne e in let once = h.once s in omega (arith, two, once))))
      k

  put-there : at (with_at m r page v) r page ≡ v
  unfolding with_at
  put-there =
      let e = put-dirs r (page / 1024) i (high page l) in
      let f = put-fits in let k = low page in
      at-some (with_at m r page v) r page (λ z. ne (sym e ∙ z))
      ∙ ap (λ w. word32 (with_at m r page v) (4096 * (w / 4096) + 4 * (page % 1024))) e
      ∙ word32-with_word32 m (4096 * (dir m r (page / 1024) / 4096) + 4 * (page % 1024)) v (omega (arith, f, k)) b

  put-others : (s q : ℕ) → IsIn s rs → q < 2 ^ 20 → (s ≡ r → q ≡ page → ⊥) → at (with_at m r page v) s q ≡ at m s q
  unfolding with_at
  put-others s q j lq n =
      let e = put-dirs s (q / 1024) j (high q lq) in
      let t : ℕ = dir m r (page / 1024) / 4096 in
      elim (eqb_tells (dir m s (q / 1024)) 0) [
        | inl z ↦ at-same m (with_at m r page v) s q e (λ x. absurd (x z.1))
        | inr z ↦ elim (eqb_tells t (dir m s (q / 1024) / 4096)) [
          | inr x ↦ at-same m (with_at m r page v) s q e (λ y. put-but.others (dir m s (q / 1024) / 4096) (λ w. x.1 (sym w)))
          | inl x ↦
              let k = owned-sole m t r s (page / 1024) (q / 1024) rs i j (high page l) (high q lq) ne refl z.1 x.1 (h.once t) in
              let k0 = k.0 in let k1 = k.1 in
              let other : q % 1024 ≢ page % 1024 = λ w. n k0 (omega (arith, w, k1)) in
              let f = put-fits in let lp = low page in
              at-some (with_at m r page v) s q (λ y. z.1 (sym e ∙ y))
              ∙ ap (λ w. word32 (with_at m r page v) (4096 * (w / 4096) + 4 * (q % 1024))) e
              ∙ ap (λ w. word32 (with_at m r page v) (4096 * w + 4 * (q % 1024))) (sym x.1)
              ∙ word32-with_entry m (4096 * t) (page % 1024) v (q % 1024) (omega (arith, f, lp)) other
              ∙ ap (λ w. word32 m (4096 * w + 4 * (q % 1024))) x.1
              ∙ sym (at-some m s q z.1)
        ]
      ]

  pub puts : Puts m (with_at m r page v) rs r page v
  puts =
      record {
        writes = Writes-but (owned m rs) m (with_at m r page v) (dir m r (page / 1024) / 4096)
            (owned-table m r (page / 1024) (dir m r (page / 1024) / 4096) rs i (high page l) ne refl) put-but;
        frames = owned-same m (with_at m r page v) rs put-dirs;
        dirs = put-dirs;
        there = put-there;
        others = put-others;
      }

-- nothing to clear
pub puts-none : (m rs : List ℕ) (r page : ℕ) → dir m r (page / 1024) ≡ 0 → Puts m m rs r page 0
puts-none m rs r page e =
    record {
      writes = Writes-refl (owned m rs) m;
      frames = refl;
      dirs = λ s d i l. refl;
      there = at-none m r page e;
      others = λ s q i l n. refl;
    }

-- ---- one more table

pub zero-sum : (w a b c d : ℕ) → w ≡ a + b * 256 + c * 65536 + d * 16777216 → a ≡ 0 → b ≡ 0 → c ≡ 0 → d ≡ 0 → w ≡ 0
zero-sum w a b c d e p q r s = omega (arith, e, p, q, r, s)

zero-word : (m : List ℕ) (f o : ℕ) → frame m f ≡ replicate 4096 0 → o + 4 ≤ 4096 → word32 m (4096 * f + o) ≡ 0
unfolding frame byte
zero-word m f o e l =
    let zeros : List ℕ = replicate 4096 0 in
    let a = sym (word32-part m (4096 * f) 4096 o l) ∙ ap (λ (s : List ℕ). word32 s o) e in
    let b0 = get_or-replicate {A = ℕ} 4096 o 0 0 (omega (arith, l)) in
    let b1 = get_or-replicate {A = ℕ} 4096 (o + 1) 0 0 (omega (arith, l)) in
    let b2 = get_or-replicate {A = ℕ} 4096 (o + 2) 0 0 (omega (arith, l)) in
    let b3 = get_or-replicate {A = ℕ} 4096 (o + 3) 0 0 (omega (arith, l)) in
    a ∙ zero-sum (word32 zeros o) _ _ _ _ (word32-is zeros o) b0 b1 b2 b3

pub zero-dir : (m : List ℕ) (r d : ℕ) → frame m r ≡ replicate 4096 0 → d < 1024 → dir m r d ≡ 0
unfolding dir
zero-dir m r d e l = zero-word m r (4 * d) e (omega (arith, l))

module _ (p p' : Pool) (m m' rs : List ℕ) (r d : ℕ) (o : Owns p m (owned m rs)) (i : IsIn r rs) (l : d < 1024) (z : dir m r d ≡ 0)
    (small : length m < 2 ^ 32) (g : Grows p p' m m' r d) where
  grow-free : times g.frame (owned m rs) ≡ 0
  grow-free =
      let e = ap (times g.frame) g.takes.list in
      let c = times-cons g.frame g.frame (free_list p' g.zeroed) in
      let s = hit-self g.frame in
      Owns-not_free p m (owned m rs) o g.frame (omega (arith, e, c, s))

  grow-zeroed : (f : ℕ) → 1 ≤ times f (owned m rs) → frame g.zeroed f ≡ frame m f
  grow-zeroed f h =
      g.takes.but.others f (λ e. absurd (let c = ap (λ x. times x (owned m rs)) e in let n = grow-free in omega (arith, c, n, h)))

  grow-root : r ≢ g.frame
  grow-root = λ e. absurd (
      let c = ap (λ x. times x (owned m rs)) e in let n = grow-free in let h = owned-root m r rs i in omega (arith, c, n, h))

  grow-room : 4096 * r + 4096 ≤ length g.zeroed
  grow-room =
      let a = (Holds-from_Owns p m (owned m rs) o).room r (owned-root m r rs i) in
      let e = g.takes.but.size in omega (arith, a, e)

  grow-but : SameBut r g.zeroed m'
  grow-but =
      let a = grow-room in
      subst (λ (x : List ℕ). SameBut r g.zeroed x) (sym g.memory)
      (SameBut-with_word32 g.zeroed r (4 * d) (4096 * g.frame + 7) (omega (arith, a, l)) (omega (arith, l)))

  grow-dir : dir m' r d ≡ 4096 * g.frame + 7
  unfolding dir
  grow-dir =
      let a = grow-room in let f = g.takes.fits in
      ap (λ (x : List ℕ). word32 x (4096 * r + 4 * d)) g.memory
      ∙ word32-with_word32 g.zeroed (4096 * r + 4 * d) (4096 * g.frame + 7) (omega (arith, a, l)) (omega (arith, f, small))

  grow-some : dir m' r d ≢ 0
  grow-some = λ e. absurd (let a = grow-dir in omega (arith, a, e))

  grow-table : dir m' r d / 4096 ≡ g.frame
  grow-table = let a = grow-dir in omega (arith, a)

  grow-entry : (e : ℕ) → e < 1024 → e ≢ d → dir m' r e ≡ dir g.zeroed r e
  unfolding dir
  grow-entry e k n =
      let a = grow-room in
      ap (λ (x : List ℕ). word32 x (4096 * r + 4 * e)) g.memory
      ∙ word32-with_entry g.zeroed (4096 * r) d (4096 * g.frame + 7) e (omega (arith, a, l)) n

  grow-dirs : (s e : ℕ) → IsIn s rs → e < 1024 → (s ≡ r → e ≡ d → ⊥) → dir m' s e ≡ dir m s e
  grow-dirs s e j k n =
      let before : dir g.zeroed s e ≡ dir m s e = dir-frame m g.zeroed s e (grow-zeroed s (owned-root m s rs j)) k in
      elim (eqb_tells s r) [
        | inl t ↦
            let a : dir m' s e ≡ dir g.zeroed s e = subst (λ x. dir m' x e ≡ dir g.zeroed x e) (sym t.1) (grow-entry e k (n t.1)) in
            a ∙ before
        | inr t ↦ dir-frame g.zeroed m' s e (grow-but.others s t.1) k ∙ before
      ]

  grow-owned : (f : ℕ) → times f (owned m' rs) ≡ times f (g.frame ∷ owned m rs)
  grow-owned f =
      owned-grow m m' r d f rs i l (let a = o.once r in let b = roots-le m r rs in omega (arith, a, b)) grow-dirs z grow-some
      ∙ ap (λ x. hit f x + times f (owned m rs)) grow-table
      ∙ sym (times-cons f g.frame (owned m rs))

  grow-moves : Moves p p' m m' (owned m rs) (owned m' rs)
  grow-moves =
      let fs : List ℕ = g.frame ∷ owned m rs in
      let take = Moves-take p p' m g.zeroed (owned m rs) g.frame g.takes in
      let own = Owns-moves p p' m g.zeroed (owned m rs) fs o take in
      let c = times-cons r g.frame (owned m rs) in let h = owned-root m r rs i in
      let write = Moves-writes p' g.zeroed m' fs own (Writes-but fs g.zeroed m' r (omega (arith, c, h)) grow-but) in
      Moves-counts p p' m m' (owned m rs) fs (owned m' rs) grow-owned (Moves-trans p p' p' m g.zeroed m' (owned m rs) fs fs take write)

  grow-fresh : (q : ℕ) → q / 1024 ≡ d → at m' r q ≡ at m r q
  grow-fresh q e =
      let w : dir m' r (q / 1024) ≡ 4096 * g.frame + 7 = ap (dir m' r) e ∙ grow-dir in
      let t : dir m' r (q / 1024) / 4096 ≡ g.frame = omega (arith, w) in
      let k = low q in
      let zeros : frame m' g.frame ≡ replicate 4096 0 = grow-but.others g.frame (λ x. grow-root (sym x)) ∙ g.takes.zeroed in
      at-some m' r q (λ x. absurd (omega (arith, w, x)))
      ∙ ap (λ x. word32 m' (4096 * x + 4 * (q % 1024))) t
      ∙ zero-word m' g.frame (4 * (q % 1024)) zeros (omega (arith, k))
      ∙ sym (at-none m r q (ap (dir m r) e ∙ z))

  grow-words : (s q : ℕ) → IsIn s rs → q < 2 ^ 20 → at m' s q ≡ at m s q
  grow-words s q j lq =
      let old : (s ≡ r → q / 1024 ≡ d → ⊥) → at m' s q ≡ at m s q =
      λ n. at-same m m' s q (grow-dirs s (q / 1024) j (high q lq) n) (λ ne.
      let u : ℕ = dir m s (q / 1024) / 4096 in
      let h = owned-table m s (q / 1024) u rs j (high q lq) ne refl in
      grow-but.others u (λ x. absurd (
      let two = owned-both m r s (q / 1024) rs i j (high q lq) ne (sym x) in let once = o.once r in omega (arith, two, once)))
      ∙ grow-zeroed u h)
      in
      elim (eqb_tells s r) [
        | inl t ↦ elim (eqb_tells (q / 1024) d) [
          | inl y ↦ subst (λ x. at m' x q ≡ at m x q) (sym t.1) (grow-fresh q y.1)
          | inr y ↦ old (λ a b. y.1 b)
        ]
        | inr t ↦ old (λ a b. t.1 a)
      ]

  grow-shape : (s e : ℕ) → IsIn s rs → e < 1024 → (dir m' s e ≡ dir m s e) ⊎ (dir m' s e % 4096 ≡ 7)
  grow-shape s e j k =
      elim (eqb_tells s r) [
        | inr t ↦ inl (grow-dirs s e j k (λ a b. t.1 a))
        | inl t ↦ elim (eqb_tells e d) [
          | inr u ↦ inl (grow-dirs s e j k (λ a b. u.1 b))
          | inl u ↦
              let w : dir m' s e ≡ 4096 * g.frame + 7 = ap (λ x. dir m' x e) t.1 ∙ ap (dir m' r) u.1 ∙ grow-dir in
              inr (omega (arith, w))
        ]
      ]

  grow-one : length (free_list p m) ≤ length (free_list p' m') + 1
  grow-one =
      let fs : List ℕ = g.frame ∷ owned m rs in
      let own = Owns-moves p p' m g.zeroed (owned m rs) fs o (Moves-take p p' m g.zeroed (owned m rs) g.frame g.takes) in
      let c = times-cons r g.frame (owned m rs) in
      let h = owned-root m r rs i in
      let e = ap length (free_list-writes p' g.zeroed m' fs own (Writes-but fs g.zeroed m' r (omega (arith, c, h)) grow-but)) in
      let t = ap length g.takes.list in omega (arith, e, t)

  pub grows : Opens p p' m m' rs r d
  grows = record { moves = grow-moves; some = grow-some; one = grow-one; dirs = grow-shape; words = grow-words }

-- the table is there already
pub opens-some : (p : Pool) (m rs : List ℕ) (r d : ℕ) → Owns p m (owned m rs) → dir m r d ≢ 0 → Opens p p m m rs r d
opens-some p m rs r d o ne =
    record {
      moves = Moves-writes p m m (owned m rs) o (Writes-refl (owned m rs) m);
      some = ne;
      one = omega arith;
      dirs = λ s e i l. inl refl;
      words = λ s q i l. refl;
    }

-- ---- a table that goes back

module _ (p : Pool) (m m1 rs : List ℕ) (r d : ℕ) (o : Owns p m (owned m rs)) (i : IsIn r rs) (l : d < 1024) (ne : dir m r d ≢ 0)
    (w : m1 ≡ with_word32 m (4096 * r + 4 * d) 0) where
  close-room : 4096 * r + 4096 ≤ length m
  close-room = (Holds-from_Owns p m (owned m rs) o).room r (owned-root m r rs i)

  close-but : SameBut r m m1
  close-but =
      let a = close-room in
      subst (λ (x : List ℕ). SameBut r m x) (sym w) (SameBut-with_word32 m r (4 * d) 0 (omega (arith, a, l)) (omega (arith, l)))

  close-writes : Writes (owned m rs) m m1
  close-writes = Writes-but (owned m rs) m m1 r (owned-root m r rs i) close-but

  pub close-stands : Stands p m1
  close-stands = (Moves-writes p m m1 (owned m rs) o close-writes).stands

  pub close-out : IsOut p m1 (dir m r d / 4096)
  close-out =
      IsOut-same p m m1 (dir m r d / 4096) (free_list-writes p m m1 (owned m rs) o close-writes)
      (o.out (dir m r d / 4096) (owned-table m r d (dir m r d / 4096) rs i l ne refl))

  module _ (p' : Pool) (m' : List ℕ) (list : free_list p' m' ≡ (dir m r d / 4096) ∷ free_list p m1) (stands : Stands p' m')
      (same : SameFrames p p') (memory : SameBut (dir m r d / 4096) m1 m') where
    close-not_root : (s : ℕ) → IsIn s rs → s ≢ dir m r d / 4096
    close-not_root s j = λ e. absurd (
        let two = owned-both m s r d rs j i l ne e in let once = o.once s in omega (arith, two, once))

    close-gone : dir m' r d ≡ 0
    unfolding dir
    close-gone =
        let a = close-room in
        word32-frame m' m1 r (4 * d) (memory.others r (close-not_root r i)) (omega (arith, l))
        ∙ ap (λ (x : List ℕ). word32 x (4096 * r + 4 * d)) w
        ∙ word32-with_word32 m (4096 * r + 4 * d) 0 (omega (arith, a, l)) (lit< tt)

    close-entry : (e : ℕ) → e < 1024 → e ≢ d → dir m1 r e ≡ dir m r e
    unfolding dir
    close-entry e k n =
        let a = close-room in
        ap (λ (x : List ℕ). word32 x (4096 * r + 4 * e)) w ∙ word32-with_entry m (4096 * r) d 0 e (omega (arith, a, l)) n

    close-dirs : (s e : ℕ) → IsIn s rs → e < 1024 → (s ≡ r → e ≡ d → ⊥) → dir m' s e ≡ dir m s e
    close-dirs s e j k n =
        dir-frame m1 m' s e (memory.others s (close-not_root s j)) k
        ∙ elim (eqb_tells s r) [
          | inl t ↦ subst (λ x. dir m1 x e ≡ dir m x e) (sym t.1) (close-entry e k (n t.1))
          | inr t ↦ dir-frame m m1 s e (close-but.others s t.1) k
        ]

    close-owned : (f : ℕ) → times f (owned m rs) ≡ hit f (dir m r d / 4096) + times f (owned m' rs)
    close-owned f =
        owned-grow m' m r d f rs i l (let a = o.once r in let b = roots-le m r rs in omega (arith, a, b))
        (λ s e j k n. sym (close-dirs s e j k n)) close-gone ne

    close-moves : Moves p p' m m' (owned m rs) (owned m' rs)
    close-moves =
        Moves-from p p' m m' (owned m rs) (owned m' rs) (memory.size ∙ close-but.size) same stands
        (λ f. (
        let a = ap (times f) list in
        let b = times-cons f (dir m r d / 4096) (free_list p m1) in
        let c = ap (times f) (free_list-writes p m m1 (owned m rs) o close-writes) in
        let e = close-owned f in
        omega (arith, a, b, c, e)))
        (λ g a b. memory.others g (λ e. absurd (let t = owned-table m r d g rs i l ne e in omega (arith, t, b))) ∙ close-writes.others g b)

    pub closes : Closes p p' m m' rs r d
    closes = record { moves = close-moves; gone = close-gone; dirs = close-dirs }

pub closes-none : (p : Pool) (m rs : List ℕ) (r d : ℕ) → Owns p m (owned m rs) → dir m r d ≡ 0 → Closes p p m m rs r d
closes-none p m rs r d o z = record { moves = Moves-refl p m (owned m rs) o.stands; gone = z; dirs = λ s e i l n. refl }

pub empties-none : (p : Pool) (m rs : List ℕ) (r : ℕ) → Owns p m (owned m rs) → Empties p p m m rs r 0
empties-none p m rs r o =
    record { moves = Moves-refl p m (owned m rs) o.stands; gone = λ e l. absurd (omega (arith, l)); dirs = λ s e i l n. refl }

pub empties-more : (p p' p'' : Pool) (m m' m'' rs : List ℕ) (r n : ℕ) → n < 1024 → IsIn r rs → Empties p p' m m' rs r n
    → Closes p' p'' m' m'' rs r n → Empties p p'' m m'' rs r (n + 1)
empties-more p p' p'' m m' m'' rs r n l i a b =
    record {
      moves = Moves-trans p p' p'' m m' m'' (owned m rs) (owned m' rs) (owned m'' rs) a.moves b.moves;
      gone = λ e k. elim (eqb_tells e n) [
        | inl t ↦ ap (dir m'' r) t.1 ∙ b.gone
        | inr t ↦ let k' : e < n =
            (let ne = t.1 in omega (arith, k, ne)) in b.dirs r e i (omega (arith, k', l)) (λ x y. t.1 y) ∙ a.gone e k'
      ];
      dirs = λ s e j k ne. b.dirs s e j k (λ x y. ne x) ∙ a.dirs s e j k ne;
    }

-- ---- a root that is owned

pub IsView-from_owned : (p : Pool) (m : List ℕ) (r : ℕ) → IsOwned p m r → IsView m r
IsView-from_owned p m r o = IsView-from_Holds m o.all r (Holds-from_Owns p m (owned m o.all) o.owns) o.root

pub IsOwned-empties : (p p' : Pool) (m m' : List ℕ) (r n : ℕ) (o : IsOwned p m r) → Empties p p' m m' o.all r n → IsOwned p' m' r
IsOwned-empties p p' m m' r n o e =
    record { all = o.all; owns = Owns-moves p p' m m' (owned m o.all) (owned m' o.all) o.owns e.moves; root = o.root }
