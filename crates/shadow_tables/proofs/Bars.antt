-- Taking the right to write from the words of a frame.
use Rattle.std.proofs.Common.{◌≡◌, ◌≢◌, ℕ, zero, suc, ◌+◌, ◌-◌, ◌*◌, ◌/◌, ◌%◌, ◌^◌, ◌<◌, ◌≤◌, ◌⊎◌, List, [], ◌∷◌, length, Bool, true, false, ◌&&◌, ◌||◌, not, cond, eqb, Option, Some, None, refl, sym, ap, ◌∙◌, subst, inl, inr, arith}
use Rattle.std.proofs.lemmas.Bool.{cases_lt}
use Rattle.std.proofs.lemmas.Bool.Decides.{eqb_tells}
use Rattle.guest_ram.specs.Bytes.{word32}
use Rattle.frame_pool.specs.Held.{Holds, Writes}
use Rattle.frame_pool.proofs.Held.{Writes-refl, Writes-trans, Holds-writes}
use Rattle.shadow_views.specs.Tables.{dir, at, by_dir, owned, IsIn, IsView, Puts}
use Rattle.shadow_views.proofs.Changes.{at-none}
use Rattle.shadow_views.proofs.Counts.{by_dir-some}
use Rattle.shadow_views.proofs.Nones.{IsNoneAt, AreNone, pair-none}
use Rattle.shadow_tables.specs.Opened.{KeepsTables}
use Rattle.shadow_tables.proofs.OtherRoots.{and-true}
use Rattle.shadow_tables.proofs.Tabled.{keeps-trans, puts-keep}
use Rattle.shadow_tables.specs.Slots.{Slot, barred, barred_word, slot_of, by_words, roots, held, slot_at, IsMarked, IsShadow, Becomes}
use Rattle.paging.specs.Fresh.{has}
use Rattle.shadow_tables.specs.Sweeps.{Sweeps}
use Rattle.shadow_tables.specs.declared.shadow.Shadow.{Shadow}
use Rattle.shadow_tables.specs.declared.words.Side.{Side}
use Rattle.shadow_tables.specs.declared.words.Side.TheVariants.{Kernel, User}
use Rattle.shadow_tables.specs.Laws.Views.{in-kernel, in-user, slot-same, Holds-along}
use Rattle.shadow_tables.proofs.Fills.{by-none, by-user, by-kernel, roots-apart, slot-none, both}
use Rattle.shadow_tables.proofs.Sweeps.{sweeps-more, sweeps-over, sweeps-trans}

-- ---- one word

pub some-table : (m : List ℕ) (r page : ℕ) → at m r page ≢ 0 → dir m r (page / 1024) ≢ 0
some-table m r page ne = λ z. ne (at-none m r page z)

pub puts-same : (m rs : List ℕ) (r page v : ℕ) → at m r page ≡ v → Puts m m rs r page v
puts-same m rs r page v e =
    record { writes = Writes-refl (owned m rs) m; frames = refl; dirs = λ s d i l. refl; there = e; others = λ s q i l n. refl }

abbrev takes : Bool → Bool → ℕ → ℕ
takes a b w = cond (a && b) (w - 2) w

pub barred-yes : (frame w : ℕ) → w / 4096 ≡ frame → w / 2 % 2 ≡ 1 → barred_word frame w ≡ w - 2
barred-yes frame w e h =
    elim (eqb_tells (w / 4096) frame) [
      | inl t ↦ elim (eqb_tells (w / 2 % 2) 1) [
        | inl u ↦ ap (λ a. takes a (has w 2) w) t.0 ∙ ap (λ b. takes true b w) u.0
        | inr u ↦ absurd (u.1 h)
      ]
      | inr t ↦ absurd (t.1 e)
    ]

pub barred-other : (frame w : ℕ) → w / 4096 ≢ frame → barred_word frame w ≡ w
barred-other frame w n = elim (eqb_tells (w / 4096) frame) [ inl t ↦ absurd (n t.1) | inr t ↦ ap (λ a. takes a (has w 2) w) t.0 ]

takes-none : (a : Bool) (w : ℕ) → takes a false w ≡ w
takes-none true w = refl
takes-none false w = refl

pub barred-read : (frame w : ℕ) → w / 2 % 2 ≢ 1 → barred_word frame w ≡ w
barred-read frame w n =
    elim (eqb_tells (w / 2 % 2) 1) [
      | inl t ↦ absurd (n t.1)
      | inr t ↦ ap (λ b. takes (eqb (w / 4096) frame) b w) t.0 ∙ takes-none
          (eqb (w / 4096) frame) w
    ]

pub barred-zero : (frame w : ℕ) → w ≡ 0 → barred_word frame w ≡ 0
barred-zero frame w e = barred-read frame w (λ h. absurd (omega (arith, e, h))) ∙ e

-- the word loses its right, or is as it was
abbrev Loses : ℕ → ℕ → Type 0
Loses frame w = ((w / 4096 ≡ frame) × (w / 2 % 2 ≡ 1) × (barred_word frame w ≡ w - 2))
    ⊎ (((w / 4096 ≢ frame) ⊎ (w / 2 % 2 ≢ 1)) × (barred_word frame w ≡ w))

loses : (frame w : ℕ) → Loses frame w
loses frame w =
    elim (eqb_tells (w / 4096) frame) [
      | inl t ↦ elim (eqb_tells (w / 2 % 2) 1) [
        | inl u ↦ inl (t.1, u.1, barred-yes frame w t.1 u.1)
        | inr u ↦ inr (inr u.1, barred-read frame w u.1)
      ]
      | inr t ↦ inr (inl t.1, barred-other frame w t.1)
    ]

pub barred-marked : (frame w : ℕ) → IsMarked w → IsMarked (barred_word frame w)
barred-marked frame w k =
    let user = k.user in let fits = k.fits in
    elim (loses frame w) [
      | inl t ↦
          let bit = t.1 in
          let r = k.reads bit in
          let high : (w - 2) / 8 ≡ w / 8 = omega (arith, bit) in
          subst IsMarked (sym t.2) (record {
            user = omega (arith, bit, user);
            reads = λ e. omega (arith, e, bit);
            plain = ap (λ x. x % 64) high ∙ k.plain;
            fits = omega (arith, fits);
          })
      | inr t ↦ subst IsMarked (sym t.1) k
    ]

pub marked-some : (w : ℕ) → IsMarked w → w ≢ 0
marked-some w k = λ e. absurd (let user = k.user in omega (arith, user, e))

-- ---- what a word keeps

abbrev made : Side → ℕ → ℕ → Bool → Bool → Bool → Bool → Bool → Slot
made side page f u w d r h =
    record { side = side; entry = record { page = page; frame = f; user = u; write = w; dirty = d }; reads = r; writes = h }

made-parts : (side : Side) (page : ℕ) {f f' : ℕ} {u u' w w' d d' r r' h h' : Bool} → f ≡ f' → u ≡ u' → w ≡ w' → d ≡ d' → r ≡ r' → h ≡ h' →
    made side page f u w d r h ≡ made side page f' u' w' d' r' h'
made-parts side page a b c d e g = cc

bit-same : (v w n : ℕ) → v ≡ w → eqb (v % n) 1 ≡ eqb (w % n) 1
bit-same v w n e = ap (λ x. eqb (x % n) 1) e

less-writes : (frame w : ℕ) → w / 4096 ≡ frame → w / 2 % 2 ≡ 1 → has (w - 2) 2 ≡ (has w 2 && not (eqb (w / 4096) frame || false))
less-writes frame w e h =
    elim (eqb_tells ((w - 2) / 2 % 2) 1) [
      | inl t ↦ absurd (let q = t.1 in omega (arith, q, h))
      | inr t ↦ elim (eqb_tells (w / 4096) frame) [
        | inl u ↦ elim (eqb_tells (w / 2 % 2) 1) [
          | inl v ↦ t.0 ∙ sym (ap (λ a. a && not (eqb (w / 4096) frame || false)) v.0 ∙ ap (λ b. not (b || false)) u.0)
          | inr v ↦ absurd (v.1 h)
        ]
        | inr u ↦ absurd (u.1 e)
      ]
    ]

same-writes : (frame w : ℕ) → (w / 4096 ≢ frame) ⊎ (w / 2 % 2 ≢ 1) → has w 2 ≡ (has w 2 && not (eqb (w / 4096) frame || false))
same-writes frame w h =
    elim h [
      | inl n ↦ elim (eqb_tells (w / 4096) frame) [
        | inl u ↦ absurd (n u.1)
        | inr u ↦ sym (ap (λ b. has w 2 && not (b || false)) u.0 ∙ and-true (has w 2))
      ]
      | inr n ↦ elim (eqb_tells (w / 2 % 2) 1) [
        | inl u ↦ absurd (n u.1)
        | inr u ↦ u.0 ∙ sym (ap (λ a. a && not (eqb (w / 4096) frame || false)) u.0)
      ]
    ]

barred-slot : (side : Side) (page frame w : ℕ) → Some (slot_of side page (barred_word frame w)) ≡ barred (frame ∷ [])
    (Some (slot_of side page w))
barred-slot side page frame w =
    let out : Bool = has w 2 && not (eqb (w / 4096) frame || false) in
    elim (loses frame w) [
      | inl t ↦
          let bit = t.1 in
          let f : (w - 2) / 4096 ≡ w / 4096 = omega (arith, bit) in
          let u : (w - 2) / 512 ≡ w / 512 = omega (arith, bit) in
          let x : (w - 2) / 1024 ≡ w / 1024 = omega (arith, bit) in
          let d : (w - 2) / 2048 ≡ w / 2048 = omega (arith, bit) in
          let r : (w - 2) % 2 ≡ w % 2 = omega (arith, bit) in
          ap (λ v. Some (slot_of side page v)) t.2
          ∙ ap (λ (y : Slot). Some y) (made-parts side page f (bit-same _ _ 2 u) (bit-same _ _ 2 x) (bit-same _ _ 2 d) (ap (λ y. eqb y 1) r)
          (less-writes frame w t.0 bit))
      | inr t ↦
          ap (λ v. Some (slot_of side page v)) t.1
          ∙ ap (λ h. Some (made side page (w / 4096) (has w 512) (has w 1024) (has w 2048) (eqb (w % 2) 1) h)) (same-writes frame w t.0)
    ]

barred-by : (page frame k u : ℕ) → (k ≢ 0 → IsMarked k) → (u ≢ 0 → IsMarked u) → by_words page (barred_word frame k) (barred_word frame u)
    ≡ barred (frame ∷ []) (by_words page k u)
barred-by page frame zero zero a b = by-none page _ _ (barred-zero frame zero refl) (barred-zero frame zero refl)
barred-by page frame zero (suc u) a b =
    let k = barred-marked frame (suc u) (b (λ e. omega (arith, e))) in
    by-user page _ (barred_word frame (suc u)) (barred-zero frame zero refl) (marked-some (barred_word frame (suc u)) k)
    ∙ barred-slot User page frame (suc u)
barred-by page frame (suc k) u a b =
    let m = barred-marked frame (suc k) (a (λ e. omega (arith, e))) in
    by-kernel page (barred_word frame (suc k)) (barred_word frame u) (marked-some (barred_word frame (suc k)) m)
    ∙ barred-slot Kernel page frame (suc k)

-- ---- a page

-- what a write by a root of the shadow gives
pub put-in : (s : Shadow) (m n : List ℕ) (r k page frame : ℕ) → Holds m (held s m) → r ≡ k → IsIn k (roots s)
    → ((rs : List ℕ) → Holds m (owned m rs) → IsIn r rs → Puts m n rs r page (barred_word frame (at m r page)))
    → Puts m n (roots s) k page (barred_word frame (at m k page))
put-in s m n r k page frame h e i puts =
    subst (λ x. Puts m n (roots s) x page (barred_word frame (at m x page))) e (puts (roots s) h (subst (λ x. IsIn x (roots s)) (sym e) i))

module _ (s : Shadow) (m m1 m2 : List ℕ) (page frame : ℕ) (h : IsShadow s m) (l : page < 2 ^ 20)
    (a : Puts m m1 (roots s) s.kernel page (barred_word frame (at m s.kernel page)))
    (b : Puts m1 m2 (roots s) s.user page (barred_word frame (at m1 s.user page))) where
  bar-kernel : at m2 s.kernel page ≡ barred_word frame (at m s.kernel page)
  bar-kernel = b.others s.kernel page (in-kernel s) l (λ e q. roots-apart s m h.holds (sym e)) ∙ a.there

  bar-user : at m2 s.user page ≡ barred_word frame (at m s.user page)
  bar-user = b.there ∙ ap (barred_word frame) (a.others s.user page (in-user s) l (λ e q. roots-apart s m h.holds e))

  bar-other : (t q : ℕ) → IsIn t (roots s) → q < 2 ^ 20 → (q ≡ page → ⊥) → at m2 t q ≡ at m t q
  bar-other t q i k n = b.others t q i k (λ e w. n w) ∙ a.others t q i k (λ e w. n w)

  bar-root : (t : ℕ) → IsIn t (roots s) → at m2 t page ≡ barred_word frame (at m t page)
  bar-root t i = both s (λ x. at m2 x page ≡ barred_word frame (at m x page)) bar-kernel bar-user t i

  some-before : (w v : ℕ) → v ≡ barred_word frame w → v ≢ 0 → w ≢ 0
  some-before w v e ne = λ z. ne (e ∙ barred-zero frame w z)

  bar-apart : (q : ℕ) → q < 2 ^ 20 → at m2 s.kernel q ≢ 0 → at m2 s.user q ≡ 0
  bar-apart q k ne =
      elim (eqb_tells q page) [
        | inl t ↦
            ap (at m2 s.user) t.1 ∙ bar-user
            ∙ barred-zero frame (at m s.user page)
            (h.apart page l (some-before (at m s.kernel page) (at m2 s.kernel q) (ap (at m2 s.kernel) t.1 ∙ bar-kernel) ne))
        | inr t ↦ bar-other s.user q (in-user s) k t.1 ∙ h.apart q k (λ z. ne (bar-other s.kernel q (in-kernel s) k t.1 ∙ z))
      ]

  bar-shape : (t d : ℕ) → IsIn t (roots s) → d < 1024 → dir m2 t d ≢ 0 → dir m2 t d % 4096 ≡ 7
  bar-shape t d i k ne = let e = b.dirs t d i k ∙ a.dirs t d i k in subst (λ x. x % 4096 ≡ 7) (sym e) (h.shape t d i k (λ z. ne (e ∙ z)))

  bar-marks : (t q : ℕ) → IsIn t (roots s) → q < 2 ^ 20 → at m2 t q ≢ 0 → IsMarked (at m2 t q)
  bar-marks t q i k ne =
      elim (eqb_tells q page) [
        | inl x ↦
            let e : at m2 t q ≡ barred_word frame (at m t page) = ap (at m2 t) x.1 ∙ bar-root t i in
            subst IsMarked (sym e) (barred-marked frame (at m t page) (h.marks t page i l (some-before (at m t page) (at m2 t q) e ne)))
        | inr x ↦ let e = bar-other t q i k x.1 in subst IsMarked (sym e) (h.marks t q i k (λ z. ne (e ∙ z)))
      ]

  bar-there : slot_at s m2 page ≡ barred (frame ∷ []) (slot_at s m page)
  unfolding slot_at
  bar-there =
      ap (λ x. by_words page x (at m2 s.user page)) bar-kernel
      ∙ ap (by_words page (barred_word frame (at m s.kernel page))) bar-user
      ∙ barred-by page frame (at m s.kernel page) (at m s.user page) (h.marks s.kernel page (in-kernel s) l)
      (h.marks s.user page (in-user s) l)

  pub bar-frames : held s m2 ≡ held s m
  bar-frames = b.frames ∙ a.frames

  pub bar-writes : Writes (held s m) m m2
  bar-writes = Writes-trans (held s m) m m1 m2 a.writes (subst (λ (fs : List ℕ). Writes fs m1 m2) a.frames b.writes)

  pub bar-tables : KeepsTables s m m2
  bar-tables = keeps-trans s m m1 m2 (puts-keep s m m1 s.kernel page (barred_word frame (at m s.kernel page)) a)
      (puts-keep s m1 m2 s.user page (barred_word frame (at m1 s.user page)) b)

  pub bars : Becomes s m m2 page (barred (frame ∷ []) (slot_at s m page))
  bars =
      record {
        shadow = record {
          holds = Holds-along m2 (held s m) (held s m2) bar-frames (Holds-writes (held s m) m m2 h.holds bar-writes.size);
          apart = bar-apart;
          shape = bar-shape;
          marks = bar-marks;
        };
        there = bar-there;
        others = λ q k n. slot-same s m m2 q (bar-other s.kernel q (in-kernel s) k n) (bar-other s.user q (in-user s) k n);
      }

-- ---- many pages

-- no page of a directory index without tables is kept
pub dir-none : (s : Shadow) (m : List ℕ) (index page : ℕ) → dir m s.kernel index ≡ 0 → dir m s.user index ≡ 0 → page / 1024 ≡ index
    → slot_at s m page ≡ None
dir-none s m index page a b e =
    slot-none s m page (at-none m s.kernel page (ap (dir m s.kernel) e ∙ a)) (at-none m s.user page (ap (dir m s.user) e ∙ b))

abbrev pub without : Shadow → List ℕ → ℕ → ℕ → Option Slot
without s m frame page = barred (frame ∷ []) (slot_at s m page)

-- ---- words that are 0

-- words of a table that give no right, up to here
abbrev pub AreStill : List ℕ → ℕ → ℕ → ℕ → ℕ → Type 0
AreStill m table frame first last = (j : ℕ) → first ≤ j → j < last → barred_word frame (by_dir m table j) ≡ by_dir m table j

-- and then as many as are 0
pub still-pairs : (m : List ℕ) (table frame first i next : ℕ) → table ≢ 0 → i % 2 ≡ 0 → IsNoneAt m (4096 * (table / 4096) + 4 * i)
    → AreNone m (table / 4096) (2 * (i / 2 + 1)) (2 * next) → AreStill m table frame first i → AreStill m table frame first (2 * next)
still-pairs m table frame first i next ne even n rest h j low high =
    let still : word32 m (4096 * (table / 4096) + 4 * j) ≡ 0 → barred_word frame (by_dir m table j) ≡ by_dir m table j =
    λ e. let z : by_dir m table j ≡ 0 = by_dir-some m table j ne ∙ e in barred-zero frame (by_dir m table j) z ∙ sym z in
    elim (cases_lt j i) [
      | inl t ↦ h j low t
      | inr t ↦ elim (cases_lt j (i + 2)) [
        | inl u ↦ still (pair-none m (4096 * (table / 4096) + 4 * i) (table / 4096) i j refl n t u)
        | inr u ↦ still (rest j (omega (arith, even, u)) high)
      ]
    ]

-- no page is kept of directory indices without tables
pub dirs-none : (s : Shadow) (m : List ℕ) (first last : ℕ) → ((d : ℕ) → first ≤ d → d < last → dir m s.kernel d ≡ 0)
    → ((d : ℕ) → first ≤ d → d < last → dir m s.user d ≡ 0)
    → (page : ℕ) → page < 2 ^ 20 → 1024 * first ≤ page → page < 1024 * last → slot_at s m page ≡ None
dirs-none s m first last a b page l low high =
    let from : first ≤ page / 1024 = omega (arith, low) in
    let below : page / 1024 < last = omega (arith, high) in
    dir-none s m (page / 1024) page (a (page / 1024) from below) (b (page / 1024) from below) refl

-- the table that a PDE names lies in the memory
pub table-lies : (m : List ℕ) (r index w : ℕ) → IsView m r → index < 1024 → w ≡ dir m r index → w ≢ 0 → 4096 * (w / 4096) + 4096 ≤ length m
table-lies m r index w v l e ne = subst (λ x. 4096 * (x / 4096) + 4096 ≤ length m) (sym e) (v.table index l (λ z. ne (e ∙ z)))

-- the word of a page stays where that of its table does
pub word-still : (m : List ℕ) (r index frame first last : ℕ) → last ≤ 1024
    → ((i : ℕ) → first ≤ i → i < last → barred_word frame (by_dir m (dir m r index) i) ≡ by_dir m (dir m r index) i)
    → (page : ℕ) → 1024 * index + first ≤ page → page < 1024 * index + last → barred_word frame (at m r page) ≡ at m r page
unfolding at
word-still m r index frame first last few h page low high =
    let place : page / 1024 ≡ index = omega (arith, few, low, high) in
    let from : first ≤ page % 1024 = omega (arith, few, low, high) in
    let below : page % 1024 < last = omega (arith, few, low, high) in
    subst (λ d. barred_word frame (by_dir m (dir m r d) (page % 1024)) ≡ by_dir m (dir m r d) (page % 1024)) (sym place)
    (h (page % 1024) from below)

-- and is 0 where those are
pub word-none : (m : List ℕ) (r index first last : ℕ) → last ≤ 1024 → ((i : ℕ) → first ≤ i → i < last → by_dir m (dir m r index) i ≡ 0)
    → (page : ℕ) → 1024 * index + first ≤ page → page < 1024 * index + last → at m r page ≡ 0
unfolding at
word-none m r index first last few h page low high =
    let place : page / 1024 ≡ index = omega (arith, few, low, high) in
    let from : first ≤ page % 1024 = omega (arith, few, low, high) in
    let below : page % 1024 < last = omega (arith, few, low, high) in
    subst (λ d. by_dir m (dir m r d) (page % 1024) ≡ 0) (sym place) (h (page % 1024) from below)

-- what is kept of a page stays where its words do
pub page-still : (s : Shadow) (m : List ℕ) (page frame : ℕ) → IsShadow s m → page < 2 ^ 20
    → barred_word frame (at m s.kernel page) ≡ at m s.kernel page → barred_word frame (at m s.user page) ≡ at m s.user page
    → slot_at s m page ≡ without s m frame page
unfolding slot_at
page-still s m page frame h l a b =
    ap (λ x. by_words page x (at m s.user page)) (sym a)
    ∙ ap (by_words page (barred_word frame (at m s.kernel page))) (sym b)
    ∙ barred-by page frame (at m s.kernel page) (at m s.user page) (h.marks s.kernel page (in-kernel s) l)
    (h.marks s.user page (in-user s) l)

-- ---- words that give a right

-- the word of this frame that gives the right to write is another one without it
pub barred-differs : (frame w : ℕ) → w / 4096 ≡ frame → w / 2 % 2 ≡ 1 → barred_word frame w ≢ w
barred-differs frame w e h = λ q. absurd (let y : w - 2 ≡ w = sym (barred-yes frame w e h) ∙ q in omega (arith, y, h))

-- and a word that is another one without its right is of this frame, and has it
right-of : (frame w : ℕ) → barred_word frame w ≢ w → (w / 4096 ≡ frame) × (w / 2 % 2 ≡ 1)
right-of frame w n = elim (loses frame w) [ inl t ↦ (t.0, t.1) | inr t ↦ absurd (n t.1) ]

loses-right : (frame w : ℕ) → w / 4096 ≡ frame → w / 2 % 2 ≡ 1 → has w 2 ≢ (has w 2 && not (eqb (w / 4096) frame || false))
loses-right frame w e h = λ q.
    let x : has w 2 ≡ has (w - 2) 2 = q ∙ sym (less-writes frame w e h) in
    elim (eqb_tells (w / 2 % 2) 1) [
      | inl v ↦ elim (eqb_tells ((w - 2) / 2 % 2) 1) [
        | inl t ↦ absurd (let y = t.1 in omega (arith, y, h))
        | inr t ↦ absurd (let y : true ≡ false = sym v.0 ∙ x ∙ t.0 in cc)
      ]
      | inr v ↦ absurd (v.1 h)
    ]

abbrev writes-in : Option Slot → Bool
writes-in None = false
writes-in (Some slot) = slot.writes

slot-turns : (side : Side) (page frame w : ℕ) → barred_word frame w ≢ w
    → Some (slot_of side page w) ≢ barred (frame ∷ []) (Some (slot_of side page w))
slot-turns side page frame w n = λ q. let r = right-of frame w n in loses-right frame w r.0 r.1 (ap writes-in q)

some-right : (frame w : ℕ) → barred_word frame w ≢ w → w ≢ 0
some-right frame w n = λ e. n (barred-zero frame w e ∙ sym e)

-- what is kept of a page is another than without its right where either word is
pub page-turns : (s : Shadow) (m : List ℕ) (page frame : ℕ) → IsShadow s m → page < 2 ^ 20
    → (barred_word frame (at m s.kernel page) ≢ at m s.kernel page) ⊎ (barred_word frame (at m s.user page) ≢ at m s.user page)
    → slot_at s m page ≢ without s m frame page
unfolding slot_at
page-turns s m page frame h l (inl n) q =
    let k = by-kernel page (at m s.kernel page) (at m s.user page) (some-right frame (at m s.kernel page) n) in
    slot-turns Kernel page frame (at m s.kernel page) n (sym k ∙ q ∙ ap (barred (frame ∷ [])) k)
page-turns s m page frame h l (inr n) q =
    elim (eqb_tells (at m s.kernel page) 0) [
      | inl z ↦
          let u = by-user page (at m s.kernel page) (at m s.user page) z.1 (some-right frame (at m s.user page) n) in
          slot-turns User page frame (at m s.user page) n (sym u ∙ q ∙ ap (barred (frame ∷ [])) u)
      | inr z ↦ absurd (some-right frame (at m s.user page) n (h.apart page l z.1))
    ]

-- the word of a page is another one without its right where that of its table is
pub word-turns : (m : List ℕ) (r index frame i : ℕ) → i < 1024
    → barred_word frame (by_dir m (dir m r index) i) ≢ by_dir m (dir m r index) i
    → barred_word frame (at m r (1024 * index + i)) ≢ at m r (1024 * index + i)
unfolding at
word-turns m r index frame i few n =
    let place : (1024 * index + i) / 1024 ≡ index = omega (arith, few) in
    let word : (1024 * index + i) % 1024 ≡ i = omega (arith, few) in
    subst (λ d. barred_word frame (by_dir m (dir m r d) ((1024 * index + i) % 1024)) ≢ by_dir m (dir m r d) ((1024 * index + i) % 1024))
    (sym place) (subst (λ j. barred_word frame (by_dir m (dir m r index) j) ≢ by_dir m (dir m r index) j) (sym word) n)

-- pages that have no right to lose
pub bars-over : (s : Shadow) (m n : List ℕ) (first from last frame : ℕ) → first ≤ from → from ≤ last
    → Sweeps s m n first from (without s m frame)
    → ((page : ℕ) → page < 2 ^ 20 → from ≤ page → page < last → slot_at s n page ≡ without s n frame page)
    → Sweeps s m n first last (without s m frame)
bars-over s m n first from last frame x y a h =
    sweeps-over s m n first from last (without s m frame) a y x
    (λ page l low high. (
    let e = a.others page l (λ p q. absurd (omega (arith, q, low))) in sym e ∙ h page l low high ∙ ap (barred (frame ∷ [])) e))

pub bars-more : (s : Shadow) (m m1 m2 : List ℕ) (first n frame : ℕ) → first ≤ n → n < 2 ^ 20 → Sweeps s m m1 first n (without s m frame)
    → Becomes s m1 m2 n (without s m1 frame n) → held s m2 ≡ held s m1 → Writes (held s m1) m1 m2 → KeepsTables s m1 m2
    → Sweeps s m m2 first (n + 1) (without s m frame)
bars-more s m m1 m2 first n frame le small a b f w k =
    sweeps-more s m m1 m2 first n (without s m frame) (without s m1 frame n) le a b
    (ap (barred (frame ∷ [])) (a.others n small (λ x y. absurd (omega (arith, y))))) f w k

pub bars-trans : (s : Shadow) (m m1 m2 : List ℕ) (first n last frame : ℕ) → first ≤ n → n ≤ last → Sweeps s m m1 first n (without s m frame)
    → Sweeps s m1 m2 n last (without s m1 frame) → Sweeps s m m2 first last (without s m frame)
bars-trans s m m1 m2 first n last frame x y a b =
    sweeps-trans s m m1 m2 first n last (without s m frame) (without s m1 frame) x y a b
    (λ page l low high. ap (barred (frame ∷ [])) (a.others page l (λ p q. absurd (omega (arith, q, low)))))

-- pages that aren't kept have no right to lose
pub none-without : (s : Shadow) (m : List ℕ) (frame page : ℕ) → slot_at s m page ≡ None → slot_at s m page ≡ without s m frame page
none-without s m frame page n = n ∙ sym (ap (barred (frame ∷ [])) n)
