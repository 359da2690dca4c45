-- A host's access goes where what is kept says.
use Rattle.std.proofs.Common.{◌≡◌, ◌≢◌, ℕ, zero, suc, ◌+◌, ◌*◌, ◌/◌, ◌%◌, ◌^◌, ◌<◌, ◌⊎◌, List, length, Bool, true, false, not, ◌&&◌, cond, eqb, Option, Some, None, refl, sym, ap, ◌∙◌, subst, inl, inr, arith}
use Rattle.std.proofs.Math.Dec.{leb}
use Rattle.std.proofs.lemmas.Bool.Decides.{eqb_tells, leb_tells}
use Rattle.guest_ram.specs.Bytes.{word32}
use Rattle.paging.specs.declared.entry.Walk.TheVariants.{Absent, Beyond, Found}
use Rattle.paging.specs.Fresh.{fresh, by_dir, by_word, has, dir_place, word_place}
use Rattle.shadow_views.specs.Tables.{dir, at, IsIn}
use Rattle.shadow_views.proofs.Changes.{IsView-from_Holds, at-none, at-some, high}
use Rattle.shadow_tables.specs.Slots.{by_words, lets, roots, root_of, slot_at, IsMarked, IsShadow}
use Rattle.paging.specs.Reached.{reached, reached_by}
use Rattle.shadow_tables.specs.Host.{frame_below, lent}
use Rattle.shadow_tables.specs.declared.shadow.Shadow.{Shadow}
use Rattle.shadow_tables.specs.declared.words.Side.{Side}
use Rattle.shadow_tables.specs.declared.words.Side.TheVariants.{Kernel, User}
use Rattle.shadow_tables.specs.Laws.Views.{in-root, word_in, at-side, one-none}

-- where a word of a page leads
abbrev lent_word : ℕ → ℕ → Bool → Option ℕ
lent_word n v write = cond (lets v write) (frame_below n (v / 4096)) None

lent-none : (n : ℕ) (write : Bool) → lent_word n 0 write ≡ None
lent-none n true = refl
lent-none n false = refl

lent-by : (n page k u : ℕ) (side : Side) (write : Bool) → (k ≡ 0) ⊎ (u ≡ 0)
    → lent_word n (word_in side k u) write ≡ lent n (by_words page k u) side write
lent-by n page zero zero Kernel write h = lent-none n write
lent-by n page zero zero User write h = lent-none n write
lent-by n page zero (suc u) Kernel write h = lent-none n write
lent-by n page zero (suc u) User write h = refl
lent-by n page (suc k) zero Kernel write h = refl
lent-by n page (suc k) zero User write h = lent-none n write
lent-by n page (suc k) (suc u) side write h = absurd (elim h [ inl e ↦ (omega (arith, e)) | inr e ↦ (omega (arith, e)) ])

-- the rights that result, by the bits of both words, of which those of the PDE are set
rights : (f page c d : ℕ) (r h below dirty write : Bool) → (h ≡ true → r ≡ true) →
    reached_by write (cond (not r) Absent
    (cond below Beyond (Found (record { page = page; frame = f; user = true; write = h; dirty = dirty }) c d))) ≡ cond (cond write h r)
    (cond {A = Option ℕ} below None (Some f)) None
rights f page c d true true true dirty true k = refl
rights f page c d true true true dirty false k = refl
rights f page c d true true false dirty true k = refl
rights f page c d true true false dirty false k = refl
rights f page c d true false true dirty true k = refl
rights f page c d true false true dirty false k = refl
rights f page c d true false false dirty true k = refl
rights f page c d true false false dirty false k = refl
rights f page c d false true below dirty write k = absurd (let e = k refl in cc)
rights f page c d false false below dirty true k = refl
rights f page c d false false below dirty false k = refl

by_word-bits : (n c page w v : ℕ) (write : Bool) → eqb (w / 4 % 2) 1 ≡ true → eqb (w / 2 % 2) 1 ≡ true → eqb (v / 4 % 2) 1 ≡ true
    → eqb (v / 1 % 2) 1 ≡ eqb (v % 2) 1
    → (eqb (v / 2 % 2) 1 ≡ true → eqb (v % 2) 1 ≡ true) → reached_by write (by_word n c page w v) ≡ lent_word n v write
by_word-bits n c page w v write w4 w2 v4 v1 both =
    let x : ℕ = dir_place c page in let y : ℕ = word_place w page in let f : ℕ = v / 4096 in
    let h : Bool = eqb (v / 2 % 2) 1 in let r : Bool = eqb (v % 2) 1 in let b : Bool = leb n f in
    let walk : Bool → Bool → Bool → Bool → Option ℕ = λ a4 a2 c4 c1.
    reached_by write (cond (not c1) Absent
    (cond b Beyond (Found (record { page = page; frame = f; user = a4 && c4; write = a2 && h; dirty = has v 0x40 }) x y)))
    in
    ap (λ a. walk a (has w 2) (has v 4) (has v 1)) w4
    ∙ ap (λ a. walk true a (has v 4) (has v 1)) w2
    ∙ ap (λ a. walk true true a (has v 1)) v4
    ∙ ap (walk true true true) v1
    ∙ rights f page x y r h b (has v 0x40) write both

-- a word of a page under a PDE with all rights
by_word-is : (n c page w v : ℕ) (write : Bool) → w % 4096 ≡ 7 → (v ≢ 0 → IsMarked v)
    → reached_by write (by_word n c page w v) ≡ lent_word n v write
by_word-is n c page w v write s k =
    elim (eqb_tells v 0) [
      | inl z ↦ subst (λ x. reached_by write (by_word n c page w x) ≡ lent_word n x write) (sym z.1) (sym (lent-none n write))
      | inr z ↦
          let m = k z.1 in
          let user = m.user in
          let w4 : eqb (w / 4 % 2) 1 ≡ true = ap (λ y. eqb y 1) (let e : w / 4 % 2 ≡ 1 = omega (arith, s) in e) in
          let w2 : eqb (w / 2 % 2) 1 ≡ true = ap (λ y. eqb y 1) (let e : w / 2 % 2 ≡ 1 = omega (arith, s) in e) in
          let v4 : eqb (v / 4 % 2) 1 ≡ true = ap (λ y. eqb y 1) user in
          let v1 : eqb (v / 1 % 2) 1 ≡ eqb (v % 2) 1 = ap (λ y. eqb y 1) (let e : v / 1 % 2 ≡ v % 2 = omega arith in e) in
          let both : eqb (v / 2 % 2) 1 ≡ true → eqb (v % 2) 1 ≡ true =
          λ t. ap (λ y. eqb y 1) (m.reads (elim (eqb_tells (v / 2 % 2) 1) [ inl x ↦ x.1 | inr x ↦ absurd (let f = x.0 in cc) ])) in
          by_word-bits n c page w v write w4 w2 v4 v1 both
    ]

by_dir-is : (m : List ℕ) (n c page w v : ℕ) (write : Bool) → w % 4096 ≡ 7 → w / 4096 < n → word32 m (word_place w page) ≡ v
    → (v ≢ 0 → IsMarked v) → reached_by write (by_dir m n c false page w) ≡ lent_word n v write
by_dir-is m n c page w v write s l e k =
    let w1 : eqb (w / 1 % 2) 1 ≡ true = ap (λ y. eqb y 1) (let q : w / 1 % 2 ≡ 1 = omega (arith, s) in q) in
    let lt : leb n (w / 4096) ≡ false =
    elim (leb_tells n (w / 4096)) [ inl t ↦ absurd (let g = t.1 in omega (arith, g, l)) | inr t ↦ t.0 ] in
    ap (λ b. reached_by write (cond (not b) Absent (cond (leb n (w / 4096)) Beyond (by_word n c page w (word32 m (word_place w page)))))) w1
    ∙ ap (λ b. reached_by write (cond b Beyond (by_word n c page w (word32 m (word_place w page))))) lt
    ∙ ap (λ x. reached_by write (by_word n c page w x)) e
    ∙ by_word-is n c page w v write s k

by_dir-none : (m : List ℕ) (n c page w : ℕ) (write : Bool) → w ≡ 0 → reached_by write (by_dir m n c false page w) ≡ None
by_dir-none m n c page zero write e = refl
by_dir-none m n c page (suc w) write e = absurd (omega (arith, e))

view-is : (s : Shadow) (m : List ℕ) (n r page : ℕ) (write : Bool) → IsShadow s m → IsIn r (roots s) → 4096 * n ≡ length m → page < 2 ^ 20
    → reached m n r page write ≡ lent_word n (at m r page) write
unfolding fresh dir
view-is s m n r page write h i e l =
    let view = IsView-from_Holds m (roots s) r h.holds i in
    let root = view.root in
    let same : 4096 * r / 4096 ≡ r = omega arith in
    let lt : leb n (4096 * r / 4096) ≡ false =
    elim (leb_tells n (4096 * r / 4096)) [ inl t ↦ absurd (let g = t.1 in omega (arith, g, same, root, e)) | inr t ↦ t.0 ] in
    let place : dir_place (4096 * r) page ≡ 4096 * r + 4 * (page / 1024) = omega (arith, same) in
    let w : ℕ = dir m r (page / 1024) in
    ap (λ b. reached_by write (cond b Beyond (by_dir m n (4096 * r) false page (word32 m (dir_place (4096 * r) page))))) lt
    ∙ ap (λ x. reached_by write (by_dir m n (4096 * r) false page (word32 m x))) place
    ∙ elim (eqb_tells w 0) [
      | inl z ↦ by_dir-none m n (4096 * r) page w write z.1 ∙ sym (lent-none n write)
          ∙ ap (λ x. lent_word n x write) (sym (at-none m r page z.1))
      | inr z ↦
          let t = view.table (page / 1024) (high page l) z.1 in
          let p : word_place w page ≡ 4096 * (w / 4096) + 4 * (page % 1024) = omega arith in
          by_dir-is m n (4096 * r) page w (at m r page) write (h.shape r (page / 1024) i (high page l) z.1) (omega (arith, t, e))
          (ap (word32 m) p ∙ sym (at-some m r page z.1)) (h.marks r page i l)
    ]

pub reached-is : (s : Shadow) (m : List ℕ) (n : ℕ) (side : Side) (page : ℕ) (write : Bool) → IsShadow s m → 4096 * n ≡ length m
    → page < 2 ^ 20 → reached m n (root_of s side) page write ≡ lent n (slot_at s m page) side write
unfolding slot_at
reached-is s m n side page write h e l =
    view-is s m n (root_of s side) page write h (in-root s side) e l
    ∙ ap (λ x. lent_word n x write) (at-side s m side page)
    ∙ lent-by n page (at m s.kernel page) (at m s.user page) side write (one-none (at m s.kernel page) (at m s.user page) (h.apart page l))
