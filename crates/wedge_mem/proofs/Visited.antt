-- The pages that a step changed are some of those that it went through.
use Rattle.std.proofs.Common.{◌≡◌, ℕ, ◌+◌, List, [], ◌∷◌, ◌++◌, append_assoc, append-nil, length, map, Bool, true, false, not, cond, eqb, ◌&&◌, ◌||◌, Option, refl, sym, ap, ◌∙◌, subst, inl, inr, arith}
use Rattle.std.proofs.lemmas.Bool.{or_right}
use Rattle.std.proofs.lemmas.Bool.Decides.{eqb_tells}
use Rattle.std.specs.FinMap.{FinMap, get}
use Rattle.std.specs.Ordering.{nat_cmp}
use Rattle.std.proofs.Math.Bool.{or-false}
use Rattle.paging.specs.declared.entry.Entry.{Entry}
use Rattle.guest_ram.specs.Among.{is_among}
use Rattle.shadow_tables.specs.Slots.{Slot}
use Rattle.shadow_tables.specs.declared.words.Side.{Side}
use Rattle.shadow_tables.proofs.OtherRoots.{among-append}
use Rattle.step_mem.specs.Changes.{AreToldIn, page_of}
use Rattle.step_mem.specs.declared.changes.Change.{Change}
use Rattle.wedge_mem.specs.Settled.{Fills, has_entry, pages_of, used}
use Rattle.wedge_mem.proofs.Lists.{used-cons}

-- ---- a page more after the others: it counts where it isn't one of them

none : (h : Bool) → cond {A = ℕ} (h && false) 1 0 ≡ 0
none true = refl
none false = refl

sum-same : (h t a s : Bool) (l r n m : ℕ) → l ≡ cond (h && not a) 1 0 + m → m ≡ n + cond (h && not t) 1 0 → r ≡ cond (h && not t) 1 0 + n
    → a ≡ true → s ≡ true → l ≡ r + cond (h && not s) 1 0
sum-same h t a s l r n m e f g p q =
    let x = ap (λ (b : Bool). cond {A = ℕ} (h && not b) 1 0) p in
    let y = ap (λ (b : Bool). cond {A = ℕ} (h && not b) 1 0) q in
    let z = none h in
    omega (arith, e, f, g, x, y, z)

sum-other : (hy hx ty tx a s : Bool) (l r n m : ℕ) → l ≡ cond (hy && not a) 1 0 + m → m ≡ n + cond (hx && not tx) 1 0
    → r ≡ cond (hy && not ty) 1 0 + n → a ≡ ty → s ≡ tx → l ≡ r + cond (hx && not s) 1 0
sum-other hy hx ty tx a s l r n m e f g p q =
    let x = ap (λ (b : Bool). cond {A = ℕ} (hy && not b) 1 0) p in
    let y = ap (λ (b : Bool). cond {A = ℕ} (hx && not b) 1 0) q in
    omega (arith, e, f, g, x, y)

self : (x : ℕ) → eqb x x ≡ true
self x = elim (eqb_tells x x) [ inl t ↦ t.0 | inr n ↦ absurd (n.1 refl) ]

other-way : (x y : ℕ) → (x ≡ y → ⊥) → eqb y x ≡ false
other-way x y n = elim (eqb_tells y x) [ inl t ↦ absurd (n (sym t.1)) | inr f ↦ f.0 ]

module _ (set : FinMap nat_cmp Entry) where
  abbrev Behind : ℕ → List ℕ → Type 0
  Behind x pages =
      length (used set (pages ++ x ∷ [])) ≡ length (used set pages) + cond (has_entry (get set x) && not (is_among x pages)) 1 0

  behind-same : (y : ℕ) (ys : List ℕ) → Behind y ys → Behind y (y ∷ ys)
  behind-same y ys ih =
      sum-same (has_entry (get set y)) (is_among y ys) (is_among y (ys ++ y ∷ [])) (is_among y (y ∷ ys)) _ _ (length (used set ys))
      (length (used set (ys ++ y ∷ [])))
      (used-cons set y (ys ++ y ∷ [])) ih (used-cons set y ys)
      (among-append y ys (y ∷ []) ∙ or_right (is_among y ys) (eqb y y || false) (ap (λ (b : Bool). b || false) (self y)))
      (ap (λ (b : Bool). b || is_among y ys) (self y))

  behind-other : (x y : ℕ) (ys : List ℕ) → Behind x ys → (x ≡ y → ⊥) → eqb x y ≡ false → Behind x (y ∷ ys)
  behind-other x y ys ih n f =
      sum-other (has_entry (get set y)) (has_entry (get set x)) (is_among y ys) (is_among x ys) (is_among y (ys ++ x ∷ []))
      (is_among x (y ∷ ys)) _ _ (length (used set ys)) (length (used set (ys ++ x ∷ [])))
      (used-cons set y (ys ++ x ∷ [])) ih (used-cons set y ys)
      (among-append y ys (x ∷ []) ∙ (ap (λ (b : Bool). is_among y ys || (b || false)) (other-way x y n) ∙ or-false (is_among y ys)))
      (ap (λ (b : Bool). b || is_among x ys) f)

  behind : (x : ℕ) (pages : List ℕ) → Behind x pages
  behind x [] = let e = used-cons set x [] in omega (arith, e)
  behind x (y ∷ ys) =
      elim (eqb_tells x y) [
        | inl t ↦ subst (λ (z : ℕ). Behind x (z ∷ ys)) t.1 (behind-same x ys (behind x ys))
        | inr n ↦ behind-other x y ys (behind x ys) n.1 n.0
      ]

  counted-none : (h t : Bool) → t ≡ true → cond {A = ℕ} (h && not t) 1 0 ≡ 0
  counted-none h t e = ap (λ (b : Bool). cond {A = ℕ} (h && not b) 1 0) e ∙ none h

  left : (a b : Bool) → a ≡ true → (a || b) ≡ true
  left a b e = ap (λ (x : Bool). x || b) e

  -- those that come after are among the first
  used-told : (pages more : List ℕ) → ((q : ℕ) → is_among q more ≡ true → is_among q pages ≡ true)
      → length (used set (pages ++ more)) ≡ length (used set pages)
  used-told pages [] h = ap (λ (ys : List ℕ). length (used set ys)) (append-nil pages)
  used-told pages (x ∷ more) h =
      let here : is_among x pages ≡ true = h x (left (eqb x x) (is_among x more) (self x)) in
      let rest = used-told (pages ++ x ∷ []) more
      (λ q t. among-append q pages (x ∷ []) ∙ left (is_among q pages) (is_among q (x ∷ []))
      (h q (or_right (eqb q x) (is_among q more) t))) in
      let last = behind x pages in
      let gone = counted-none (has_entry (get set x)) (is_among x pages) here in
      let place = ap (λ (ys : List ℕ). length (used set ys)) (append_assoc pages (x ∷ []) more) in
      omega (arith, rest, last, gone, place)

  pub used-visited : (visited : List ℕ) (changes : List Change) → AreToldIn visited changes
      → length (used set (pages_of visited changes)) ≡ length (used set visited)
  used-visited visited changes told = used-told visited (map page_of changes) told

-- ---- what is filled of the pages that it went through

absorb : (a b : Bool) → (b ≡ true → a ≡ true) → (a || b) ≡ a
absorb true b h = refl
absorb false true h = sym (h refl)
absorb false false h = refl

pub among-visited : (visited : List ℕ) (changes : List Change) → AreToldIn visited changes → (q : ℕ)
    → is_among q (pages_of visited changes) ≡ is_among q visited
among-visited visited changes told q =
    let changed : List ℕ = map page_of changes in
    among-append q visited changed ∙ absorb (is_among q visited) (is_among q changed) (told q)

pub fills-visited : (old new : ℕ → Option Slot) (set : FinMap nat_cmp Entry) (visited : List ℕ) (changes : List Change) (side : Side)
    (wp : Bool) (write_protected : List ℕ)
    → AreToldIn visited changes → Fills old new set visited side wp write_protected
    → Fills old new set (pages_of visited changes) side wp write_protected
fills-visited old new set visited changes side wp write_protected told f = record {
  through = λ page small there. f.through page small (sym (among-visited visited changes told page) ∙ there);
  others = λ page small none. f.others page small (sym (among-visited visited changes told page) ∙ none);
}
