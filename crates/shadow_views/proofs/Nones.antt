-- Words that are 0, two by two.
use Rattle.std.proofs.Common.{◌≡◌, ℕ, zero, suc, ◌+◌, ◌-◌, ◌*◌, ◌/◌, ◌<◌, ◌≤◌, List, true, false, eqb, sym, ap, ◌∙◌, inl, inr, lit≤, lit<, arith}
use Rattle.std.proofs.lemmas.Bool.{cases_lt}
use Rattle.std.proofs.lemmas.Bool.Decides.{eqb_tells}
use Rattle.std.specs.Int.{w64, from_le_bytes}
use Rattle.guest_ram.specs.Bytes.{part, byte, word32}
use Rattle.guest_ram.proofs.Bytes.{word32-part, word32-is}
use Rattle.frame_pool.specs.declared.Pool.{Pool}
use Rattle.frame_pool.specs.Held.{Owns}
use Rattle.frame_pool.proofs.Held.{Owns-moves}
use Rattle.shadow_views.specs.Tables.{dir, owned, IsIn, Closes, Empties}
use Rattle.shadow_views.proofs.Changes.{empties-more, zero-sum}

-- two words from this place on are 0
abbrev pub IsNoneAt : List ℕ → ℕ → Type 0
IsNoneAt m a = (k : ℕ) → k < 2 → word32 m (a + 4 * k) ≡ 0

-- so they are where their eight bytes make 0
pub none-at : (m : List ℕ) (a : ℕ) → from_le_bytes w64 (part m a 8) ≡ 0 → IsNoneAt m a
unfolding byte
none-at m a e zero l =
    let p : List ℕ = part m a 8 in
    sym (word32-part m a 8 0 (lit≤ tt))
    ∙ zero-sum (word32 p 0) _ _ _ _ (word32-is p 0) (omega (arith, e)) (omega (arith, e)) (omega (arith, e)) (omega (arith, e))
none-at m a e (suc zero) l =
    let p : List ℕ = part m a 8 in
    sym (word32-part m a 8 4 (lit≤ tt))
    ∙ zero-sum (word32 p 4) _ _ _ _ (word32-is p 4) (omega (arith, e)) (omega (arith, e)) (omega (arith, e)) (omega (arith, e))
none-at m a e (suc (suc k)) l = absurd (omega (arith, l))

-- and where they are, the eight bytes make 0
pub none-makes : (m : List ℕ) (a : ℕ) → IsNoneAt m a → from_le_bytes w64 (part m a 8) ≡ 0
unfolding byte
none-makes m a h =
    let p : List ℕ = part m a 8 in
    let low : word32 p 0 ≡ 0 = word32-part m a 8 0 (lit≤ tt) ∙ h 0 (lit< tt) in
    let high : word32 p 4 ≡ 0 = word32-part m a 8 4 (lit≤ tt) ∙ h 1 (lit< tt) in
    omega (arith, low, high, word32-is p 0, word32-is p 4)

pub is-zero : (n w : ℕ) → w ≡ n → eqb w 0 ≡ true → n ≡ 0
is-zero n w e t = elim (eqb_tells w 0) [ inl u ↦ sym e ∙ u.1 | inr u ↦ absurd (let q : false ≡ true = sym u.0 ∙ t in cc) ]

pub zero-is : (n w : ℕ) → w ≡ n → n ≡ 0 → eqb w 0 ≡ true
zero-is n w e z = rw (e ∙ z)

-- the pair of words of a frame that isn't none at all, as two PDEs
pub dirs-there : (m : List ℕ) (r p d : ℕ) → p ≡ d / 2 → (IsNoneAt m (4096 * r + 8 * p) → ⊥)
    → dir m r (2 * (d / 2)) ≡ 0 → dir m r (2 * (d / 2) + 1) ≡ 0 → ⊥
unfolding dir
dirs-there m r p d e some low high =
    some λ k l.
    elim (cases_lt k 1) [
      | inl t ↦ ap (word32 m) (let a : 4096 * r + 8 * p + 4 * k ≡ 4096 * r + 4 * (2 * (d / 2)) = omega (arith, e, t) in a) ∙ low
      | inr t ↦ ap (word32 m) (let a : 4096 * r + 8 * p + 4 * k ≡ 4096 * r + 4 * (2 * (d / 2) + 1) = omega (arith, e, t, l) in a) ∙ high
    ]

pub pair-none : (m : List ℕ) (a f i j : ℕ) → a ≡ 4096 * f + 4 * i → IsNoneAt m a → i ≤ j → j < i + 2 → word32 m (4096 * f + 4 * j) ≡ 0
pair-none m a f i j s h low high =
    let e : a + 4 * (j - i) ≡ 4096 * f + 4 * j = omega (arith, s, low) in
    ap (word32 m) (sym e) ∙ h (j - i) (omega (arith, low, high))

-- words of a frame that are 0
abbrev pub AreNone : List ℕ → ℕ → ℕ → ℕ → Type 0
AreNone m f first last = (j : ℕ) → first ≤ j → j < last → word32 m (4096 * f + 4 * j) ≡ 0

-- and two more
pub none-pairs : (m : List ℕ) (f first pair : ℕ) → IsNoneAt m (4096 * f + 8 * pair) → AreNone m f first (2 * pair)
    → AreNone m f first (2 * (pair + 1))
none-pairs m f first pair n h j low high =
    elim (cases_lt j (2 * pair)) [
      | inl t ↦ h j low t
      | inr t ↦ pair-none m (4096 * f + 8 * pair) f (2 * pair) j (omega arith) n t (omega (arith, high))
    ]

-- so many PDEs are
abbrev pub NoDirs : List ℕ → ℕ → ℕ → ℕ → Type 0
NoDirs m r first last = (d : ℕ) → first ≤ d → d < last → dir m r d ≡ 0

pub none-dirs : (m : List ℕ) (r first last : ℕ) → AreNone m r first last → NoDirs m r first last
unfolding dir
none-dirs m r first last h d low high = h d low high

-- a view that has given back the tables before them has given back theirs too
pub empties-over : (p q : Pool) (m n rs : List ℕ) (r first last : ℕ) → Empties p q m n rs r first → NoDirs n r first last
    → Empties p q m n rs r last
empties-over p q m n rs r first last e h =
    record {
      moves = e.moves;
      gone = λ d l. elim (cases_lt d first) [ inl t ↦ e.gone d t | inr t ↦ h d t l ];
      dirs = e.dirs;
    }

-- and once one more is closed, one more
pub emptied-more : (p q t : Pool) (m n k : List ℕ) (r d : ℕ) → d < 1024
    → ((rs : List ℕ) → Owns p m (owned m rs) → IsIn r rs → Empties p q m n rs r d)
    → ((rs : List ℕ) → Owns q n (owned n rs) → IsIn r rs → Closes q t n k rs r d) → (rs : List ℕ) → Owns p m (owned m rs) → IsIn r rs
    → Empties p t m k rs r (d + 1)
emptied-more p q t m n k r d l before closes rs o i =
    let e = before rs o i in
    empties-more p q t m n k rs r d l i e (closes rs (Owns-moves p q m n (owned m rs) (owned n rs) o e.moves) i)
