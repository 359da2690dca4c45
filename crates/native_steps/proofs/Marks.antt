-- The flags that walks set change no frame, no size and no right.
use Rattle.std.proofs.Common.{◌≡◌, ℕ, zero, suc, ◌+◌, ◌*◌, ◌/◌, ◌%◌, ◌<◌, ◌≤◌, List, length, Bool, true, false, cond, ◌&&◌, ◌==◌, refl, sym, ap, subst, ◌∙◌, ◌⊎◌, inl, inr, arith}
use Rattle.std.specs.Prelude.{bit_or}
use Rattle.std.proofs.lemmas.Bool.{cases_lt, and_parts, eqb-true, eq-eqb, both_ways}
use Rattle.guest_ram.specs.Bytes.{AreBytes, byte, word32, with_byte}
use Rattle.guest_ram.proofs.Bytes.{byte-with_byte, byte-with_part_below, byte-with_part_above, length-with_byte, word32-is, byte_lt}
use Rattle.paging.specs.Fresh.{has, flagged}

-- ---- bytes with a flag more

all_below : (ℕ → Bool) → ℕ → Bool
all_below test zero = true
all_below test (suc n) = test n && all_below test n

told_below : (test : ℕ → Bool) (n k : ℕ) → k < n → all_below test n ≡ true → test k ≡ true
unfolding all_below
told_below test zero k lt e = absurd (omega (arith, lt))
told_below test (suc n) k lt e =
    let p = and_parts (test n) (all_below test n) e in
    elim (cases_lt k n) [
      | inl below ↦ told_below test n k below p.1
      | inr above ↦ let is : n ≡ k = omega (arith, above, lt) in ap test (sym is) ∙ p.0
    ]

all_accessed : all_below (λ n. bit_or n 32 == n % 32 + 32 + n / 64 * 64) 256 ≡ true
unfolding all_below
all_accessed = refl

all_dirtied : all_below (λ n. bit_or n 96 == n % 32 + 96 + n / 128 * 128) 256 ≡ true
unfolding all_below
all_dirtied = refl

pub or_32 : (n : ℕ) → n < 256 → bit_or n 32 ≡ n % 32 + 32 + n / 64 * 64
or_32 n lt =
    eqb-true (bit_or n 32) (n % 32 + 32 + n / 64 * 64) (told_below (λ k. bit_or k 32 == k % 32 + 32 + k / 64 * 64) 256 n lt all_accessed)

pub or_96 : (n : ℕ) → n < 256 → bit_or n 96 ≡ n % 32 + 96 + n / 128 * 128
or_96 n lt =
    eqb-true (bit_or n 96) (n % 32 + 96 + n / 128 * 128) (told_below (λ k. bit_or k 96 == k % 32 + 96 + k / 128 * 128) 256 n lt all_dirtied)

-- a byte in which flags were set
pub record IsMark (b v : ℕ) : Type 0 where
  pub old : b < 256
  pub new : v < 256
  pub low : v % 32 ≡ b % 32
  pub high : v / 128 ≡ b / 128
  pub dirty : b / 64 % 2 ≡ 1 → v / 64 % 2 ≡ 1

-- the flags of a read, and of a write
abbrev pub flags_of : Bool → ℕ
flags_of write = cond write 96 32

mark_is : (write : Bool) (b : ℕ) → b < 256 → IsMark b (bit_or b (flags_of write))
mark_is true b lt =
    let e = or_96 b lt in
    record { old = lt; new = omega (arith, e, lt); low = omega (arith, e); high = omega (arith, e, lt); dirty = λ d. omega (arith, e, d) }
mark_is false b lt =
    let e = or_32 b lt in
    record { old = lt; new = omega (arith, e, lt); low = omega (arith, e); high = omega (arith, e, lt); dirty = λ d. omega (arith, e, d) }

-- a byte that has them stays
pub has_them : (write : Bool) (b : ℕ) → b < 256 → has b 32 ≡ true → (write ≡ true → has b 64 ≡ true) → bit_or b (flags_of write) ≡ b
has_them true b lt h k =
    let e = or_96 b lt in
    let five : b / 32 % 2 ≡ 1 = eqb-true (b / 32 % 2) 1 h in
    let six : b / 64 % 2 ≡ 1 = eqb-true (b / 64 % 2) 1 (k refl) in
    e ∙ (let g : b % 32 + 96 + b / 128 * 128 ≡ b = omega (arith, five, six) in g)
has_them false b lt h k =
    let e = or_32 b lt in
    let five : b / 32 % 2 ≡ 1 = eqb-true (b / 32 % 2) 1 h in
    e ∙ (let g : b % 32 + 32 + b / 64 * 64 ≡ b = omega (arith, five) in g)

-- ---- words with flags more

pub record IsMarked (w x : ℕ) : Type 0 where
  pub low : x % 32 ≡ w % 32
  pub frame : x / 4096 ≡ w / 4096
  pub size : x / 128 % 2 ≡ w / 128 % 2
  pub dirty : w / 64 % 2 ≡ 1 → x / 64 % 2 ≡ 1

same_word : (w x : ℕ) → x ≡ w → IsMarked w x
same_word w x e = record {
  low = ap (λ n. n % 32) e;
  frame = ap (λ n. n / 4096) e;
  size = ap (λ n. n / 128 % 2) e;
  dirty = λ d. ap (λ n. n / 64 % 2) e ∙ d;
}

-- memory in which words have flags more
pub record AreMarked (ram new : List ℕ) : Type 0 where
  pub long : length new ≡ length ram
  pub each : (a : ℕ) → a % 4 ≡ 0 → a + 4 ≤ length ram → IsMarked (word32 ram a) (word32 new a)

pub marked_on : (x y z : List ℕ) → AreMarked x y → AreMarked y z → AreMarked x z
marked_on x y z h k = record {
  long = k.long ∙ h.long;
  each = λ a aligned room.
      let p = h.each a aligned room in
      let long = h.long in
      let q = k.each a aligned (omega (arith, long, room)) in
      record { low = q.low ∙ p.low; frame = q.frame ∙ p.frame; size = q.size ∙ p.size; dirty = λ d. q.dirty (p.dirty d) };
}

pub marked_same : (x : List ℕ) → AreMarked x x
marked_same x = record { long = refl; each = λ a aligned room. same_word (word32 x a) (word32 x a) refl }

pub byte_other : (x : List ℕ) (p v k : ℕ) → p < length x → (k ≡ p → ⊥) → byte (with_byte x p v) k ≡ byte x k
unfolding with_byte
byte_other x p v k lt other =
    elim (cases_lt k p) [
      | inl below ↦ byte-with_part_below x p _ k (omega (arith, lt)) below
      | inr above ↦ byte-with_part_above x p _ k (omega (arith, lt)) (omega (arith, above, other))
    ]

word_by : (x y : List ℕ) (a : ℕ) → byte y a ≡ byte x a → byte y (a + 1) ≡ byte x (a + 1) → byte y (a + 2) ≡ byte x (a + 2)
    → byte y (a + 3) ≡ byte x (a + 3) → word32 y a ≡ word32 x a
word_by x y a p q r s =
    let w = word32-is x a in
    let v = word32-is y a in
    omega (arith, w, v, p, q, r, s)

one_marked : (x : List ℕ) (p v : ℕ) → p % 4 ≡ 0 → p + 4 ≤ length x → IsMark (byte x p) v → AreMarked x (with_byte x p v)
one_marked x p v aligned room m = record {
  long = length-with_byte x p v (omega (arith, room));
  each = λ a even within. by_place a even within (a == p) refl;
} where
  in_bounds : p < length x
  in_bounds = omega (arith, room)

  by_place : (a : ℕ) → a % 4 ≡ 0 → a + 4 ≤ length x → (same : Bool) → (a == p) ≡ same → IsMarked (word32 x a) (word32 (with_byte x p v) a)
  by_place a even within true e =
      let is : a ≡ p = eqb-true a p e in
      let w = word32-is x a in
      let n = word32-is (with_byte x p v) a in
      let first : byte (with_byte x p v) a ≡ v = ap (byte (with_byte x p v)) is ∙ byte-with_byte x p v in_bounds in
      let old : byte x a ≡ byte x p = ap (byte x) is in
      let one = byte_other x p v (a + 1) in_bounds (λ g. omega (arith, g, is)) in
      let two = byte_other x p v (a + 2) in_bounds (λ g. omega (arith, g, is)) in
      let three = byte_other x p v (a + 3) in_bounds (λ g. omega (arith, g, is)) in
      let small = m.old in
      let fits = m.new in
      let low = m.low in
      let high = m.high in
      record {
        low = omega (arith, w, n, first, old, one, two, three, low);
        frame = omega (arith, w, n, first, old, one, two, three, small, fits);
        size = omega (arith, w, n, first, old, one, two, three, small, fits, high);
        dirty = λ d.
            let was : byte x p / 64 % 2 ≡ 1 = omega (arith, w, old, d) in
            let now = m.dirty was in
            omega (arith, n, first, now);
      }
  by_place a even within false e =
      let other : a ≡ p → ⊥ = λ g. both_ways (a == p) e (eq-eqb a p g) in
      same_word (word32 x a) (word32 (with_byte x p v) a) (word_by x (with_byte x p v) a
      (byte_other x p v a in_bounds other)
      (byte_other x p v (a + 1) in_bounds (λ g. omega (arith, g, even, aligned)))
      (byte_other x p v (a + 2) in_bounds (λ g. omega (arith, g, even, aligned)))
      (byte_other x p v (a + 3) in_bounds (λ g. omega (arith, g, even, aligned))))

pub bytes_with : (x : List ℕ) (p v : ℕ) → p < length x → AreBytes x → v < 256 → AreBytes (with_byte x p v)
bytes_with x p v lt h small = λ k.
    elim (cases_eq k p) [
      | inl is ↦ let e : byte (with_byte x p v) k ≡ v =
          ap (byte (with_byte x p v)) is ∙ byte-with_byte x p v lt in unbyte (with_byte x p v) k (omega (arith, e, small))
      | inr other ↦ let e = byte_other x p v k lt other in let b = byte_lt x k h in unbyte (with_byte x p v) k (omega (arith, e, b))
    ]
  where
    cases_eq : (k p : ℕ) → (k ≡ p) ⊎ (k ≡ p → ⊥)
    cases_eq k p = by_test (k == p) refl
      where
        by_test : (t : Bool) → (k == p) ≡ t → (k ≡ p) ⊎ (k ≡ p → ⊥)
        by_test true e = inl (eqb-true k p e)
        by_test false e = inr (λ g. both_ways (k == p) e (eq-eqb k p g))

    unbyte : (y : List ℕ) (k : ℕ) → byte y k < 256 → Rattle.std.specs.Prelude.slice_index y k < 256
    unbyte y k lt2 = unfold byte in lt2

-- ---- what a walk sets

module _ (x : List ℕ) (d t : ℕ) (write : Bool) (d_even : d % 4 ≡ 0) (t_even : t % 4 ≡ 0) (d_in : d + 4 ≤ length x) (t_in : t + 4 ≤ length x)
    (fit : AreBytes x) where
  first : List ℕ
  first = with_byte x d (bit_or (byte x d) 32)

  first_long : length first ≡ length x
  unfolding first
  first_long = length-with_byte x d _ (omega (arith, d_in))

  first_fit : AreBytes first
  unfolding first
  first_fit = bytes_with x d _ (omega (arith, d_in)) fit (mark_is false (byte x d) (byte_lt x d fit)).new

  first_marked : AreMarked x first
  unfolding first
  first_marked = one_marked x d _ d_even d_in (mark_is false (byte x d) (byte_lt x d fit))

  pub flagged_marked : AreMarked x (flagged x d t write)
  unfolding first flagged
  flagged_marked =
      let long = first_long in
      marked_on x first _ first_marked (one_marked first t (bit_or (byte first t) (flags_of write)) t_even (omega (arith, long, t_in))
      (mark_is write (byte first t) (byte_lt first t first_fit)))

  pub flagged_fit : AreBytes (flagged x d t write)
  unfolding first flagged
  flagged_fit =
      let long = first_long in
      bytes_with first t (bit_or (byte first t) (flags_of write)) (omega (arith, long, t_in)) first_fit
      (mark_is write (byte first t) (byte_lt first t first_fit)).new

  -- a write sets the dirty flag
  pub flagged_dirty : write ≡ true → word32 (flagged x d t write) t / 64 % 2 ≡ 1
  unfolding first flagged
  flagged_dirty e =
      let long = first_long in
      let lt : t < length first = omega (arith, long, t_in) in
      let b = byte first t in
      let or = or_96 b (byte_lt first t first_fit) in
      let is : byte (with_byte first t (bit_or (byte first t) (flags_of write))) t ≡ bit_or b 96 =
      byte-with_byte first t _ lt ∙ ap (λ (f : Bool). bit_or b (flags_of f)) e in
      let w = word32-is (with_byte first t (bit_or (byte first t) (flags_of write))) t in
      omega (arith, w, is, or)

  -- a byte that has the flags stays
  pub flagged_kept : (k : ℕ) → (k ≡ d → has (byte x k) 32 ≡ true)
      → (k ≡ t → (has (byte x k) 32 ≡ true) × (write ≡ true → has (byte x k) 64 ≡ true)) → byte (flagged x d t write) k ≡ byte x k
  unfolding first flagged
  flagged_kept k at_d at_t = second (k == t) refl
    where
      one_by : (same : Bool) → (k == d) ≡ same → byte (with_byte x d (bit_or (byte x d) 32)) k ≡ byte x k
      one_by true e =
          let is : k ≡ d = eqb-true k d e in
          ap (byte (with_byte x d (bit_or (byte x d) 32))) is ∙ byte-with_byte x d _ (omega (arith, d_in))
          ∙ has_them false (byte x d) (byte_lt x d fit) (subst (λ (n : ℕ). has (byte x n) 32 ≡ true) is (at_d is))
          (λ f. absurd (let g : false ≡ true = f in cc))
          ∙ ap (byte x) (sym is)
      one_by false e = byte_other x d _ k (omega (arith, d_in)) (λ g. both_ways (k == d) e (eq-eqb k d g))

      one : byte first k ≡ byte x k
      one = one_by (k == d) refl

      second : (same : Bool) → (k == t) ≡ same → byte (with_byte first t (bit_or (byte first t) (flags_of write))) k ≡ byte x k
      second true e =
          let is : k ≡ t = eqb-true k t e in
          let long = first_long in
          let had = at_t is in
          let same : byte first t ≡ byte x k = ap (byte first) (sym is) ∙ one in
          ap (byte (with_byte first t (bit_or (byte first t) (flags_of write)))) is ∙ byte-with_byte first t _ (omega (arith, long, t_in))
          ∙ has_them write (byte first t) (byte_lt first t first_fit) (ap (λ n. has n 32) same ∙ had.0)
          (λ f. ap (λ n. has n 64) same ∙ had.1 f)
          ∙ same
      second false e = let long =
          first_long in byte_other first t _ k (omega (arith, long, t_in)) (λ g. both_ways (k == t) e (eq-eqb k t g)) ∙ one
