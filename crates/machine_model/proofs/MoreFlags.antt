-- Flags that come on in words, and the rest of memory.
use Rattle.std.proofs.Common.{◌≡◌, ℕ, ◌+◌, ◌*◌, ◌/◌, ◌%◌, ◌<◌, ◌≤◌, List, [], length, Bool, true, false, cond, ◌==◌, refl, sym, ap, subst, ◌∙◌, inl, inr, arith}
use Rattle.std.specs.Prelude.{bit_or, bit_and}
use Rattle.std.specs.Int.Bits.{or_add_and}
use Rattle.std.specs.List.{Contains}
use Rattle.std.proofs.lemmas.Nat.{and_shr, and_mod, and_mask, and_le_r}
use Rattle.std.proofs.lemmas.Nat.Bits.{and_pow}
use Rattle.std.proofs.lemmas.List.{places}
use Rattle.std.proofs.lemmas.Bool.{cases_lt, eqb-true, eq-eqb, eqb-false}
use Rattle.guest_ram.specs.Bytes.{byte, word32, with_byte, with_part}
use Rattle.guest_ram.proofs.Bytes.{byte-with_byte, byte-with_part_above, word32-is}
use Rattle.paging.specs.Fresh.{has, flagged}
use Rattle.machine_model.specs.Reloading.{HasMoreFlags, MemoryFollows}

-- ---- numbers

pub flags_same : (w : ℕ) → HasMoreFlags w w
flags_same w = record { low = refl; high = refl; accessed = λ e. e; dirty = λ e. e }

pub flags_by : (w x : ℕ) → x ≡ w → HasMoreFlags w x
flags_by w x e = subst (HasMoreFlags w) (sym e) (flags_same w)

pub flags_on : (w x y : ℕ) → HasMoreFlags w x → HasMoreFlags x y → HasMoreFlags w y
flags_on w x y h k =
    record { low = k.low ∙ h.low; high = k.high ∙ h.high; accessed = λ e. k.accessed (h.accessed e); dirty = λ e. k.dirty (h.dirty e) }

or_32 : (n : ℕ) → bit_or n 32 + n / 32 % 2 * 32 ≡ n + 32
or_32 n = let a = or_add_and n 32 in let b : bit_and n 32 ≡ n / 32 % 2 * 32 = and_pow n 5 in omega (arith, a, b)

or_96 : (n : ℕ) → bit_or n 96 + n / 32 % 4 * 32 ≡ n + 96
or_96 n =
    let a = or_add_and n 96 in
    let high : bit_and n 96 / 32 ≡ bit_and (n / 32) 3 = and_shr n 96 5 in
    let mask : bit_and (n / 32) 3 ≡ n / 32 % 4 = and_mask (n / 32) 2 in
    let low : bit_and n 96 % 32 ≡ bit_and (n % 32) 0 = and_mod n 96 5 in
    let none = and_le_r (n % 32) 0 in
    omega (arith, a, high, mask, low, none)

-- the flags of a read, and of a write
abbrev pub flags_of : Bool → ℕ
flags_of write = cond write 96 32

pub marked_byte : (write : Bool) (n : ℕ) → HasMoreFlags n (bit_or n (flags_of write))
marked_byte true n =
    let e = or_96 n in
    record {
      low = omega (arith, e);
      high = omega (arith, e);
      accessed = λ d. eq-eqb (bit_or n 96 / 32 % 2) 1 (omega (arith, e));
      dirty = λ d. eq-eqb (bit_or n 96 / 64 % 2) 1 (omega (arith, e));
    }
marked_byte false n =
    let e = or_32 n in
    record {
      low = omega (arith, e);
      high = omega (arith, e);
      accessed = λ d. eq-eqb (bit_or n 32 / 32 % 2) 1 (omega (arith, e));
      dirty = λ d. let f = eqb-true (n / 64 % 2) 1 d in eq-eqb (bit_or n 32 / 64 % 2) 1 (omega (arith, e, f));
    }

pub marked_accessed : (write : Bool) (n : ℕ) → has (bit_or n (flags_of write)) 32 ≡ true
marked_accessed true n = let e = or_96 n in eq-eqb (bit_or n 96 / 32 % 2) 1 (omega (arith, e))
marked_accessed false n = let e = or_32 n in eq-eqb (bit_or n 32 / 32 % 2) 1 (omega (arith, e))

pub marked_dirty : (n : ℕ) → has (bit_or n 96) 64 ≡ true
marked_dirty n = let e = or_96 n in eq-eqb (bit_or n 96 / 64 % 2) 1 (omega (arith, e))

-- ---- words by their lowest byte

has_32 : (b r w : ℕ) → w ≡ b + 256 * r → has w 32 ≡ has b 32
has_32 b r w e = ap (λ n. n == 1) (let g : w / 32 % 2 ≡ b / 32 % 2 = omega (arith, e) in g)

has_64 : (b r w : ℕ) → w ≡ b + 256 * r → has w 64 ≡ has b 64
has_64 b r w e = ap (λ n. n == 1) (let g : w / 64 % 2 ≡ b / 64 % 2 = omega (arith, e) in g)

lifted : (b v r w x : ℕ) → w ≡ b + 256 * r → x ≡ v + 256 * r → HasMoreFlags b v → HasMoreFlags w x
lifted b v r w x e f h =
    let low = h.low in
    let high = h.high in
    record {
      low = omega (arith, e, f, low);
      high = omega (arith, e, f, high);
      accessed = λ d. has_32 v r x f ∙ h.accessed (sym (has_32 b r w e) ∙ d);
      dirty = λ d. has_64 v r x f ∙ h.dirty (sym (has_64 b r w e) ∙ d);
    }

abbrev above : List ℕ → ℕ → ℕ
above m a = byte m (a + 1) + byte m (a + 2) * 256 + byte m (a + 3) * 65536

word_is : (m : List ℕ) (a : ℕ) → word32 m a ≡ byte m a + 256 * above m a
word_is m a = let w = word32-is m a in omega (arith, w)

-- ---- memory with a byte changed

pub long_with : (x : List ℕ) (p v : ℕ) → length x ≤ length (with_byte x p v)
unfolding with_byte with_part
long_with x p v = grind (arith, places)

byte_below : (x : List ℕ) (p v k : ℕ) → k < length x → k < p → byte (with_byte x p v) k ≡ byte x k
unfolding with_byte with_part byte
byte_below x p v k lt below = grind (arith, places)

byte_above : (x : List ℕ) (p v k : ℕ) → k < length x → p + 1 ≤ k → byte (with_byte x p v) k ≡ byte x k
unfolding with_byte
byte_above x p v k lt up = byte-with_part_above x p _ k (omega (arith, lt, up)) up

pub byte_other : (x : List ℕ) (p v k : ℕ) → k < length x → (k ≡ p → ⊥) → byte (with_byte x p v) k ≡ byte x k
byte_other x p v k lt other =
    elim (cases_lt k p) [
      | inl below ↦ byte_below x p v k lt below
      | inr not ↦ byte_above x p v k lt (omega (arith, not, other))
    ]

-- ---- memory that follows

pub memory_same : (wrote : List ℕ) (x : List ℕ) → MemoryFollows wrote x x
memory_same wrote x = record { long = omega arith; words = λ at even room free. flags_same (word32 x at) }

pub memory_on : (w v : List ℕ) (x y z : List ℕ) → ((frame : ℕ) → Contains w frame → Contains v frame) → MemoryFollows w x y
    → MemoryFollows v y z → MemoryFollows v x z
memory_on w v x y z more h k =
    let one = h.long in
    let two = k.long in
    record {
      long = omega (arith, one, two);
      words = λ at even room free.
          flags_on (word32 x at) (word32 y at) (word32 z at)
          (h.words at even room (λ c. free (more (at / 4096) c)))
          (k.words at even (omega (arith, room, one)) free);
    }

-- a byte that has flags more, the lowest of a word
pub one_marked : (w : List ℕ) (x : List ℕ) (p v : ℕ) → p % 4 ≡ 0 → HasMoreFlags (byte x p) v → MemoryFollows w x (with_byte x p v)
one_marked w x p v aligned h = record { long = long_with x p v; words = λ at even room free. by_place at even room (at == p) refl }
  where
    higher : (at : ℕ) → at % 4 ≡ 0 → at + 4 ≤ length x → above (with_byte x p v) at ≡ above x at
    higher at even room =
        let one = byte_other x p v (at + 1) (omega (arith, room)) (λ g. omega (arith, g, even, aligned)) in
        let two = byte_other x p v (at + 2) (omega (arith, room)) (λ g. omega (arith, g, even, aligned)) in
        let three = byte_other x p v (at + 3) (omega (arith, room)) (λ g. omega (arith, g, even, aligned)) in
        omega (arith, one, two, three)

    by_place : (at : ℕ) → at % 4 ≡ 0 → at + 4 ≤ length x → (same : Bool) → (at == p) ≡ same
        → HasMoreFlags (word32 x at) (word32 (with_byte x p v) at)
    by_place at even room true e =
        let is = eqb-true at p e in
        let now : byte (with_byte x p v) at ≡ v = ap (byte (with_byte x p v)) is ∙ byte-with_byte x p v (omega (arith, room, is)) in
        let rest = higher at even room in
        let new = word_is (with_byte x p v) at in
        let f : word32 (with_byte x p v) at ≡ v + 256 * above x at = omega (arith, new, now, rest) in
        lifted (byte x at) v (above x at) (word32 x at) (word32 (with_byte x p v) at) (word_is x at) f
        (subst (λ n. HasMoreFlags (byte x n) v) (sym is) h)
    by_place at even room false e =
        let now = byte_other x p v at (omega (arith, room)) (eqb-false at p e) in
        let rest = higher at even room in
        let old = word_is x at in
        let new = word_is (with_byte x p v) at in
        flags_by (word32 x at) (word32 (with_byte x p v) at) (omega (arith, now, rest, old, new))

-- the flags of a word by its lowest byte
pub word_has_32 : (m : List ℕ) (a : ℕ) → has (word32 m a) 32 ≡ has (byte m a) 32
word_has_32 m a = has_32 (byte m a) (above m a) (word32 m a) (word_is m a)

pub word_has_64 : (m : List ℕ) (a : ℕ) → has (word32 m a) 64 ≡ has (byte m a) 64
word_has_64 m a = has_64 (byte m a) (above m a) (word32 m a) (word_is m a)

-- ---- what a walk sets

module _ (x : List ℕ) (d t : ℕ) (write : Bool) (d_even : d % 4 ≡ 0) (t_even : t % 4 ≡ 0) where
  abbrev marked : List ℕ
  marked = with_byte x d (bit_or (byte x d) 32)

  abbrev final : List ℕ
  final = with_byte marked t (bit_or (byte marked t) (flags_of write))

  second : (w : List ℕ) → MemoryFollows w marked final
  second w = one_marked w marked t (bit_or (byte marked t) (flags_of write)) t_even (marked_byte write (byte marked t))

  pub flagged_follows : (w : List ℕ) → MemoryFollows w x (flagged x d t write)
  unfolding flagged
  flagged_follows w =
      memory_on w w x marked final (λ f c. c) (one_marked w x d (bit_or (byte x d) 32) d_even (marked_byte false (byte x d))) (second w)

  -- both words have the accessed flag then
  pub flagged_dir : d + 4 ≤ length x → has (word32 (flagged x d t write) d) 32 ≡ true
  unfolding flagged
  flagged_dir room =
      let lt : d < length x = omega (arith, room) in
      let long = long_with x d (bit_or (byte x d) 32) in
      let now : byte marked d ≡ bit_or (byte x d) 32 = byte-with_byte x d _ lt in
      let first : has (word32 marked d) 32 ≡ true = word_has_32 marked d ∙ (ap (λ n. has n 32) now ∙ marked_accessed false (byte x d)) in
      ((second []).words d d_even (omega (arith, room, long)) none).accessed first
    where
      none : Contains [] (d / 4096) → ⊥
      none c = let lt = c.1 in omega (arith, lt)

  pub flagged_word : t + 4 ≤ length x → has (word32 (flagged x d t write) t) 32 ≡ true
  unfolding flagged
  flagged_word room =
      let long = long_with x d (bit_or (byte x d) 32) in
      let now : byte final t ≡ bit_or (byte marked t) (flags_of write) = byte-with_byte marked t _ (omega (arith, room, long)) in
      word_has_32 final t ∙ (ap (λ n. has n 32) now ∙ marked_accessed write (byte marked t))

  -- and the second the dirty flag, where it was a write
  pub flagged_dirty : write ≡ true → t + 4 ≤ length x → has (word32 (flagged x d t write) t) 64 ≡ true
  unfolding flagged
  flagged_dirty is room =
      let long = long_with x d (bit_or (byte x d) 32) in
      let now : byte final t ≡ bit_or (byte marked t) (flags_of write) = byte-with_byte marked t _ (omega (arith, room, long)) in
      word_has_64 final t ∙ (ap (λ n. has n 64) now
      ∙ (ap (λ w. has (bit_or (byte marked t) (flags_of w)) 64) is ∙ marked_dirty (byte marked t)))

  -- and nothing else changes
  pub flagged_other : (k : ℕ) → k < length x → (k ≡ d → ⊥) → (k ≡ t → ⊥) → byte (flagged x d t write) k ≡ byte x k
  unfolding flagged
  flagged_other k lt not_dir not_word =
      let long = long_with x d (bit_or (byte x d) 32) in
      byte_other marked t (bit_or (byte marked t) (flags_of write)) k (omega (arith, lt, long)) not_word
      ∙ byte_other x d (bit_or (byte x d) 32) k lt not_dir
