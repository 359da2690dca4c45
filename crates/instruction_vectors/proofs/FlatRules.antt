-- A flat memory after a number was written.
use Rattle.std.proofs.Common.{◌≡◌, ℕ, ◌+◌, ◌-◌, ◌/◌, ◌%◌, ◌^◌, ◌*◌, ◌<◌, ◌≤◌, cond, List, length, refl, ap, ◌∙◌, arith}
use Rattle.std.specs.Prelude.{slice_index, slice_set, ◌==◌}
use Rattle.std.proofs.Math.Path.{fun_ext}
use Rattle.std.proofs.Math.ListN.{length-set}
use Rattle.std.proofs.lemmas.Grind.{common_steps}
use Rattle.std.proofs.lemmas.Bool.Decides.{nat_tests}
use Rattle.ia32_types.specs.declared.size.Size.{Size}
use Rattle.ia32_types.specs.declared.size.Size.TheVariants.{Byte, Word, Long}
use Rattle.ia32_types.specs.Size.{width}
use Rattle.ia32_exec.specs.Memory.{store}
use Rattle.ia32_exec.specs.Stored.{with_byte, with_bytes, stored}
use Rattle.instruction_vectors.specs.Flat.{put, byte_at, is_same}

set_reads : (bs : List ℕ) (i v x : ℕ) → i < length bs → slice_index (slice_set bs i v) x ≡ cond (i == x) v (slice_index bs x)
set_reads bs i v x lt = grind (arith, nat_tests, common_steps)

-- one byte more
one : (bs : List ℕ) (b : ℕ → ℕ) (at k v : ℕ) → 65536 ≤ at → at - 65536 + k < length bs → byte_at bs ≡ b
    → byte_at (slice_set bs (at - 65536 + k) v) ≡ with_byte is_same b (at + k) v
one bs b at k v low lt e = fun_ext (λ x.
    let place : at - 65536 + k ≡ at + k - 65536 = omega arith in
    set_reads bs (at - 65536 + k) v (x - 65536) lt
    ∙ (ap (λ (n : ℕ). cond (n == x - 65536) v (slice_index bs (x - 65536))) place
    ∙ ap (λ (f : ℕ → ℕ). cond (at + k - 65536 == x - 65536) v (f x)) e))

first : (bs : List ℕ) (at v : ℕ) → slice_set bs (at - 65536) (v % 2 ^ 8) ≡ slice_set bs (at - 65536 + 0) (v / 2 ^ (8 * 0) % 2 ^ 8)
first bs at v =
    let whole : v ≡ v / 2 ^ (8 * 0) = omega arith in
    let here : at - 65536 ≡ at - 65536 + 0 = omega arith in
    ap (λ (n : ℕ). slice_set bs n (v % 2 ^ 8)) here ∙ ap (λ (n : ℕ). slice_set bs (at - 65536 + 0) (n % 2 ^ 8)) whole

kept : (bs : List ℕ) (i v n : ℕ) → n < length bs → n < length (slice_set bs i v)
kept bs i v n lt = omega (arith, length-set {A = ℕ})

by_one : (bs : List ℕ) (at v : ℕ) → 65536 ≤ at → at - 65536 < length bs → byte_at (put Byte (at - 65536) v bs) ≡ with_bytes
    is_same 1 at v (byte_at bs)
unfolding with_bytes
by_one bs at v low lt = ap byte_at (first bs at v) ∙ one bs (byte_at bs) at 0 (v / 2 ^ (8 * 0) % 2 ^ 8) low (omega arith) refl

by_two : (bs : List ℕ) (at v : ℕ) → 65536 ≤ at → at - 65536 + 1 < length bs → byte_at (put Word (at - 65536) v bs) ≡ with_bytes
    is_same 2 at v (byte_at bs)
unfolding with_bytes
by_two bs at v low lt = one (put Byte (at - 65536) v bs) _ at 1 (v / 2 ^ 8 % 2 ^ 8) low
    (kept bs (at - 65536) (v % 2 ^ 8) (at - 65536 + 1) lt) (by_one bs at v low (omega arith))

by_four : (bs : List ℕ) (at v : ℕ) → 65536 ≤ at → at - 65536 + 3 < length bs → byte_at (put Long (at - 65536) v bs) ≡ with_bytes
    is_same 4 at v (byte_at bs)
unfolding with_bytes
by_four bs at v low lt =
    let n : ℕ = at - 65536 in
    let two : List ℕ = put Word n v bs in
    let three : List ℕ = slice_set two (n + 2) (v / 2 ^ 16 % 2 ^ 8) in
    let same_length : length two ≡ length bs = omega (arith, length-set {A = ℕ}) in
    let longer : length three ≡ length bs = omega (arith, length-set {A = ℕ}) in
    one three _ at 3 (v / 2 ^ 24 % 2 ^ 8) low (omega arith)
    (one two _ at 2 (v / 2 ^ 16 % 2 ^ 8) low (omega arith) (by_two bs at v low (omega arith)))

pub put_stored : (s : Size) (bs : List ℕ) (at v : ℕ) → 65536 ≤ at → at - 65536 + width s / 8 ≤ length bs
    → byte_at (put s (at - 65536) v bs) ≡ stored is_same (store at s v) (byte_at bs)
put_stored Byte bs at v low inside = by_one bs at v low (omega arith)
put_stored Word bs at v low inside = by_two bs at v low (omega arith)
put_stored Long bs at v low inside = by_four bs at v low (omega arith)

-- the bytes of a number that may be written are among the 256
pub lies_in : (s : Size) (at : ℕ) → ((k : ℕ) → k < width s / 8 → (65536 ≤ at + k) × (at + k < 65792)) → (65536 ≤ at)
    × (at - 65536 + width s / 8 ≤ 256)
lies_in Byte at h = let first = h 0 (omega arith) in (omega (arith, first), omega (arith, first))
lies_in Word at h = let first = h 0 (omega arith) in let last = h 1 (omega arith) in (omega (arith, first), omega (arith, first, last))
lies_in Long at h = let first = h 0 (omega arith) in let last = h 3 (omega arith) in (omega (arith, first), omega (arith, first, last))
