-- The bytes of a memory in which accessed flags are set.
use Rattle.std.proofs.Common.{◌≡◌, ℕ, suc, ◌/◌, ◌%◌, ◌<◌, [], ◌∷◌, length, Bool, true, false, cond, ◌||◌, ◌==◌, refl, sym, ap, subst, ◌∙◌, arith, bit_or}
use Rattle.std.specs.List.{All}
use Rattle.std.proofs.lemmas.Bool.{eqb-true, eq-eqb, both_ways}
use Rattle.guest_ram.specs.Among.{is_among}
use Rattle.guest_ram.specs.Bytes.{byte, with_byte}
use Rattle.guest_ram.proofs.Bytes.{byte-with_byte, byte_lt, length-with_byte}
use Rattle.native_steps.specs.Looking.{MarksAreRead}
use Rattle.native_steps.proofs.Marks.{or_32, has_them, byte_other, bytes_with}

-- a flag that is set stays
again : (n : ℕ) → n < 256 → bit_or (bit_or n 32) 32 ≡ bit_or n 32
again n lt =
    let e = or_32 n lt in
    let small : bit_or n 32 < 256 = omega (arith, e, lt) in
    let there : bit_or n 32 / 32 % 2 ≡ 1 = omega (arith, e, lt) in
    has_them false (bit_or n 32) small (eq-eqb (bit_or n 32 / 32 % 2) 1 there) (λ w. absurd (let f : false ≡ true = w in cc))

both_same : (c : Bool) (x y : ℕ) → x ≡ y → cond c x y ≡ y
both_same true x y e = e
both_same false x y e = refl

pub marks_are_read : MarksAreRead
marks_are_read ram [] k fit within = refl
marks_are_read ram (p ∷ ps) k fit within =
    let v : ℕ = bit_or (byte ram p) 32 in
    let lt : p < length ram = within 0 p (omega arith) in
    let old : byte ram p < 256 = byte_lt ram p fit in
    let e = or_32 (byte ram p) old in
    let new : v < 256 = omega (arith, e, old) in
    let long = length-with_byte ram p v lt in
    let rest : All (λ at. at < length (with_byte ram p v)) ps =
    λ i d below. subst (λ n. Rattle.std.specs.Prelude.slice_index_or ps i d < n) (sym long) (within (suc i) d (omega (arith, below))) in
    marks_are_read (with_byte ram p v) ps k (bytes_with ram p v lt fit new) rest ∙ here v lt old (k == p) refl
  where
    here : (v : ℕ) → p < length ram → byte ram p < 256 → (c : Bool) → (k == p) ≡ c
        → cond (is_among k ps) (bit_or (byte (with_byte ram p (bit_or (byte ram p) 32)) k) 32)
        (byte (with_byte ram p (bit_or (byte ram p) 32)) k)
        ≡ cond ((k == p) || is_among k ps) (bit_or (byte ram k) 32) (byte ram k)
    here v lt old true is =
        let same : p ≡ k = sym (eqb-true k p is) in
        let now : byte (with_byte ram p (bit_or (byte ram p) 32)) k ≡ bit_or (byte ram p) 32 =
        ap (byte (with_byte ram p (bit_or (byte ram p) 32))) (sym same) ∙ byte-with_byte ram p (bit_or (byte ram p) 32) lt in
        both_same (is_among k ps) _ _ (ap (λ n. bit_or n 32) now ∙ again (byte ram p) old ∙ sym now)
        ∙ now
        ∙ ap (λ n. bit_or (byte ram n) 32) same
        ∙ sym (ap (λ c. cond (c || is_among k ps) (bit_or (byte ram k) 32) (byte ram k)) is)
    here v lt old false is =
        let now : byte (with_byte ram p (bit_or (byte ram p) 32)) k ≡ byte ram k =
        byte_other ram p (bit_or (byte ram p) 32) k lt (λ g. both_ways (k == p) is (eq-eqb k p g)) in
        ap (λ n. cond (is_among k ps) (bit_or n 32) n) now
        ∙ sym (ap (λ c. cond (c || is_among k ps) (bit_or (byte ram k) 32) (byte ram k)) is)
