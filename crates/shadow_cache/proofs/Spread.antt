-- Sets of frames as bits of words: what a word's bit says, and what a changed one does.
use Rattle.std.proofs.Common.{◌≡◌, ◌≢◌, ℕ, zero, suc, ◌+◌, ◌*◌, ◌/◌, ◌%◌, ◌<◌, ◌⊎◌, List, [], ◌∷◌, length, get_or, set, replicate, Bool, true, false, nat_eq, refl, sym, ap, ◌∙◌, subst, inl, inr, arith}
use Rattle.std.specs.Int.{bit_at}
use Rattle.std.proofs.lemmas.Bool.Decides.{eqb_tells}
use Rattle.std.proofs.lemmas.List.{length-set, get_or-set_same, get_or-set_other, get_or-replicate, length-replicate, ext_get_or}
use Rattle.std.proofs.lemmas.Nat.Bits.{bit_at-suc, bit_at_lowest, bit_at-zero, bit_at_ones}
use Rattle.shadow_cache.specs.FrameSets.{bits_before, spread}

tell : (a b : ℕ) → (a ≡ b) ⊎ (a ≢ b)
tell a b = elim (eqb_tells a b) [ inl t ↦ inl t.1 | inr t ↦ inr t.1 ]

get-low : (n w i : ℕ) (rest : List Bool) → i < n → get_or (bits_before n w rest) i false ≡ nat_eq (bit_at w i) 1
unfolding bits_before
get-low zero w i rest l = absurd (omega (arith, l))
get-low (suc n) w zero rest l = ap (λ b. nat_eq b 1) (sym (bit_at_lowest w))
get-low (suc n) w (suc i) rest l = get-low n (w / 2) i rest (omega (arith, l)) ∙ ap (λ b. nat_eq b 1) (sym (bit_at-suc w i))

get-high : (n w i : ℕ) (rest : List Bool) → get_or (bits_before n w rest) (n + i) false ≡ get_or rest i false
unfolding bits_before
get-high zero w i rest = let e : 0 + i ≡ i = omega arith in rw e refl
get-high (suc n) w i rest = let e : suc n + i ≡ suc (n + i) = omega arith in rw e (get-high n (w / 2) i rest)

length-bits : (n w : ℕ) (rest : List Bool) → length (bits_before n w rest) ≡ n + length rest
unfolding bits_before
length-bits zero w rest = omega arith
length-bits (suc n) w rest = let e = length-bits n (w / 2) rest in omega (arith, e)

pub length-spread : (ws : List ℕ) → length (spread ws) ≡ 64 * length ws
unfolding spread
length-spread [] = refl
length-spread (w ∷ ws) = let a = length-bits 64 w (spread ws) in let e = length-spread ws in omega (arith, a, e)

-- a frame is in where its bit is 1
pub spread-get : (ws : List ℕ) (q r : ℕ) → r < 64 → get_or (spread ws) (64 * q + r) false ≡ nat_eq (bit_at (get_or ws q 0) r) 1
unfolding spread
spread-get [] q r l = ap (λ b. nat_eq b 1) (sym (bit_at-zero r))
spread-get (w ∷ ws) zero r l = let e : 64 * zero + r ≡ r = omega arith in rw e (get-low 64 w r (spread ws) l)
spread-get (w ∷ ws) (suc q) r l =
    let e : 64 * suc q + r ≡ 64 + (64 * q + r) = omega arith in
    rw e (get-high 64 w (64 * q + r) (spread ws) ∙ spread-get ws q r l)

zeros : (n m : ℕ) → bits_before n 0 (replicate m false) ≡ replicate (n + m) false
unfolding bits_before
zeros zero m = let e : 0 + m ≡ m = omega arith in rw e refl
zeros (suc n) m = let e : suc n + m ≡ suc (n + m) = omega arith in rw e (ap (λ bs. false ∷ bs) (zeros n m))

pub spread-zeros : (n : ℕ) → spread (replicate n 0) ≡ replicate (64 * n) false
unfolding spread
spread-zeros zero = refl
spread-zeros (suc n) =
    let e : 64 * suc n ≡ 64 + 64 * n = omega arith in rw e (ap (bits_before 64 0) (spread-zeros n) ∙ zeros 64 (64 * n))

abbrev top : ℕ
top = 18446744073709551615

pub spread-ones : (n : ℕ) → spread (replicate n top) ≡ replicate (64 * n) true
spread-ones n =
    let most : length (replicate n top) ≡ n = length-replicate n top in
    let size : length (spread (replicate n top)) ≡ 64 * n = length-spread (replicate n top) ∙ ap (λ k. 64 * k) most in
    ext_get_or false (spread (replicate n top)) (replicate (64 * n) true) (size ∙ sym (length-replicate (64 * n) true)) (λ i l.
    let e : 64 * (i / 64) + i % 64 ≡ i = omega arith in
    let inside : i < 64 * n = omega (arith, l, size) in
    let low : i % 64 < 64 = omega arith in
    let word : i / 64 < n = omega (arith, inside) in
    sym (ap (λ k. get_or (spread (replicate n top)) k false) e)
    ∙ spread-get (replicate n top) (i / 64) (i % 64) low
    ∙ ap (λ w. nat_eq (bit_at w (i % 64)) 1) (get_or-replicate n (i / 64) top 0 word)
    ∙ ap (λ b. nat_eq b 1) (bit_at_ones 64 (i % 64) low)
    ∙ sym (get_or-replicate (64 * n) i true false inside))

-- another word in which one bit alone is another
module _ (ws : List ℕ) (q r w : ℕ) (b : Bool) (in_list : q < length ws) (in_word : r < 64)
    (there : nat_eq (bit_at w r) 1 ≡ b) (others : (i : ℕ) → i < 64 → i ≢ r → bit_at w i ≡ bit_at (get_or ws q 0) i) where
  inside : 64 * q + r < length (spread ws)
  inside = let e = length-spread ws in omega (arith, e, in_list, in_word)

  at-word : (i : ℕ) → i < 64 → (i ≡ r) ⊎ (i ≢ r)
      → get_or (spread (set ws q w)) (64 * q + i) false ≡ get_or (set (spread ws) (64 * q + r) b) (64 * q + i) false
  at-word i l (inl e) =
      rw e (spread-get (set ws q w) q r in_word ∙ ap (λ v. nat_eq (bit_at v r) 1) (get_or-set_same ws q w 0 in_list) ∙ there
      ∙ sym (get_or-set_same (spread ws) (64 * q + r) b false inside))
  at-word i l (inr n) =
      spread-get (set ws q w) q i l ∙ ap (λ v. nat_eq (bit_at v i) 1) (get_or-set_same ws q w 0 in_list)
      ∙ ap (λ v. nat_eq v 1) (others i l n)
      ∙ sym (spread-get ws q i l) ∙ sym (get_or-set_other (spread ws) (64 * q + r) (64 * q + i) b false (λ e. n (omega (arith, e))))

  at : (p i : ℕ) → i < 64 → (p ≡ q) ⊎ (p ≢ q)
      → get_or (spread (set ws q w)) (64 * p + i) false ≡ get_or (set (spread ws) (64 * q + r) b) (64 * p + i) false
  at p i l (inl e) = rw e (at-word i l (tell i r))
  at p i l (inr n) =
      spread-get (set ws q w) p i l ∙ ap (λ v. nat_eq (bit_at v i) 1) (get_or-set_other ws q p w 0 n)
      ∙ sym (spread-get ws p i l)
      ∙ sym (get_or-set_other (spread ws) (64 * q + r) (64 * p + i) b false (λ e. n (omega (arith, e, l, in_word))))

  pub one-changed : spread (set ws q w) ≡ set (spread ws) (64 * q + r) b
  one-changed =
      let other = set ws q w in let changed = set (spread ws) (64 * q + r) b in
      let size : length (spread other) ≡ length changed =
      length-spread other ∙ ap (λ n. 64 * n) (length-set ws q w) ∙ sym (length-spread ws) ∙ sym (length-set (spread ws) (64 * q + r) b)
      in
      ext_get_or false (spread other) changed size (λ i l.
      let e : i ≡ 64 * (i / 64) + i % 64 = omega arith in
      subst (λ (k : ℕ). get_or (spread other) k false ≡ get_or changed k false) (sym e)
      (at (i / 64) (i % 64) (omega arith) (tell (i / 64) q)))
