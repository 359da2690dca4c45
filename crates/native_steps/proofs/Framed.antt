-- A frame of memory under a text that is laid over it.
use Rattle.std.proofs.Common.{◌≡◌, ℕ, ◌+◌, ◌-◌, ◌*◌, ◌<◌, ◌≤◌, List, length, get_or, take, drop, sym, ap, ◌∙◌, inl, inr, arith}
use Rattle.std.proofs.lemmas.List.{get_or-take, get_or-drop, length-take, length-drop, length-take-le, ext_get_or}
use Rattle.std.proofs.lemmas.Bool.{cases_lt}
use Rattle.guest_ram.specs.Bytes.{frame, part, with_part}
use Rattle.guest_ram.proofs.Bytes.{get_or-part, length-with_part, get_or-with_part_below, get_or-with_part_in, get_or-with_part_above}

-- both memories have the text laid over their front, and agree on the frame
module _ (x y text : List ℕ) (n at f : ℕ) (same : length x ≡ length y) (room : n ≤ length x) (fits : at + length text ≤ n)
    (h : frame x f ≡ frame y f) where
  has_room : (z : List ℕ) → n ≤ length z → at + length text ≤ length (take n z)
  has_room z le = let e = length-take-le n z le in omega (arith, e, fits)

  room_y : n ≤ length y
  room_y = omega (arith, room, same)

  each : (k : ℕ) → k < 4096 → 4096 * f + k < n → get_or x (4096 * f + k) 0 ≡ get_or y (4096 * f + k) 0
  unfolding frame
  each k lt within = sym (get_or-part x (4096 * f) 4096 k lt) ∙ ap (λ (l : List ℕ). get_or l k 0) h ∙ get_or-part y (4096 * f) 4096 k lt

  at_place : (k : ℕ) → k < 4096 → 4096 * f + k < n → get_or (with_part (take n x) at text) (4096 * f + k) 0 ≡ get_or
      (with_part (take n y) at text) (4096 * f + k) 0
  at_place k lt within =
      elim (cases_lt (4096 * f + k) at) [
        | inl below ↦ get_or-with_part_below (take n x) at text (4096 * f + k) (has_room x room) below
            ∙ get_or-take n x (4096 * f + k) 0 within ∙ each k lt within
            ∙ sym (get_or-with_part_below (take n y) at text (4096 * f + k) (has_room y room_y) below ∙ get_or-take n y
            (4096 * f + k) 0 within)
        | inr above ↦ elim (cases_lt (4096 * f + k) (at + length text)) [
          | inl inside ↦
              let e : at + (4096 * f + k - at) ≡ 4096 * f + k = omega (arith, above) in
              let lt_j : 4096 * f + k - at < length text = omega (arith, above, inside) in
              ap (λ (i : ℕ). get_or (with_part (take n x) at text) i 0) (sym e)
              ∙ get_or-with_part_in (take n x) at text (4096 * f + k - at) (has_room x room) lt_j
              ∙ sym (get_or-with_part_in (take n y) at text (4096 * f + k - at) (has_room y room_y) lt_j)
              ∙ ap (λ (i : ℕ). get_or (with_part (take n y) at text) i 0) e
          | inr behind ↦ get_or-with_part_above (take n x) at text (4096 * f + k) (has_room x room) behind
              ∙ get_or-take n x (4096 * f + k) 0 within ∙ each k lt within
              ∙ sym (get_or-with_part_above (take n y) at text (4096 * f + k) (has_room y room_y) behind ∙ get_or-take n y
              (4096 * f + k) 0 within)
        ]
      ]

  long_x : length (with_part (take n x) at text) ≡ n
  long_x = length-with_part (take n x) at text (has_room x room) ∙ length-take-le n x room

  long_y : length (with_part (take n y) at text) ≡ n
  long_y = length-with_part (take n y) at text (has_room y room_y) ∙ length-take-le n y room_y

  same_frame : (a c : List ℕ) → length a ≡ n → length c ≡ n
      → ((k : ℕ) → k < 4096 → 4096 * f + k < n → get_or a (4096 * f + k) 0 ≡ get_or c (4096 * f + k) 0) → frame a f ≡ frame c f
  unfolding frame part
  same_frame a c la lc e =
      let p = length-take 4096 (drop (4096 * f) a) in
      let q = length-drop (4096 * f) a in
      let r = length-take 4096 (drop (4096 * f) c) in
      let s = length-drop (4096 * f) c in
      let long : length (take 4096 (drop (4096 * f) a)) ≡ length (take 4096 (drop (4096 * f) c)) = omega (arith, p, q, r, s, la, lc) in
      ext_get_or 0 (take 4096 (drop (4096 * f) a)) (take 4096 (drop (4096 * f) c)) long (λ k lt.
      let low : k < 4096 = omega (arith, p, lt) in
      let within : 4096 * f + k < n = omega (arith, p, q, la, lt) in
      get_or-take 4096 (drop (4096 * f) a) k 0 low ∙ get_or-drop (4096 * f) a k 0 ∙ e k low within
      ∙ sym (get_or-take 4096 (drop (4096 * f) c) k 0 low ∙ get_or-drop (4096 * f) c k 0))

  pub laid_same : frame (with_part (take n x) at text) f ≡ frame (with_part (take n y) at text) f
  laid_same = same_frame (with_part (take n x) at text) (with_part (take n y) at text) long_x long_y at_place
