-- The guest's memory over the host's, byte by byte.
use Rattle.std.proofs.Common.{◌≡◌, ℕ, ◌+◌, ◌*◌, ◌<◌, ◌≤◌, List, [], ◌∷◌, length, take, false, ◌&&◌, refl, sym, ap, ◌∙◌, ◌⊎◌, inl, inr, arith}
use Rattle.std.specs.Prelude.{nat_le, nat_lt}
use Rattle.std.proofs.lemmas.List.{places, same_lists, length-take-le}
use Rattle.std.proofs.lemmas.Bool.{cases_lt, le-leb, lt-ltb, and_from, both_ways}
use Rattle.guest_ram.specs.Bytes.{byte, part, frame, with_part, with_byte}
use Rattle.guest_ram.proofs.Bytes.{length-with_part, length-with_byte, part-with_part_above, part-with_part_below, part-with_part, part-part, byte-part, with_part-comm}
use Rattle.paging.specs.Uses.{is_text}
use Rattle.sites.specs.Patched.{patched}
use Rattle.image_load.specs.Boot.{text_pages}
use Rattle.machine_model.specs.State.{Setting, wedge_mode}
use Rattle.native_steps.specs.Mirrors.{IsWedge, IsHost, shown}
use Rattle.native_steps.proofs.Framed.{laid_same}

-- a place that is not in the text
abbrev pub IsApart : Setting → ℕ → ℕ → Type 0
IsApart m at n = (at + n ≤ 0x100000) ⊎ (0x100000 + length m.image.text ≤ at)

apart_by : (m : Setting) (frame : ℕ) → is_text (wedge_mode m.image) frame ≡ false → (frame < 0x100) ⊎ (0x100 + text_pages m.image ≤ frame)
apart_by m frame e =
    elim (cases_lt frame 0x100) [
      | inl below ↦ inl below
      | inr above ↦ elim (cases_lt frame (0x100 + text_pages m.image)) [
        | inl within ↦ absurd (both_ways (nat_le 0x100 frame && nat_lt frame (0x100 + text_pages m.image)) e
            (and_from _ _ (le-leb 0x100 frame above) (lt-ltb frame (0x100 + text_pages m.image) within)))
        | inr behind ↦ inr behind
      ]
    ]

-- bytes of a frame without text
pub frame_apart : (m : Setting) (frame o n : ℕ) → is_text (wedge_mode m.image) frame ≡ false → o + n ≤ 4096 → IsApart m (4096 * frame + o) n
frame_apart m frame o n e le =
    elim (apart_by m frame e) [
      | inl below ↦ inl (omega (arith, below, le))
      | inr above ↦ inr (omega (arith, above))
    ]

module _ (m : Setting) (w : IsWedge m) (memory : List ℕ) (h : IsHost m memory) where
  front : List ℕ
  front = take (4096 * m.frames) memory

  front_length : length front ≡ 4096 * m.frames
  unfolding front
  front_length = length-take-le (4096 * m.frames) memory h.room

  text_within : 0x100000 + length m.image.text ≤ length front
  text_within = omega (arith, w.room, front_length)

  pub shown_length : length (shown m memory) ≡ 4096 * m.frames
  unfolding shown front
  shown_length = length-with_part front 0x100000 m.image.text text_within ∙ front_length

  part_front : (a n : ℕ) → a + n ≤ 4096 * m.frames → part front a n ≡ part memory a n
  unfolding part front
  part_front a n le = let room = h.room in same_lists _ _ (grind (arith, places)) (λ k d i. grind (arith, places))

  -- outside the text both have the same bytes
  pub part_shown : (a n : ℕ) → a + n ≤ 4096 * m.frames → IsApart m a n → part (shown m memory) a n ≡ part memory a n
  unfolding shown front
  part_shown a n le (inl below) = part-with_part_below front 0x100000 m.image.text a n text_within below ∙ part_front a n le
  part_shown a n le (inr above) = part-with_part_above front 0x100000 m.image.text a n text_within above ∙ part_front a n le

  one_byte : (x : List ℕ) (a : ℕ) → byte (part x a 1) 0 ≡ byte x a
  one_byte x a = let z : a + 0 ≡ a = omega arith in byte-part x a 1 0 (omega arith) ∙ ap (byte x) z

  pub byte_shown : (a : ℕ) → a < 4096 * m.frames → IsApart m a 1 → byte (shown m memory) a ≡ byte memory a
  byte_shown a lt far =
      sym (one_byte (shown m memory) a) ∙ ap (λ (x : List ℕ). byte x 0) (part_shown a 1 (omega (arith, lt)) far) ∙ one_byte memory a

  -- in the text one has the text, and the other the patched text
  pub text_shown : (at n : ℕ) → at + n ≤ length m.image.text → part (shown m memory) (0x100000 + at) n ≡ part m.image.text at n
  unfolding shown front
  text_shown at n le =
      sym (part-part (with_part front 0x100000 m.image.text) 0x100000 (length m.image.text) at n le)
      ∙ ap (λ (x : List ℕ). part x at n) (part-with_part front 0x100000 m.image.text (length m.image.text) text_within refl)

  pub text_patched : (at n : ℕ) → at + n ≤ length m.image.text
      → part memory (0x100000 + at) n ≡ part (patched m.image.text 0 m.image.sites) at n
  text_patched at n le = sym (part-part memory 0x100000 (length m.image.text) at n le) ∙ ap (λ (x : List ℕ). part x at n) h.text

  -- a frame that another memory has as well is the same in what it shows
  pub shown_same : (other : List ℕ) → length other ≡ length memory → (f : ℕ) → frame other f ≡ frame memory f
      → frame (shown m other) f ≡ frame (shown m memory) f
  unfolding shown
  shown_same other long f same =
      let room = h.room in
      laid_same other memory m.image.text (4096 * m.frames) 0x100000 f long (omega (arith, long, room)) (omega (arith, w.room)) same

  -- a byte that is written outside the text
  module _ (a v : ℕ) (lt : a < 4096 * m.frames) (far : IsApart m a 1) where
    in_memory : a < length memory
    in_memory = omega (arith, lt, h.room)

    taken : take (4096 * m.frames) (with_byte memory a v) ≡ with_byte front a v
    unfolding with_byte with_part front
    taken = let room = h.room in same_lists _ _ (grind (arith, places)) (λ k d i. grind (arith, places))

    pub shown_with : with_byte (shown m memory) a v ≡ shown m (with_byte memory a v)
    unfolding shown front with_byte
    shown_with =
        elim far [
          | inl below ↦
              with_part-comm' below
          | inr above ↦
              with_part-comm front 0x100000 m.image.text a (v ∷ []) above (omega (arith, lt, front_length))
              ∙ ap (λ (x : List ℕ). with_part x 0x100000 m.image.text) (sym taken)
        ]
      where
        with_part-comm' : a + 1 ≤ 0x100000 → with_part (with_part front 0x100000 m.image.text) a (v ∷ []) ≡ with_part
            (take (4096 * m.frames) (with_part memory a (v ∷ []))) 0x100000 m.image.text
        with_part-comm' below = sym (with_part-comm front a (v ∷ []) 0x100000 m.image.text below text_within)
            ∙ ap (λ (x : List ℕ). with_part x 0x100000 m.image.text) (sym taken)

    pub still_host : IsHost m (with_byte memory a v)
    unfolding with_byte
    still_host =
        let long : length (with_byte memory a v) ≡ length memory = length-with_byte memory a v in_memory in
        let room = h.room in
        record {
          room = omega (arith, long, room);
          text = elim far [
            | inl below ↦ part-with_part_above memory a (v ∷ []) 0x100000 (length m.image.text) (omega (arith, in_memory)) below
            | inr above ↦ part-with_part_below memory a (v ∷ []) 0x100000 (length m.image.text) (omega (arith, in_memory)) above
          ] ∙ h.text;
        }

    pub still_long : length (with_byte memory a v) ≡ length memory
    still_long = length-with_byte memory a v in_memory
