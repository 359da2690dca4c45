-- The guest's memory is bytes, also with marks.
use Rattle.std.proofs.Common.{◌≡◌, ◌⊎◌, ℕ, suc, zero, ◌+◌, ◌-◌, ◌*◌, ◌≤◌, ◌<◌, List, [], ◌∷◌, ◌++◌, length, take, drop, append_assoc, refl, sym, ap, subst, ◌∙◌, arith, bit_or}
use Rattle.std.proofs.lemmas.List.{append-nil, length-take-le}
use Rattle.std.specs.List.{All}
use Rattle.guest_ram.specs.Bytes.{AreBytes, byte, part, with_byte, with_part}
use Rattle.guest_ram.proofs.Bytes.{byte_lt, bytes-part, part-append, part-part, part-with_part, bytes-with_part, length-with_part, length-with_byte}
use Rattle.machine_model.specs.State.{Setting}
use Rattle.native_steps.specs.Looking.{marked}
use Rattle.native_steps.specs.Mirrors.{shown}
use Rattle.step_mem.specs.Shown.{laid}
use Rattle.step_mem.proofs.Laid.{laid_part}
use Rattle.wedge_step.proofs.Memories.{shown_is}
use Rattle.native_steps.proofs.Marks.{or_32, bytes_with}

front_fit : (l : List ℕ) (n : ℕ) → AreBytes l → AreBytes (take n l)
unfolding part
front_fit l n h = bytes-part l 0 n h

pub shown_fit : (m : Setting) (memory : List ℕ) → 4096 * m.frames ≤ length memory → 0x100000 + length m.image.text ≤ 4096 * m.frames
    → AreBytes memory → AreBytes m.image.text → AreBytes (shown m memory)
unfolding shown
shown_fit m memory room laid h t =
    let e = length-take-le (4096 * m.frames) memory room in
    bytes-with_part (take (4096 * m.frames) memory) 0x100000 m.image.text (omega (arith, e, laid)) (front_fit memory (4096 * m.frames) h) t

pub shown_long : (m : Setting) (memory : List ℕ) → 4096 * m.frames ≤ length memory → 0x100000 + length m.image.text ≤ 4096 * m.frames
    → length (shown m memory) ≡ 4096 * m.frames
unfolding shown
shown_long m memory room laid =
    let e = length-take-le (4096 * m.frames) memory room in
    length-with_part (take (4096 * m.frames) memory) 0x100000 m.image.text (omega (arith, e, laid)) ∙ e

pub marked_long : (ram marks : List ℕ) (n : ℕ) → length ram ≡ n → All (λ at. at < n) marks → length (marked ram marks) ≡ n
marked_long ram [] n e within = e
marked_long ram (p ∷ ps) n e within =
    let small : p < n = within 0 p (omega arith) in
    let lt : p < length ram = omega (arith, small, e) in
    marked_long (with_byte ram p (bit_or (byte ram p) 32)) ps n (length-with_byte ram p (bit_or (byte ram p) 32) lt ∙ e)
    (λ i d below. within (suc i) d (omega (arith, below)))

pub marked_fit : (ram marks : List ℕ) (n : ℕ) → length ram ≡ n → All (λ at. at < n) marks → AreBytes ram → AreBytes (marked ram marks)
marked_fit ram [] n e within fit = fit
marked_fit ram (p ∷ ps) n e within fit =
    let v : ℕ = bit_or (byte ram p) 32 in
    let small : p < n = within 0 p (omega arith) in
    let lt : p < length ram = omega (arith, small, e) in
    let old : byte ram p < 256 = byte_lt ram p fit in
    let o = or_32 (byte ram p) old in
    let new : v < 256 = omega (arith, o, old) in
    marked_fit (with_byte ram p v) ps n (length-with_byte ram p v lt ∙ e) (λ i d below. within (suc i) d (omega (arith, below)))
    (bytes_with ram p v lt fit new)

pub are_in : (n k : ℕ) (marks : List ℕ) → k ≡ n → All (λ at. at < n) marks → All (λ at. at < k) marks
are_in n k marks e h = subst (λ j. All (λ at. at < j) marks) (sym e) h

-- bytes after bytes of a part
pub part_none : (m xs : List ℕ) (a : ℕ) → xs ≡ xs ++ part m a 0
unfolding part
part_none m xs a = sym (append-nil xs)

one_part : (m : List ℕ) (a : ℕ) → a < length m → part m a 1 ≡ byte m a ∷ []
unfolding part byte
one_part [] a lt = absurd (omega (arith, lt))
one_part (x ∷ xs) zero lt = refl
one_part (x ∷ xs) (suc a) lt = one_part xs a (omega (arith, lt))

pub part_next : (m xs ys zs : List ℕ) (a i v : ℕ) → a + i < length m → ys ≡ xs ++ part m a i → v ≡ byte m (a + i) → zs ≡ ys ++ v ∷ []
    → zs ≡ xs ++ part m a (i + 1)
part_next m xs ys zs a i v lt e f g =
    g ∙ (ap (λ l. l ++ v ∷ []) e ∙ (append_assoc xs (part m a i) (v ∷ [])
    ∙ (ap (λ n. xs ++ (part m a i ++ n ∷ [])) f
    ∙ (ap (λ l. xs ++ (part m a i ++ l)) (sym (one_part m (a + i) lt)) ∙ ap (λ l. xs ++ l) (part-append m a i 1)))))

-- bytes that all stand in the text, or all beside it
pub shown_beside : (m : Setting) (ram : List ℕ) (at n : ℕ) → 4096 * m.frames ≤ length ram → 0x100000 + length m.image.text ≤ 4096 * m.frames
    → at + n ≤ 4096 * m.frames
    → (at + n ≤ 0x100000) ⊎ (0x100000 + length m.image.text ≤ at) → part ram at n ≡ part (shown m ram) at n
shown_beside m ram at n room fits within beside =
    sym (laid_part m.image.text 256 m.frames ram at n room (record { room = fits; within = within; beside = beside }))
    ∙ ap (λ (l : List ℕ). part l at n) (shown_is m m.image.text 256 ram refl refl)

laid_within : (bytes : List ℕ) (text frames : ℕ) (ram : List ℕ) (at n : ℕ) → 4096 * frames ≤ length ram → 4096 * text
    + length bytes ≤ 4096 * frames → 4096 * text ≤ at → at + n ≤ 4096 * text + length bytes
    → part bytes (at - 4096 * text) n ≡ part (laid bytes text frames ram) at n
unfolding laid
laid_within bytes text frames ram at n room fits low high =
    let base = take (4096 * frames) ram in
    let long = length-take-le (4096 * frames) ram room in
    let whole = with_part base (4096 * text) bytes in
    let there : 4096 * text + (at - 4096 * text) ≡ at = omega (arith, low) in
    sym (ap (λ (l : List ℕ). part l (at - 4096 * text) n)
    (part-with_part base (4096 * text) bytes (length bytes) (omega (arith, long, fits)) refl))
    ∙ (part-part whole (4096 * text) (length bytes) (at - 4096 * text) n (omega (arith, low, high)) ∙ ap (λ (x : ℕ). part whole x n) there)

pub shown_within : (m : Setting) (ram : List ℕ) (at n : ℕ) → 4096 * m.frames ≤ length ram → 0x100000 + length m.image.text ≤ 4096 * m.frames
    → 0x100000 ≤ at → at + n ≤ 0x100000 + length m.image.text
    → take n (drop (at - 0x100000) m.image.text) ≡ part (shown m ram) at n
unfolding part
shown_within m ram at n room fits low high =
    laid_within m.image.text 256 m.frames ram at n room fits low high
    ∙ ap (λ (l : List ℕ). part l at n) (shown_is m m.image.text 256 ram refl refl)
