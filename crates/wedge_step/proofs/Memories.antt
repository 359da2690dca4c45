-- The guest's memory in the host's, when either changes.
use Rattle.std.proofs.Common.{◌≡◌, ℕ, ◌+◌, ◌*◌, ◌≤◌, List, [], ◌∷◌, ◌++◌, length, length-drop, take, drop, zero-add, refl, sym, ap, subst, ◌∙◌, arith}
use Rattle.std.proofs.lemmas.List.{take-take}
use Rattle.guest_ram.specs.Bytes.{part, with_part}
use Rattle.guest_ram.proofs.Bytes.{length-part, part-part}
use Rattle.frame_pool.specs.Pool.{base_of}
use Rattle.frame_pool.specs.declared.Pool.{Pool}
use Rattle.frame_pool.specs.Held.{Owns, Moves}
use Rattle.wedge_mem.proofs.Below.{below-same}
use Rattle.image_check.specs.Image.{Image}
use Rattle.image_load.specs.Boot.{text_pages}
use Rattle.step_mem.specs.Shown.{laid, beyond}
use Rattle.machine_model.specs.State.{Setting}
use Rattle.native_steps.specs.Mirrors.{IsHost, shown}

pub append_both : (xs zs ys ws : List ℕ) → length xs ≡ length zs → xs ++ ys ≡ zs ++ ws → (xs ≡ zs) × (ys ≡ ws)
append_both [] [] ys ws l e = (refl, e)
append_both [] (z ∷ zs) ys ws l e = absurd (omega (arith, l))
append_both (x ∷ xs) [] ys ws l e = absurd (omega (arith, l))
append_both (x ∷ xs) (z ∷ zs) ys ws l e =
    let rest : xs ++ ys ≡ zs ++ ws = cc in
    let first : x ≡ z = cc in
    let t = append_both xs zs ys ws (omega (arith, l)) rest in
    (let tail = t.0 in cc, t.1)

pub part_front : (l : List ℕ) (n a k : ℕ) → a + k ≤ n → part (take n l) a k ≡ part l a k
unfolding part
part_front l n a k h = part-part l 0 n a k h ∙ ap (λ (x : ℕ). part l x k) (zero-add a)

-- what a step leaves of raw memory
pub record Leaves (count frames : ℕ) (old new : List ℕ) : Type 0 where
  pub text : part new 0x100000 (4096 * count) ≡ part old 0x100000 (4096 * count)
  pub above : drop (4096 * frames) new ≡ drop (4096 * frames) old
  pub size : length new ≡ length old

pub leaves : (count frames : ℕ) (old new : List ℕ) → 0x100 + count ≤ frames → 4096 * frames ≤ length old → 4096 * frames ≤ length new
    → beyond 0x100 count frames new ≡ beyond 0x100 count frames old → Leaves count frames old new
unfolding beyond
leaves count frames old new room fits fits_new e =
    let a : length (part new 0x100000 (4096 * count)) ≡ 4096 * count =
    length-part new 0x100000 (4096 * count) (omega (arith, room, fits_new)) in
    let b : length (part old 0x100000 (4096 * count)) ≡ 4096 * count =
    length-part old 0x100000 (4096 * count) (omega (arith, room, fits)) in
    let s = append_both (part new 0x100000 (4096 * count)) (part old 0x100000 (4096 * count)) (drop (4096 * frames) new)
    (drop (4096 * frames) old) (a ∙ sym b) e in
    let k = ap length s.1 in
    let x = length-drop (4096 * frames) new in
    let y = length-drop (4096 * frames) old in
    record { text = s.0; above = s.1; size = omega (arith, k, x, y, fits, fits_new) }

-- the memory that a step reaches is the guest's
pub shown_is : (m : Setting) (bytes : List ℕ) (first : ℕ) (ram : List ℕ) → bytes ≡ m.image.text → first ≡ 256
    → laid bytes first m.frames ram ≡ shown m ram
unfolding laid shown
shown_is m bytes first ram e f = ap (λ (k : ℕ). with_part (take (4096 * m.frames) ram) (4096 * k) bytes) f
    ∙ ap (λ (l : List ℕ). with_part (take (4096 * m.frames) ram) 0x100000 l) e

-- frames of the pool are not the guest's
pub front_same : (n : ℕ) (p p' : Pool) (m m' fs fs' : List ℕ) → n ≤ base_of p → Owns p m fs → Moves p p' m m' fs fs'
    → take (4096 * n) m' ≡ take (4096 * n) m
front_same n p p' m m' fs fs' le o v =
    let e = below-same p p' m m' fs fs' o v in
    sym (take-take (4096 * n) (4096 * base_of p) m' (omega (arith, le)))
    ∙ (ap (take (4096 * n)) e ∙ take-take (4096 * n) (4096 * base_of p) m (omega (arith, le)))

pub shown_same : (m : Setting) (old new : List ℕ) → take (4096 * m.frames) new ≡ take (4096 * m.frames) old → shown m new ≡ shown m old
unfolding shown
shown_same m old new e = ap (λ (l : List ℕ). with_part l 0x100000 m.image.text) e

-- the text is as it was
pub host_same : (m : Setting) (old new : List ℕ) → 0x100000 + length m.image.text ≤ 4096 * m.frames → length new ≡ length old
    → take (4096 * m.frames) new ≡ take (4096 * m.frames) old → IsHost m old → IsHost m new
host_same m old new room size e h =
    let fits = h.room in
    let n = length m.image.text in
    record {
      room = omega (arith, size, fits);
      text = sym (part_front new (4096 * m.frames) 0x100000 n room)
          ∙ (ap (λ (l : List ℕ). part l 0x100000 n) e ∙ (part_front old (4096 * m.frames) 0x100000 n room ∙ h.text));
    }

pub host_left : (m : Setting) (count : ℕ) (old new : List ℕ) → length m.image.text ≤ 4096 * count → Leaves count m.frames old new
    → IsHost m old → IsHost m new
host_left m count old new few l h =
    let fits = h.room in
    let size = l.size in
    let n = length m.image.text in
    let z : 0x100000 + 0 ≡ 0x100000 = omega arith in
    let here : (x : List ℕ) → part (part x 0x100000 (4096 * count)) 0 n ≡ part x 0x100000 n =
    λ x. part-part x 0x100000 (4096 * count) 0 n (omega (arith, few)) in
    record {
      room = omega (arith, size, fits);
      text = sym (here new) ∙ (ap (λ (l : List ℕ). part l 0 n) l.text ∙ (here old ∙ h.text));
    }

-- the same, as a step of a guest's memory states it
pub step_leaves : (image : Image) (frames first count : ℕ) (old new : List ℕ) → 0x100 + text_pages image ≤ frames
    → 4096 * frames ≤ length old → 4096 * frames ≤ length new → first ≡ 256 → count ≡ text_pages image
    → beyond first count frames new ≡ beyond first count frames old → Leaves (text_pages image) frames old new
step_leaves image frames first count old new room fits fits_new f k e =
    leaves (text_pages image) frames old new room fits fits_new
    (subst (λ (n : ℕ). beyond 256 n frames new ≡ beyond 256 n frames old) k
    (subst (λ (n : ℕ). beyond n count frames new ≡ beyond n count frames old) f e))

pub text_within : (image : Image) → length image.text ≤ 4096 * text_pages image
text_within image = omega arith
