-- Memory with the original text in its place, byte by byte.
use Rattle.std.proofs.Common.{◌≡◌, ℕ, ◌+◌, ◌-◌, ◌*◌, ◌/◌, ◌%◌, ◌<◌, ◌≤◌, ◌^◌, Bool, true, false, List, [], ◌∷◌, ◌++◌, length, take, drop, get_or, Option, Some, None, refl, sym, ap, ◌∙◌, inl, inr, cond, add-zero, zero-add, arith}
use Rattle.std.specs.Prelude.{bit_or, ◌⊎◌, if◌then◌else◌, ◌&&◌, not, nat_le, nat_lt}
use Rattle.std.specs.Int.{w32, from_le_bytes}
use Rattle.std.proofs.lemmas.List.{places, same_lists}
use Rattle.std.proofs.lemmas.Bool.Decides.{nat_tests}
use Rattle.std.proofs.lemmas.Bool.{cases_lt, or_parts}
use Rattle.plain_laws.proofs.Tests.{second_false}
use Rattle.guest_ram.specs.Bytes.{part, byte, word32, with_part, with_byte}
use Rattle.guest_ram.proofs.Bytes.{length-part, part-with_part, part-with_part_above, part-with_part_below, part-part, part-append, with_part-comm, get_or-with_part_in, length-with_byte, byte-part}
use Rattle.paging.specs.declared.entry.Walk.{Walk}
use Rattle.paging.specs.declared.entry.Walk.TheVariants.{Absent, Beyond, Reserved}
use Rattle.paging.specs.Space.{Mode}
use Rattle.paging.specs.Fresh.{has, flagged, fresh, is_large, has_reserved, large_frame, by_dir, by_large, by_word, dir_place, word_place}
use Rattle.paging.specs.Uses.{is_text, table_is_text, walks_text}
use Rattle.paging.proofs.Drops.{drop-with_byte}
use Rattle.step_mem.specs.declared.guard.Own.{Own}
use Rattle.step_mem.specs.declared.guard.Text.{Text}
use Rattle.step_mem.specs.Guard.{mode_by, IsLaid}
use Rattle.step_mem.specs.Shown.{laid, shown_by, beyond, hidden_by, IsFoundApart}

-- ---- the text as bytes

-- a place lies apart from the text
pub record IsBeside (bytes : List ℕ) (text frames at n : ℕ) : Type 0 where
  pub room : 4096 * text + length bytes ≤ 4096 * frames
  pub within : at + n ≤ 4096 * frames
  pub beside : (at + n ≤ 4096 * text) ⊎ (4096 * text + length bytes ≤ at)

pub laid_part : (bytes : List ℕ) (text frames : ℕ) (ram : List ℕ) (at n : ℕ) → 4096 * frames ≤ length ram → IsBeside bytes text frames at n
    → part (laid bytes text frames ram) at n ≡ part ram at n
unfolding part laid
laid_part bytes text frames ram at n room h =
    let guests : List ℕ = take (4096 * frames) ram in
    let long : length guests ≡ 4096 * frames = length-part ram 0 (4096 * frames) (omega (arith, room)) in
    let fits : 4096 * text + length bytes ≤ length guests = omega (arith, h.room, long) in
    let inside : part guests at n ≡ part ram at n =
    part-part ram 0 (4096 * frames) at n h.within ∙ ap (λ (p : ℕ). part ram p n) (zero-add at) in
    elim h.beside [
      | inl l ↦ part-with_part_below guests (4096 * text) bytes at n fits l ∙ inside
      | inr l ↦ part-with_part_above guests (4096 * text) bytes at n fits l ∙ inside
    ]

-- a byte that is written among the first
take-with_byte : (limit : ℕ) (ram : List ℕ) (at v : ℕ) → limit ≤ length ram → at < limit
    → take limit (with_byte ram at v) ≡ with_byte (take limit ram) at v
unfolding with_byte with_part
take-with_byte limit ram at v room within = same_lists _ _ (grind (arith, places)) (λ k d i. grind (arith, places))

pub laid_with_byte : (bytes : List ℕ) (text frames : ℕ) (ram : List ℕ) (at v : ℕ) → 4096 * frames ≤ length ram
    → IsBeside bytes text frames at 1 → laid bytes text frames (with_byte ram at v) ≡ with_byte (laid bytes text frames ram) at v
unfolding part laid with_byte
laid_with_byte bytes text frames ram at v room h =
    let guests : List ℕ = take (4096 * frames) ram in
    let long : length guests ≡ 4096 * frames = length-part ram 0 (4096 * frames) (omega (arith, room)) in
    let fits : 4096 * text + length bytes ≤ length guests = omega (arith, h.room, long) in
    let here : at + 1 ≤ length guests = omega (arith, h.within, long) in
    let below : at < 4096 * frames = omega (arith, h.within) in
    let apart : with_part (with_byte guests at v) (4096 * text) bytes ≡ with_byte (with_part guests (4096 * text) bytes) at v =
    elim h.beside [
      | inl l ↦ with_part-comm guests at (v ∷ []) (4096 * text) bytes l fits
      | inr l ↦ sym (with_part-comm guests (4096 * text) bytes at (v ∷ []) l here)
    ] in
    ap (λ (m : List ℕ). with_part m (4096 * text) bytes) (take-with_byte (4096 * frames) ram at v room below) ∙ apart

-- a part that begins in the text
pub laid_begins : (bytes : List ℕ) (text frames : ℕ) (ram : List ℕ) (at n front : ℕ) → 4096 * frames ≤ length ram → 4096 * text
    + length bytes ≤ 4096 * frames → 4096 * text ≤ at → at + front ≤ 4096 * text + length bytes → at + (front + n) ≤ 4096 * frames → n ≡ 0
    ⊎ (at + front ≡ 4096 * text + length bytes)
    → part (laid bytes text frames ram) at (front + n) ≡ part bytes (at - 4096 * text) front ++ part ram (at + front) n
unfolding part laid
laid_begins bytes text frames ram at n front room fits low high within end =
    let l : List ℕ = laid bytes text frames ram in
    let guests : List ℕ = take (4096 * frames) ram in
    let long : length guests ≡ 4096 * frames = length-part ram 0 (4096 * frames) (omega (arith, room)) in
    let from : ℕ = at - 4096 * text in
    let whole : part l (4096 * text) (length bytes) ≡ bytes =
    part-with_part guests (4096 * text) bytes (length bytes) (omega (arith, fits, long)) refl in
    let place : 4096 * text + from ≡ at = omega arith in
    let few : from + front ≤ length bytes = omega arith in
    let first : part l at front ≡ part bytes from front =
    ap (λ (p : ℕ). part l p front) (sym place)
    ∙ (sym (part-part l (4096 * text) (length bytes) from front few) ∙ ap (λ (m : List ℕ). part m from front) whole) in
    let second : part l (at + front) n ≡ part ram (at + front) n =
    elim end [
      | inl e ↦ rw e refl
      | inr e ↦ laid_part bytes text frames ram (at + front) n room
          (record { room = fits; within = omega arith; beside = inr (omega arith) })
    ] in
    sym (part-append l at front n)
    ∙ (ap (λ (m : List ℕ). m ++ part l (at + front) n) first ∙ ap (λ (m : List ℕ). part bytes from front ++ m) second)

-- a byte as a part
byte_of_part : (ram : List ℕ) (at : ℕ) → byte ram at ≡ byte (part ram at 1) 0
byte_of_part ram at = let one : 0 < 1 = omega arith in rw (byte-part ram at 1 0 one, add-zero at) refl

pub laid_byte : (bytes : List ℕ) (text frames : ℕ) (ram : List ℕ) (at : ℕ) → 4096 * frames ≤ length ram → IsBeside bytes text frames at 1
    → byte (laid bytes text frames ram) at ≡ byte ram at
laid_byte bytes text frames ram at room h =
    byte_of_part (laid bytes text frames ram) at
    ∙ (ap (λ (l : List ℕ). byte l 0) (laid_part bytes text frames ram at 1 room h) ∙ sym (byte_of_part ram at))

pub laid_byte_in : (bytes : List ℕ) (text frames : ℕ) (ram : List ℕ) (at : ℕ) → 4096 * frames ≤ length ram → 4096 * text
    + length bytes ≤ 4096 * frames → 4096 * text ≤ at → at < 4096 * text + length bytes
    → byte (laid bytes text frames ram) at ≡ get_or bytes (at - 4096 * text) 0
unfolding byte part laid
laid_byte_in bytes text frames ram at room fits low high =
    let guests : List ℕ = take (4096 * frames) ram in
    let long : length guests ≡ 4096 * frames = length-part ram 0 (4096 * frames) (omega (arith, room)) in
    let place : 4096 * text + (at - 4096 * text) ≡ at = omega arith in
    ap (λ (p : ℕ). get_or (laid bytes text frames ram) p 0) (sym place)
    ∙ get_or-with_part_in guests (4096 * text) bytes (at - 4096 * text) (omega (arith, fits, long)) (omega arith)

-- ---- by the text that is kept

not_text : (text count frame : ℕ) → (nat_le text frame && nat_lt frame (text + count)) ≡ false → (frame < text) ⊎ (text + count ≤ frame)
not_text text count frame h =
    elim (cases_lt frame text) [
      | inl l ↦ inl l
      | inr l ↦ elim (cases_lt frame (text + count)) [ inl m ↦ absurd (grind (arith, nat_tests)) | inr m ↦ inr m ]
    ]

-- bytes in a frame that holds no text lie beside it
beside : (t : Text) (own : Own) (frames at n : ℕ) → IsLaid (Some t) frames → at < 4096 * frames → at % 4096 + n ≤ 4096
    → is_text (mode_by (Some t) own) (at / 4096) ≡ false → IsBeside t.bytes.now t.first frames at n
beside t own frames at n laid within one apart =
    let first = laid.0 in
    let second = laid.1 in
    record {
      room = omega arith;
      within = omega arith;
      beside = elim (not_text t.first t.count (at / 4096) apart) [ inl l ↦ inl (omega arith) | inr l ↦ inr (omega arith) ];
    }

pub shown_part : (kept : Option Text) (own : Own) (frames : ℕ) (ram : List ℕ) (at n : ℕ) → 4096 * frames ≤ length ram → IsLaid kept frames
    → at < 4096 * frames → at % 4096 + n ≤ 4096 → is_text (mode_by kept own) (at / 4096) ≡ false
    → part (shown_by kept frames ram) at n ≡ part ram at n
shown_part None own frames ram at n room laid within one apart = refl
shown_part (Some t) own frames ram at n room laid within one apart =
    laid_part t.bytes.now t.first frames ram at n room (beside t own frames at n laid within one apart)

pub shown_word : (kept : Option Text) (own : Own) (frames : ℕ) (ram : List ℕ) (at : ℕ) → 4096 * frames ≤ length ram → IsLaid kept frames
    → at < 4096 * frames → at % 4096 + 4 ≤ 4096 → is_text (mode_by kept own) (at / 4096) ≡ false
    → word32 (shown_by kept frames ram) at ≡ word32 ram at
unfolding word32
shown_word kept own frames ram at room laid within one apart =
    ap (from_le_bytes w32) (shown_part kept own frames ram at 4 room laid within one apart)

pub shown_byte : (kept : Option Text) (own : Own) (frames : ℕ) (ram : List ℕ) (at : ℕ) → 4096 * frames ≤ length ram → IsLaid kept frames
    → at < 4096 * frames → is_text (mode_by kept own) (at / 4096) ≡ false → byte (shown_by kept frames ram) at ≡ byte ram at
shown_byte None own frames ram at room laid within apart = refl
shown_byte (Some t) own frames ram at room laid within apart =
    let one : at % 4096 + 1 ≤ 4096 = omega arith in
    laid_byte t.bytes.now t.first frames ram at room (beside t own frames at 1 laid within one apart)

pub shown_with_byte : (kept : Option Text) (own : Own) (frames : ℕ) (ram : List ℕ) (at v : ℕ) → 4096 * frames ≤ length ram
    → IsLaid kept frames → at < 4096 * frames → is_text (mode_by kept own) (at / 4096) ≡ false
    → shown_by kept frames (with_byte ram at v) ≡ with_byte (shown_by kept frames ram) at v
shown_with_byte None own frames ram at v room laid within apart = refl
shown_with_byte (Some t) own frames ram at v room laid within apart =
    let one : at % 4096 + 1 ≤ 4096 = omega arith in
    laid_with_byte t.bytes.now t.first frames ram at v room (beside t own frames at 1 laid within one apart)

-- the flags of a walk
pub shown_flagged : (kept : Option Text) (own : Own) (frames : ℕ) (ram : List ℕ) (dir_at word_at : ℕ) (write : Bool)
    → 4096 * frames ≤ length ram → IsLaid kept frames → dir_at < 4096 * frames → word_at < 4096 * frames
    → is_text (mode_by kept own) (dir_at / 4096) ≡ false → is_text (mode_by kept own) (word_at / 4096) ≡ false
    → shown_by kept frames (flagged ram dir_at word_at write) ≡ flagged (shown_by kept frames ram) dir_at word_at write
unfolding flagged
shown_flagged kept own frames ram dir_at word_at write room laid dir word dir_apart word_apart =
    let inside : dir_at < length ram = omega arith in
    let v = bit_or (byte ram dir_at) 32 in
    let marked = with_byte ram dir_at v in
    let mark : ℕ = if write then 96 else 32 in
    let room2 : 4096 * frames ≤ length marked = rw (length-with_byte ram dir_at v inside) room in
    let first : shown_by kept frames marked ≡ with_byte (shown_by kept frames ram) dir_at
    (bit_or (byte (shown_by kept frames ram) dir_at) 32) =
    shown_with_byte kept own frames ram dir_at v room laid dir dir_apart
    ∙ ap (λ (b : ℕ). with_byte (shown_by kept frames ram) dir_at (bit_or b 32))
    (sym (shown_byte kept own frames ram dir_at room laid dir dir_apart)) in
    let second : shown_by kept frames (with_byte marked word_at (bit_or (byte marked word_at) mark)) ≡ with_byte
    (shown_by kept frames marked) word_at (bit_or (byte (shown_by kept frames marked) word_at) mark) =
    shown_with_byte kept own frames marked word_at (bit_or (byte marked word_at) mark) room2 laid word word_apart
    ∙ ap (λ (b : ℕ). with_byte (shown_by kept frames marked) word_at (bit_or b mark))
    (sym (shown_byte kept own frames marked word_at room2 laid word word_apart)) in
    second ∙ ap (λ (m : List ℕ). with_byte m word_at (bit_or (byte m word_at) mark)) first

-- ---- walks

second_of : (a b : Bool) → not a ≡ false → (a && b) ≡ false → b ≡ false
second_of true b h k = k
second_of false b h k = absurd (cc)

choose : (b : Bool) (w x y : Walk) → (b ≡ false → x ≡ y) → cond b w x ≡ cond b w y
choose true w x y h = refl
choose false w x y h = h refl

pick : (b : Bool) (P : Walk → Type 0) (w x : Walk) → P w → (b ≡ false → P x) → P (cond b w x)
pick true P w x h k = h
pick false P w x h k = k refl

-- the table that is read holds no text
table_apart : (mode : Mode) (pse : Bool) (dir : ℕ) → not (has dir 1) ≡ false → is_large pse dir ≡ false → table_is_text mode pse dir ≡ false
    → is_text mode (dir / 4096) ≡ false
table_apart mode pse dir p large h =
    small (is_large pse dir) (is_text mode (dir / 4096)) large
    (second_of (has dir 1) (not (is_large pse dir) && is_text mode (dir / 4096)) p h)
  where
    small : (a b : Bool) → a ≡ false → (not a && b) ≡ false → b ≡ false
    small false b e k = k
    small true b e k = absurd (cc)

same_dir : (kept : Option Text) (own : Own) (frames : ℕ) (ram : List ℕ) (cr3 : ℕ) (pse : Bool) (page dir : ℕ) → 4096 * frames ≤ length ram
    → IsLaid kept frames → table_is_text (mode_by kept own) pse dir ≡ false → by_dir (shown_by kept frames ram) frames cr3 pse page dir
    ≡ by_dir ram frames cr3 pse page dir
same_dir kept own frames ram cr3 pse page dir room laid h =
    choose (not (has dir 1)) Absent _ _
    (λ p. choose (is_large pse dir) (by_large frames cr3 page dir) _ _
    (λ large. choose (nat_le frames (dir / 4096)) Beyond _ _
    (λ q.
    let in_frames : dir / 4096 < frames = grind (arith, nat_tests) in
    let at = word_place dir page in
    let frame : at / 4096 ≡ dir / 4096 = omega arith in
    let within : at < 4096 * frames = omega arith in
    let one : at % 4096 + 4 ≤ 4096 = omega arith in
    let apart : is_text (mode_by kept own) (at / 4096) ≡ false = rw frame (table_apart (mode_by kept own) pse dir p large h) in
    ap (by_word frames cr3 page dir) (shown_word kept own frames ram at room laid within one apart))))

-- where the PDE lies
dir_apart : (mode : Mode) (cr3 page : ℕ) → page < 2 ^ 20 → is_text mode (cr3 / 4096) ≡ false
    → is_text mode (dir_place cr3 page / 4096) ≡ false
dir_apart mode cr3 page small h = let frame : dir_place cr3 page / 4096 ≡ cr3 / 4096 = omega arith in rw frame h

word_apart : (mode : Mode) (dir page : ℕ) → is_text mode (dir / 4096) ≡ false → is_text mode (word_place dir page / 4096) ≡ false
word_apart mode dir page h = let frame : word_place dir page / 4096 ≡ dir / 4096 = omega arith in rw frame h

pub record WalksApart (kept : Option Text) (own : Own) (frames : ℕ) (ram : List ℕ) (cr3 : ℕ) (pse : Bool) (page : ℕ) : Type 0 where
  pub root : is_text (mode_by kept own) (cr3 / 4096) ≡ false
  pub dir : cr3 / 4096 < frames → table_is_text (mode_by kept own) pse (word32 ram (dir_place cr3 page)) ≡ false

-- the PDE is the same
same_word : (kept : Option Text) (own : Own) (frames : ℕ) (ram : List ℕ) (cr3 page : ℕ) → 4096 * frames ≤ length ram → IsLaid kept frames
    → page < 2 ^ 20 → is_text (mode_by kept own) (cr3 / 4096) ≡ false → cr3 / 4096 < frames
    → word32 (shown_by kept frames ram) (dir_place cr3 page) ≡ word32 ram (dir_place cr3 page)
same_word kept own frames ram cr3 page room laid small root in_frames =
    let at = dir_place cr3 page in
    let within : at < 4096 * frames = omega arith in
    let one : at % 4096 + 4 ≤ 4096 = omega arith in
    shown_word kept own frames ram at room laid within one (dir_apart (mode_by kept own) cr3 page small root)

pub walks_apart : (kept : Option Text) (own : Own) (frames : ℕ) (ram : List ℕ) (cr3 : ℕ) (pse : Bool) (page : ℕ) (wp : Bool)
    → 4096 * frames ≤ length ram → IsLaid kept frames → page < 2 ^ 20
    → walks_text (record { ram = shown_by kept frames ram; frames = frames; cr3 = cr3; pse = pse; wp = wp; mode = mode_by kept own }) page
    ≡ false → WalksApart kept own frames ram cr3 pse page
unfolding walks_text
walks_apart kept own frames ram cr3 pse page wp room laid small h =
    let parts = or_parts (is_text (mode_by kept own) (cr3 / 4096)) _ h in
    record {
      root = parts.0;
      dir = λ in_frames.
          let tested : nat_lt (cr3 / 4096) frames ≡ true = grind (arith, nat_tests) in
          rw (same_word kept own frames ram cr3 page room laid small parts.0 in_frames) at
          (second_false (nat_lt (cr3 / 4096) frames) _ tested parts.1);
    }

pub shown_fresh : (kept : Option Text) (own : Own) (frames : ℕ) (ram : List ℕ) (cr3 : ℕ) (pse : Bool) (page : ℕ)
    → 4096 * frames ≤ length ram → IsLaid kept frames → page < 2 ^ 20 → WalksApart kept own frames ram cr3 pse page
    → fresh (shown_by kept frames ram) frames cr3 pse page ≡ fresh ram frames cr3 pse page
unfolding fresh
shown_fresh kept own frames ram cr3 pse page room laid small h =
    choose (nat_le frames (cr3 / 4096)) Beyond _ _
    (λ q.
    let in_frames : cr3 / 4096 < frames = grind (arith, nat_tests) in
    ap (by_dir (shown_by kept frames ram) frames cr3 pse page) (same_word kept own frames ram cr3 page room laid small h.root in_frames)
    ∙ same_dir kept own frames ram cr3 pse page (word32 ram (dir_place cr3 page)) room laid (h.dir in_frames))

pub found_apart : (kept : Option Text) (own : Own) (frames : ℕ) (ram : List ℕ) (cr3 : ℕ) (pse : Bool) (page : ℕ) → page < 2 ^ 20
    → WalksApart kept own frames ram cr3 pse page → IsFoundApart (mode_by kept own) (fresh ram frames cr3 pse page)
unfolding fresh
found_apart kept own frames ram cr3 pse page small h =
    let dir = word32 ram (dir_place cr3 page) in
    let word = word32 ram (word_place dir page) in
    let mode = mode_by kept own in
    let root = dir_apart mode cr3 page small h.root in
    pick (nat_le frames (cr3 / 4096)) (IsFoundApart mode) Beyond _ tt
    (λ q.
    let in_frames : cr3 / 4096 < frames = grind (arith, nat_tests) in
    pick (not (has dir 1)) (IsFoundApart mode) Absent _ tt
    (λ p.
    pick (is_large pse dir) (IsFoundApart mode) (by_large frames cr3 page dir) _
    (pick (has_reserved dir) (IsFoundApart mode) Reserved _ tt
    (λ _. pick (nat_le frames (large_frame dir page)) (IsFoundApart mode) Beyond _ tt (λ _. (root, root))))
    (λ large.
    pick (nat_le frames (dir / 4096)) (IsFoundApart mode) Beyond _ tt
    (λ _.
    pick (not (has word 1)) (IsFoundApart mode) Absent _ tt
    (λ _.
    pick (nat_le frames (word / 4096)) (IsFoundApart mode) Beyond _ tt
    (λ _. (root, word_apart mode dir page (table_apart mode pse dir p large (h.dir in_frames)))))))))

-- ---- what isn't reached

beyond_with_byte : (first count frames : ℕ) (ram : List ℕ) (at v : ℕ) → 4096 * frames ≤ length ram → first + count ≤ frames
    → at < 4096 * frames → (at + 1 ≤ 4096 * first) ⊎ (4096 * (first + count) ≤ at) → beyond first count frames (with_byte ram at v) ≡ beyond
    first count frames ram
unfolding beyond with_byte
beyond_with_byte first count frames ram at v room fits within beside =
    let inside : at + 1 ≤ length ram = omega arith in
    let there : at < length ram = omega arith in
    let text : part (with_byte ram at v) (4096 * first) (4096 * count) ≡ part ram (4096 * first) (4096 * count) =
    elim beside [
      | inl l ↦ part-with_part_above ram at (v ∷ []) (4096 * first) (4096 * count) inside l
      | inr l ↦ part-with_part_below ram at (v ∷ []) (4096 * first) (4096 * count) inside (omega arith)
    ] in
    ap (λ (m : List ℕ). m ++ drop (4096 * frames) (with_byte ram at v)) text
    ∙ ap (λ (m : List ℕ). part ram (4096 * first) (4096 * count) ++ m) (drop-with_byte (4096 * frames) ram at v there within)

pub hidden_with_byte : (kept : Option Text) (own : Own) (frames : ℕ) (ram : List ℕ) (at v : ℕ) → 4096 * frames ≤ length ram
    → IsLaid kept frames → at < 4096 * frames → is_text (mode_by kept own) (at / 4096) ≡ false
    → hidden_by kept frames (with_byte ram at v) ≡ hidden_by kept frames ram
hidden_with_byte None own frames ram at v room laid within apart =
    let inside : at < length ram = omega arith in
    drop-with_byte (4096 * frames) ram at v inside within
hidden_with_byte (Some t) own frames ram at v room laid within apart =
    let fits = laid.0 in
    let beside : (at + 1 ≤ 4096 * t.first) ⊎ (4096 * (t.first + t.count) ≤ at) =
    elim (not_text t.first t.count (at / 4096) apart) [ inl l ↦ inl (omega arith) | inr l ↦ inr (omega arith) ] in
    beyond_with_byte t.first t.count frames ram at v room fits within beside

pub hidden_flagged : (kept : Option Text) (own : Own) (frames : ℕ) (ram : List ℕ) (dir_at word_at : ℕ) (write : Bool)
    → 4096 * frames ≤ length ram → IsLaid kept frames → dir_at < 4096 * frames → word_at < 4096 * frames
    → is_text (mode_by kept own) (dir_at / 4096) ≡ false → is_text (mode_by kept own) (word_at / 4096) ≡ false
    → hidden_by kept frames (flagged ram dir_at word_at write) ≡ hidden_by kept frames ram
unfolding flagged
hidden_flagged kept own frames ram dir_at word_at write room laid dir word dir_apart word_apart =
    let inside : dir_at < length ram = omega arith in
    let v = bit_or (byte ram dir_at) 32 in
    let marked = with_byte ram dir_at v in
    let room2 : 4096 * frames ≤ length marked = rw (length-with_byte ram dir_at v inside) room in
    hidden_with_byte kept own frames marked word_at _ room2 laid word word_apart
    ∙ hidden_with_byte kept own frames ram dir_at v room laid dir dir_apart
