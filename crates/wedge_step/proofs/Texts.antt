-- A guard over an image's text.
use Rattle.std.proofs.Common.{◌≡◌, ℕ, ◌+◌, ◌≤◌, List, length, Option, Some, None, ap, arith}
use Rattle.image_check.specs.Image.{Image}
use Rattle.image_load.specs.Boot.{text_pages}
use Rattle.paging.specs.Space.{Wedge}
use Rattle.step_mem.specs.Guard.{IsLaid, mode_by, own_of}
use Rattle.step_mem.specs.Shown.{beyond, hidden_by, laid, shown_by}
use Rattle.step_mem.specs.declared.guard.Own.{Own}
use Rattle.step_mem.specs.declared.guard.Text.{Text}
use Rattle.wedge_step.specs.Original.{IsOriginal}
use Rattle.wedge_step.proofs.Memories.{text_within}

pub original_laid : (image : Image) (text : Option Text) (frames : ℕ) → IsOriginal image text → 256 + text_pages image ≤ frames
    → IsLaid text frames
original_laid image None frames h room = absurd h
original_laid image (Some t) frames h room =
    let first = h.0 in
    let count = h.1 in
    let long = ap length h.2 in
    let within = text_within image in
    (omega (arith, first, count, room), omega (arith, count, long, within))

pub original_mode : (image : Image) (text : Option Text) (own : Own) → IsOriginal image text
    → mode_by text own ≡ Wedge 256 (text_pages image) (own_of own)
original_mode image None own h = absurd h
original_mode image (Some t) own h = λ i. Wedge (h.0 i) (h.1 i) (own_of own)

pub original_hidden : (image : Image) (text : Option Text) (n : ℕ) (memory : List ℕ) → IsOriginal image text
    → hidden_by text n memory ≡ beyond 256 (text_pages image) n memory
original_hidden image None n memory h = absurd h
original_hidden image (Some t) n memory h = λ i. beyond (h.0 i) (h.1 i) n memory

pub original_shown : (image : Image) (text : Option Text) (n : ℕ) (memory : List ℕ) → IsOriginal image text
    → shown_by text n memory ≡ laid image.text 256 n memory
original_shown image None n memory h = absurd h
original_shown image (Some t) n memory h = λ i. laid (h.2 i) (h.0 i) n memory
