-- A checkpoint's memory at the front of a host's.
use Rattle.std.proofs.Common.{◌≡◌, ℕ, ◌+◌, ◌*◌, ◌/◌, ◌%◌, ◌≤◌, List, length, take, drop, sym, ap, ◌∙◌, inl, arith}
use Rattle.std.proofs.lemmas.List.{take_at, take_all, length-take, length-take-le, length-drop}
use Rattle.guest_ram.specs.Bytes.{part, with_part}
use Rattle.guest_ram.proofs.Bytes.{length-part, length-with_part}
use Rattle.frame_pool.specs.Pool.{SameOutside}
use Rattle.image_load.specs.Boot.{text_pages}
use Rattle.image_check.specs.Image.{Image}
use Rattle.wedge_step.proofs.Memories.{part_front}
use Rattle.wedge_mem.proofs.Below.{frames-same}
use Rattle.checkpoint.proofs.Files.{put_all}

pub seat : (old mid new ram copy : List ℕ) (frames len : ℕ) → length ram ≡ 4096 * frames → len ≡ length ram → copy ≡ part ram 0 len →
    mid ≡ with_part old 0 copy → SameOutside frames 512 mid new → take (4096 * frames) new ≡ ram
unfolding part with_part
seat old mid new ram copy frames len long len_is copy_is mid_is same =
    let whole : copy ≡ ram = copy_is ∙ ap (λ (n : ℕ). take n ram) len_is ∙ take_all (length ram) ram (omega arith) in
    let size : length copy ≡ 4096 * frames = ap length whole ∙ long in
    frames-same frames mid new (λ g l. same.others g (inl l))
    ∙ ap (take (4096 * frames)) mid_is
    ∙ take_at copy (drop (0 + length copy) old) (4096 * frames) size
    ∙ whole

pub first_frames : (zeros memory copy new : List ℕ) (frames : ℕ) → length zeros ≡ frames * 4096 → 4096 * frames ≤ length memory
    → copy ≡ part memory 0 (4096 * frames) →
    new ≡ with_part zeros 0 copy → new ≡ take (4096 * frames) memory
unfolding part
first_frames zeros memory copy new frames long room copy_is new_is =
    let size : length copy ≡ 4096 * frames = ap length copy_is ∙ length-part memory 0 (4096 * frames) (omega arith) in
    new_is ∙ put_all zeros copy (omega arith) ∙ copy_is

text_room : (ram text : List ℕ) → 2048 * 4096 ≤ length ram → part ram 0x100000 (length text) ≡ text → 0x100000 + length text ≤ length ram
unfolding part
text_room ram text large stands =
    let e : length (take (length text) (drop 0x100000 ram)) ≡ length text = ap length stands in
    omega (arith, e, length-take (length text) (drop 0x100000 ram), length-drop 0x100000 ram)

pub text_fits : (image : Image) (ram : List ℕ) (len : ℕ) → 2048 * 4096 ≤ length ram → length ram % 4096 ≡ 0 → len ≡ length ram →
    part ram 0x100000 (length image.text) ≡ image.text → 0x100 + text_pages image ≤ len / 4096
text_fits image ram len large whole len_is stands = let room = text_room ram image.text large stands in omega (arith, room, whole, len_is)

pub text_seated : (memory ram text : List ℕ) (frames : ℕ) → take (4096 * frames) memory ≡ ram → 2048 * 4096 ≤ length ram
    → length ram ≡ 4096 * frames →
    part ram 0x100000 (length text) ≡ text → part memory 0x100000 (length text) ≡ text
text_seated memory ram text frames front large long stands =
    let room = text_room ram text large stands in
    sym (part_front memory (4096 * frames) 0x100000 (length text) (omega arith))
    ∙ ap (λ (l : List ℕ). part l 0x100000 (length text)) front ∙ stands

-- what a checkpoint keeps of a guest's memory is as long as its frames
pub shown_long : (memory text : List ℕ) (frames : ℕ) → 4096 * frames ≤ length memory → 0x100000 + length text ≤ 4096 * frames →
    length (with_part (take (4096 * frames) memory) 0x100000 text) ≡ 4096 * frames
shown_long memory text frames room within =
    let n = 4096 * frames in
    let long : length (take n memory) ≡ n = length-take-le n memory room in
    length-with_part (take n memory) 0x100000 text (omega (arith, long, within)) ∙ long
