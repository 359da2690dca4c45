-- Parts of the front of a memory.
use Rattle.std.proofs.Common.{◌≡◌, ℕ, ◌+◌, ◌*◌, ◌≤◌, List, ◌++◌, length, take, drop, replicate, sym, ap, subst, ◌∙◌, arith}
use Rattle.std.proofs.lemmas.List.{places, same_lists}
use Rattle.guest_ram.specs.Bytes.{with_part}
use Rattle.guest_ram.proofs.Bytes.{length-with_part}
use Rattle.image_check.specs.Image.{Image}
use Rattle.image_load.specs.Boot.{frame_words, tables_of, text_pages, data_pages, data_frame, need, boot_descriptors, boot_ram, with_image, with_tables, with_directory}
use Rattle.image_load.proofs.Frames.{length-frame_words}

-- a memory is a front of so many bytes and the rest
pub record Laid (n : ℕ) (whole front rest : List ℕ) : Type 0 where
  pub is : whole ≡ front ++ rest
  pub len : length front ≡ n

part_in_front : (front rest : List ℕ) (a : ℕ) (bs : List ℕ) → a + length bs ≤ length front
    → with_part (front ++ rest) a bs ≡ with_part front a bs ++ rest
unfolding with_part
part_in_front front rest a bs h = same_lists _ _ (grind (arith, places)) (λ k d i. grind (arith, places))

-- a part in the front is a part of the whole
pub laid_part : (n : ℕ) (whole front rest : List ℕ) (a : ℕ) (bs : List ℕ) → a + length bs ≤ n → Laid n whole front rest
    → Laid n (with_part whole a bs) (with_part front a bs) rest
laid_part n whole front rest a bs h l =
    let room : a + length bs ≤ length front = omega (arith, h, l.len) in
    record {
      is = ap (λ (m : List ℕ). with_part m a bs) l.is ∙ part_in_front front rest a bs room;
      len = length-with_part front a bs room ∙ l.len;
    }

-- zeros after zeros
pub laid_zeros : (n m : ℕ) → n ≤ m → Laid n (replicate m 0) (replicate n 0) (drop n (replicate m 0))
laid_zeros n m h = record {
  is = same_lists _ _ (grind (arith, places)) (λ k d i. grind (arith, places));
  len = grind (arith, places);
}

pub front_of : (n : ℕ) (whole front rest : List ℕ) → Laid n whole front rest → take n whole ≡ front
front_of n whole front rest l =
    ap (take n) l.is ∙ same_lists _ _ (grind (arith, places, l.len)) (λ k d i. grind (arith, places, l.len))

pub rest_of : (n : ℕ) (whole front rest : List ℕ) → Laid n whole front rest → drop n whole ≡ rest
rest_of n whole front rest l =
    ap (drop n) l.is ∙ same_lists _ _ (grind (arith, places, l.len)) (λ k d i. grind (arith, places, l.len))

-- the memory at the start stands in the front of a memory that was zero
pub laid_boot : (image : Image) (frames : ℕ) (m : List ℕ) → m ≡ replicate (length m) 0 → frames * 4096 ≤ length m → 2048 ≤ frames
    → frames ≤ 16384 → text_pages image ≤ 4096 → data_pages image ≤ 8192 → need image ≤ frames
    → Laid (frames * 4096) (with_image (with_tables (with_directory (with_part m 0x2000 boot_descriptors) image frames) image frames) image)
    (boot_ram image frames) (drop (frames * 4096) m)
laid_boot image frames m zero room low high texts datas fits =
    let n = frames * 4096 in
    let rest = drop n m in
    let t = length-frame_words 4 (tables_of frames) 3 in
    let u = length-frame_words 0x14 (tables_of (text_pages image)) 3 in
    let v = length-frame_words 0x18 (tables_of (data_pages image)) 3 in
    let x = length-frame_words 0 frames 3 in
    let y = length-frame_words 0x100 (text_pages image) 1 in
    let z = length-frame_words (data_frame image) (data_pages image) 3 in
    let start : Laid n m (replicate n 0) rest =
    subst (λ (w : List ℕ). Laid n w (replicate n 0) (drop n w)) (sym zero) (laid_zeros n (length m) room) in
    let a = laid_part n _ _ rest 0x2000 boot_descriptors (omega (arith, low)) start in
    let b = laid_part n _ _ rest 0x1C00 (frame_words 4 (tables_of frames) 3) (omega (arith, low, high, t)) a in
    let c = laid_part n _ _ rest 0x1100 (frame_words 0x14 (tables_of (text_pages image)) 3) (omega (arith, low, texts, u)) b in
    let d = laid_part n _ _ rest 0x1110 (frame_words 0x18 (tables_of (data_pages image)) 3) (omega (arith, low, datas, v)) c in
    let e = laid_part n _ _ rest 0x4000 (frame_words 0 frames 3) (omega (arith, low, high, x)) d in
    let f = laid_part n _ _ rest 0x14000 (frame_words 0x100 (text_pages image) 1) (omega (arith, low, texts, y)) e in
    let g = laid_part n _ _ rest 0x18000 (frame_words (data_frame image) (data_pages image) 3) (omega (arith, low, datas, z)) f in
    let h = laid_part n _ _ rest 0x100000 image.text (omega (arith, fits)) g in
    laid_part n _ _ rest (4096 * data_frame image) image.init (omega (arith, fits)) h
