-- The memory in which a guest starts, past which its pool was made.
use Rattle.std.proofs.Common.{◌≡◌, ℕ, ◌*◌, ◌≤◌, List, length, take, replicate, refl, sym, ap, ◌∙◌, inl, arith}
use Rattle.std.proofs.Math.ListN.{length-replicate}
use Rattle.std.proofs.lemmas.List.{length-append, length-drop, length-take}
use Rattle.std.specs.FinMap.{empty}
use Rattle.descriptors.specs.declared.cpu.Cpu.{Cpu}
use Rattle.guest_ram.specs.Bytes.{part, with_part}
use Rattle.guest_ram.proofs.Bytes.{part-with_part, part-with_part_below}
use Rattle.frame_pool.specs.Pool.{SameOutside}
use Rattle.frame_pool.specs.declared.Pool.{Pool}
use Rattle.board.specs.declared.devices.Board.{Board}
use Rattle.board.specs.Scripts.{Events}
use Rattle.image_check.specs.Image.{Image}
use Rattle.image_load.specs.Boot.{need, data_frame, boot_ram, boot_descriptors, with_tables, with_directory}
use Rattle.wedge_core.specs.OfRoots.{of_roots}
use Rattle.shadow_cache.specs.declared.roots.Roots.{Roots}
use Rattle.machine_model.specs.State.{State, wedge}
use Rattle.wedge_step.specs.Standing.{IsHeld, ground}
use Rattle.wedge_step.specs.declared.running.Running.{Running}
use Rattle.wedge_step.proofs.Memories.{text_within, part_front}
use Rattle.wedge_mem.proofs.Below.{frames-same}

grows : (m : List ℕ) (a : ℕ) (bs : List ℕ) → length m ≤ length (with_part m a bs)
unfolding with_part
grows m a bs = simp (length-append, length-drop, length-take) (omega arith)

reaches : (n : ℕ) (m : List ℕ) (a : ℕ) (bs : List ℕ) → n ≤ length m → n ≤ length (with_part m a bs)
reaches n m a bs le = let g = grows m a bs in omega (arith, le, g)

-- the text has its place in the memory at the start
text_there : (image : Image) (frames : ℕ) → need image ≤ frames → part (boot_ram image frames) 0x100000 (length image.text) ≡ image.text
text_there image frames fits =
    let n = frames * 4096 in
    let z = with_tables (with_directory (with_part (replicate {A = ℕ} n 0) 0x2000 boot_descriptors) image frames) image frames in
    let l : length (replicate {A = ℕ} n 0) ≡ n = length-replicate {A = ℕ} n 0 in
    let start : n ≤ length (replicate {A = ℕ} n 0) = omega (arith, l) in
    let long : n ≤ length z =
    reaches n _ 0x18000 _ (reaches n _ 0x14000 _
    (reaches n _ 0x4000 _ (reaches n _ 0x1110 _ (reaches n _ 0x1100 _ (reaches n _ 0x1C00 _ (reaches n _ 0x2000 _ start)))))) in
    let with_text : n ≤ length (with_part z 0x100000 image.text) = reaches n z 0x100000 image.text long in
    part-with_part_below (with_part z 0x100000 image.text) (4096 * data_frame image) image.init 0x100000 (length image.text)
    (omega (arith, with_text, fits)) (omega arith)
    ∙ part-with_part z 0x100000 image.text (length image.text) (omega (arith, long, fits)) refl

-- a pool past the frames leaves them as they were
pub front_stands : (image : Image) (frames count : ℕ) (old new : List ℕ) → SameOutside frames count old new
    → take (frames * 4096) old ≡ boot_ram image frames → take (4096 * frames) new ≡ boot_ram image frames
front_stands image frames count old new same is =
    let e : 4096 * frames ≡ frames * 4096 = omega arith in
    frames-same frames old new (λ g l. same.others g (inl l)) ∙ (ap (λ k. take k old) e ∙ is)

pub text_stands : (image : Image) (frames : ℕ) (memory : List ℕ) → need image ≤ frames → take (4096 * frames) memory ≡ boot_ram image frames
    → part memory 0x100000 (length image.text) ≡ image.text
text_stands image frames memory fits is =
    let within = text_within image in
    sym (part_front memory (4096 * frames) 0x100000 (length image.text) (omega (arith, within, fits)))
    ∙ (ap (λ (l : List ℕ). part l 0x100000 (length image.text)) is ∙ text_there image frames fits)

abbrev first_state : Cpu → List ℕ → Board → State
first_state cpu ram board = record { cpu = cpu; ram = ram; set = empty; board = board; step = 0 }

pub begun_is : (cpu cpu2 : Cpu) (ram ram2 : List ℕ) (board board2 : Board) → cpu ≡ cpu2 → ram ≡ ram2 → board ≡ board2
    → first_state cpu ram board ≡ first_state cpu2 ram2 board2
begun_is cpu cpu2 ram ram2 board board2 p q t = λ i. record { cpu = p i; ram = q i; set = empty; board = t i; step = 0 }

-- what a guest stands for doesn't depend on events
pub held_with : (image : Image) (script : Events) (frames : ℕ) (g : Running Roots) (pool : Pool) (memory : List ℕ)
    → IsHeld of_roots (ground image frames) g pool memory → IsHeld of_roots (wedge image script frames) g pool memory
held_with image script frames g pool memory h = record {
  wedge = record { mode = refl; accepted = h.wedge.accepted; room = h.wedge.room };
  frames_are = h.frames_are;
  size = h.size;
  host = record { room = h.host.room; text = h.host.text };
  whole = h.whole;
  behind = h.behind;
  stand = h.stand;
  owns = h.owns;
  counted = h.counted;
  few = h.few;
  fills = h.fills;
  within = h.within;
  open_to = h.open_to;
}
