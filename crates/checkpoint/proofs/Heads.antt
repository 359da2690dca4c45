-- The head that is spelled is read, and what is read is spelled.
use Rattle.std.proofs.Common.{◌≡◌, ℕ, ◌+◌, ◌≤◌, true, List, [], ◌∷◌, length, get_or, refl, ap, sym, subst, ◌∙◌, arith, length-append}
use Rattle.std.specs.Prelude.{nat_le}
use Rattle.std.specs.List.{concat, flat_map}
use Rattle.std.proofs.lemmas.Bool.{leb-true}
use Rattle.std.proofs.lemmas.List.{take_all}
use Rattle.guest_ram.specs.Bytes.{part, byte, word16, word32, AreBytes}
use Rattle.checkpoint.specs.declared.head.Head.{Head}
use Rattle.checkpoint.specs.Head.{two, four, segment_bytes, parts, spelled, double_at, words_at, head_at}
use Rattle.checkpoint.specs.Ranges.{IsSized}
use Rattle.checkpoint.proofs.Parts.{AreWide, at_place, word_there, half_there, double_there, byte_there, words_there, segments_at, length-fours, length-segments, segments_there, cut, concat-cut, total, place, word_again, half_again, double_again, bytes_again, words_again, segments_again}

abbrev pub widths : List ℕ
widths = 4 ∷ 4 ∷ 8 ∷ 32 ∷ 4 ∷ 4 ∷ 4 ∷ 4 ∷ 4 ∷ 4 ∷ 4 ∷ 4 ∷ 4 ∷ 4 ∷ 2 ∷ 2 ∷ 2 ∷ 2 ∷ 16 ∷ 2 ∷ 14 ∷ 64 ∷ 64 ∷ []

are_wide : (h : Head) → IsSized h → AreWide widths (parts h)
are_wide h is =
    let registers : length (flat_map four h.registers) ≡ 32 = omega (arith, length-fours h.registers, is.front.registers) in
    let segments : length (flat_map segment_bytes h.segments) ≡ 16 = omega (arith, length-segments h.segments, is.last.segments) in (
      is.front.magic,
      (
        refl,
        (
          refl,
          (
            registers,
            (
              refl,
              (
                refl,
                (
                  refl,
                  (
                    refl,
                    (
                      refl,
                      (
                        refl,
                        (
                          refl,
                          (
                            refl,
                            (
                              refl,
                              (
                                refl,
                                (
                                  refl,
                                  (
                                    refl,
                                    (
                                      refl,
                                      (
                                        refl,
                                        (segments, (refl, (is.last.unnamed, (is.last.board, (is.last.rest, tt))))),
                                      ),
                                    ),
                                  ),
                                ),
                              ),
                            ),
                          ),
                        ),
                      ),
                    ),
                  ),
                ),
              ),
            ),
          ),
        ),
      ),
    )

pub length-spelled : (h : Head) → IsSized h → length (spelled h) ≡ 256
unfolding spelled
length-spelled h is =
    let wide = are_wide h is in length_of widths (parts h) wide
  where
    length_of : (ws : List ℕ) (ps : List (List ℕ)) → AreWide ws ps → length (concat ps) ≡ total ws
    length_of [] [] are = refl
    length_of [] (p ∷ ps) are = absurd are
    length_of (w ∷ ws) [] are = absurd are
    length_of (w ∷ ws) (p ∷ ps) are = omega (arith, length-append p (concat ps), are.0, length_of ws ps are.1)

-- what stands at the place of each part
record Stands (m : List ℕ) (h : Head) : Type 0 where
  magic : part m 0 4 ≡ h.magic
  frames : word32 m 4 ≡ h.frames
  step : double_at m 8 ≡ h.step
  registers : words_at m 16 8 ≡ h.registers
  eip : word32 m 48 ≡ h.eip
  eflags : word32 m 52 ≡ h.eflags
  cr0 : word32 m 56 ≡ h.cr0
  cr2 : word32 m 60 ≡ h.cr2
  cr3 : word32 m 64 ≡ h.cr3
  cr4 : word32 m 68 ≡ h.cr4
  gdt_base : word32 m 72 ≡ h.gdt_base
  idt_base : word32 m 76 ≡ h.idt_base
  task_base : word32 m 80 ≡ h.task_base
  task_limit : word32 m 84 ≡ h.task_limit
  gdt_limit : word16 m 88 ≡ h.gdt_limit
  idt_limit : word16 m 90 ≡ h.idt_limit
  task_selector : word16 m 92 ≡ h.task_selector
  task_loaded : byte m 94 ≡ h.task_loaded
  level : byte m 95 ≡ h.level
  segments : segments_at m 96 4 ≡ h.segments
  halted : byte m 112 ≡ h.halted
  held : byte m 113 ≡ h.held
  unnamed : part m 114 14 ≡ h.unnamed
  board : part m 128 64 ≡ h.board
  rest : part m 192 64 ≡ h.rest

stands : (h : Head) → IsSized h → Stands (concat (parts h)) h
stands h is =
    let m = concat (parts h) in
    let wide = are_wide h is in
    let at : (k : ℕ) → part m (place widths k) (get_or widths k 0) ≡ get_or (parts h) k [] = λ k. at_place widths (parts h) k wide in
    record {
      magic = at 0;
      frames = word_there m 4 h.frames (at 1) is.front.frames;
      step = double_there m 8 h.step (at 2) is.front.step;
      registers = words_there m 16 8 h.registers is.front.words is.front.registers (at 3);
      eip = word_there m 48 h.eip (at 4) (is.controls.words 0);
      eflags = word_there m 52 h.eflags (at 5) (is.controls.words 1);
      cr0 = word_there m 56 h.cr0 (at 6) (is.controls.words 2);
      cr2 = word_there m 60 h.cr2 (at 7) (is.controls.words 3);
      cr3 = word_there m 64 h.cr3 (at 8) (is.controls.words 4);
      cr4 = word_there m 68 h.cr4 (at 9) (is.controls.words 5);
      gdt_base = word_there m 72 h.gdt_base (at 10) (is.controls.words 6);
      idt_base = word_there m 76 h.idt_base (at 11) (is.controls.words 7);
      task_base = word_there m 80 h.task_base (at 12) (is.controls.words 8);
      task_limit = word_there m 84 h.task_limit (at 13) (is.controls.words 9);
      gdt_limit = half_there m 88 h.gdt_limit (at 14) (is.controls.halves 0);
      idt_limit = half_there m 90 h.idt_limit (at 15) (is.controls.halves 1);
      task_selector = half_there m 92 h.task_selector (at 16) (is.controls.halves 2);
      task_loaded = byte_there m 94 2 0 (h.task_loaded ∷ h.level ∷ []) (at 17) (omega arith);
      level = byte_there m 94 2 1 (h.task_loaded ∷ h.level ∷ []) (at 17) (omega arith);
      segments = segments_there m 96 4 h.segments is.last.selectors is.last.segments (at 18);
      halted = byte_there m 112 2 0 (h.halted ∷ h.held ∷ []) (at 19) (omega arith);
      held = byte_there m 112 2 1 (h.halted ∷ h.held ∷ []) (at 19) (omega arith);
      unnamed = at 20;
      board = at 21;
      rest = at 22;
    }

read_so : (m : List ℕ) (h : Head) → Stands m h → head_at m ≡ h
unfolding head_at
read_so m h is = λ i. record {
  magic = is.magic i;
  frames = is.frames i;
  step = is.step i;
  registers = is.registers i;
  eip = is.eip i;
  eflags = is.eflags i;
  cr0 = is.cr0 i;
  cr2 = is.cr2 i;
  cr3 = is.cr3 i;
  cr4 = is.cr4 i;
  gdt_base = is.gdt_base i;
  idt_base = is.idt_base i;
  task_base = is.task_base i;
  task_limit = is.task_limit i;
  gdt_limit = is.gdt_limit i;
  idt_limit = is.idt_limit i;
  task_selector = is.task_selector i;
  task_loaded = is.task_loaded i;
  level = is.level i;
  segments = is.segments i;
  halted = is.halted i;
  held = is.held i;
  unnamed = is.unnamed i;
  board = is.board i;
  rest = is.rest i;
}

pub head_back : (h : Head) → IsSized h → head_at (spelled h) ≡ h
unfolding spelled
head_back h is = read_so (concat (parts h)) h (stands h is)

-- and the other way

parts_again : (m : List ℕ) → AreBytes m → length m ≡ 256 → parts (head_at m) ≡ cut 0 widths m
unfolding head_at
parts_again m are long =
    let there : (k : ℕ) → nat_le k 256 ≡ true → k ≤ length m = λ k near. subst (λ (n : ℕ). k ≤ n) (sym long) (leb-true k 256 near) in
    let word : (a : ℕ) → nat_le (a + 4) 256 ≡ true → four (word32 m a) ≡ part m a 4 = λ a near. word_again m a are (there (a + 4) near) in
    let half : (a : ℕ) → nat_le (a + 2) 256 ≡ true → two (word16 m a) ≡ part m a 2 = λ a near. half_again m a are (there (a + 2) near) in
    let step = double_again m 8 are (there 16 refl) in
    let registers = words_again m 16 8 are (there 48 refl) in
    let loaded = bytes_again m 94 (there 96 refl) in
    let segments = segments_again m 96 4 are (there 112 refl) in
    let halted = bytes_again m 112 (there 114 refl) in
    λ i. part m 0 4 ∷ word 4 refl i ∷ step i ∷ registers i
    ∷ word 48 refl i ∷ word 52 refl i ∷ word 56 refl i ∷ word 60 refl i ∷ word 64 refl i ∷ word 68 refl i
    ∷ word 72 refl i ∷ word 76 refl i ∷ word 80 refl i ∷ word 84 refl i
    ∷ half 88 refl i ∷ half 90 refl i ∷ half 92 refl i ∷ loaded i
    ∷ segments i ∷ halted i ∷ part m 114 14 ∷ part m 128 64 ∷ part m 192 64 ∷ []

pub spelled_again : (m : List ℕ) → AreBytes m → length m ≡ 256 → spelled (head_at m) ≡ m
unfolding spelled part
spelled_again m are long = ap concat (parts_again m are long) ∙ concat-cut 0 widths m ∙ take_all 256 m (omega arith)
