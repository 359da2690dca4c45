-- The first 256 bytes of a checkpoint. The places are this project's own; numbers of several bytes have the lowest first.
--
--   0, 4, 8         50 56 43 31; how many frames the memory has (4); how many steps were done (8)
--   16, 48, 52      the eight registers by their numbers (4 each); EIP; EFLAGS
--   56, 60, 64, 68  CR0; CR2; CR3; CR4
--   72, 76, 80, 84  the bases of the GDT, the IDT and the TSS; the limit of the TSS
--   88, 90, 92      the limits of the GDT and the IDT (2 each); the selector in TR (2)
--   94, 95          whether TR was loaded; the level of privilege
--   96              ES, CS, SS, DS: the selector (2), whether it is null, the level of its descriptor
--   112, 113        whether the processor is halted; whether deliveries are held off
--   114             14 zeros
--   128             the board, 64 bytes
--   192             64 zeros
use Rattle.std.specs.Prelude.{ℕ, zero, suc, ◌+◌, List, [], ◌∷◌, ◌++◌}
use Rattle.std.specs.List.{concat, flat_map}
use Rattle.std.specs.Int.{from_le_bytes, to_le_bytes, w16, w32, w64}
use Rattle.guest_ram.specs.Bytes.{part, byte, word16, word32}
use Rattle.checkpoint.specs.declared.head.Head.{Head}
use Rattle.checkpoint.specs.declared.head.Segment.{Segment}

-- numbers of two, four and eight bytes
abbrev pub two : ℕ → List ℕ
two n = to_le_bytes w16 n

abbrev pub four : ℕ → List ℕ
four n = to_le_bytes w32 n

abbrev pub eight : ℕ → List ℕ
eight n = to_le_bytes w64 n

abbrev pub segment_bytes : Segment → List ℕ
segment_bytes s = two s.selector ++ (s.null ∷ s.level ∷ [])

-- the parts, in the order of the table

abbrev pub front_parts : Head → List (List ℕ)
front_parts h = h.magic ∷ four h.frames ∷ eight h.step ∷ flat_map four h.registers ∷ []

abbrev pub control_parts : Head → List (List ℕ)
control_parts h =
    four h.eip ∷ four h.eflags ∷ four h.cr0 ∷ four h.cr2 ∷ four h.cr3 ∷ four h.cr4
    ∷ four h.gdt_base ∷ four h.idt_base ∷ four h.task_base ∷ four h.task_limit
    ∷ two h.gdt_limit ∷ two h.idt_limit ∷ two h.task_selector ∷ (h.task_loaded ∷ h.level ∷ []) ∷ []

abbrev pub last_parts : Head → List (List ℕ)
last_parts h = flat_map segment_bytes h.segments ∷ (h.halted ∷ h.held ∷ []) ∷ h.unnamed ∷ h.board ∷ h.rest ∷ []

abbrev pub parts : Head → List (List ℕ)
parts h = front_parts h ++ control_parts h ++ last_parts h

unfoldable pub spelled : Head → List ℕ
spelled h = concat (parts h)

-- what bytes say

abbrev pub double_at : List ℕ → ℕ → ℕ
double_at bytes a = from_le_bytes w64 (part bytes a 8)

abbrev pub words_at : List ℕ → ℕ → ℕ → List ℕ
words_at bytes a zero = []
words_at bytes a (suc n) = word32 bytes a ∷ words_at bytes (a + 4) n

abbrev pub segment_at : List ℕ → ℕ → Segment
segment_at bytes a = record { selector = word16 bytes a; null = byte bytes (a + 2); level = byte bytes (a + 3) }

unfoldable pub head_at : List ℕ → Head
head_at bytes = record {
  magic = part bytes 0 4;
  frames = word32 bytes 4;
  step = double_at bytes 8;
  registers = words_at bytes 16 8;
  eip = word32 bytes 48;
  eflags = word32 bytes 52;
  cr0 = word32 bytes 56;
  cr2 = word32 bytes 60;
  cr3 = word32 bytes 64;
  cr4 = word32 bytes 68;
  gdt_base = word32 bytes 72;
  idt_base = word32 bytes 76;
  task_base = word32 bytes 80;
  task_limit = word32 bytes 84;
  gdt_limit = word16 bytes 88;
  idt_limit = word16 bytes 90;
  task_selector = word16 bytes 92;
  task_loaded = byte bytes 94;
  level = byte bytes 95;
  segments = segment_at bytes 96 ∷ segment_at bytes 100 ∷ segment_at bytes 104 ∷ segment_at bytes 108 ∷ [];
  halted = byte bytes 112;
  held = byte bytes 113;
  unnamed = part bytes 114 14;
  board = part bytes 128 64;
  rest = part bytes 192 64;
}
