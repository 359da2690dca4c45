use Rattle.std.proofs.Common.{[], ◌∷◌}
use Rattle.checkpoint.specs.Head.{head_at}
use Rattle.checkpoint.proofs.head.head_at.Goals as goal

pub returns : goal.returns
unfolding head_at
returns c = λ i. record {
  magic = c.part.ensures i;
  frames = c.word.ensures i;
  step = c.double.ensures i;
  registers = c.registers_at.ensures i;
  eip = c.word-2.ensures i;
  eflags = c.word-3.ensures i;
  cr0 = c.word-4.ensures i;
  cr2 = c.word-5.ensures i;
  cr3 = c.word-6.ensures i;
  cr4 = c.word-7.ensures i;
  gdt_base = c.word-8.ensures i;
  idt_base = c.word-9.ensures i;
  task_base = c.word-10.ensures i;
  task_limit = c.word-11.ensures i;
  gdt_limit = c.half.ensures i;
  idt_limit = c.half-2.ensures i;
  task_selector = c.half-3.ensures i;
  task_loaded = c.byte.ensures i;
  level = c.byte-2.ensures i;
  segments = c.segment_at.ensures i ∷ c.segment_at-2.ensures i ∷ c.segment_at-3.ensures i ∷ c.segment_at-4.ensures i ∷ [];
  halted = c.byte-3.ensures i;
  held = c.byte-4.ensures i;
  unnamed = c.part-2.ensures i;
  board = c.part-3.ensures i;
  rest = c.part-4.ensures i;
}
