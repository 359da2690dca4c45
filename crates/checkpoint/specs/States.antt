-- A checkpoint: what bytes are those of a state, and what state bytes say, or where they are bad first.
use Rattle.std.specs.Prelude.{ℕ, ◌+◌, ◌-◌, ◌*◌, ◌/◌, ◌==◌, List, [], ◌∷◌, ◌++◌, take, drop, length, replicate, Option, Some, None, Result, Ok, Err, nat_lt, if◌then◌else◌}
use Rattle.std.specs.Option.{option_or}
use Rattle.ia32_types.specs.Bits.{worth}
use Rattle.descriptors.specs.declared.cpu.Cpu.{Cpu}
use Rattle.descriptors.specs.declared.cpu.Hidden.{Hidden}
use Rattle.descriptors.specs.Segments.{seg_of}
use Rattle.board.specs.Saved.{saved}
use Rattle.board.specs.Restored.{board_at}
use Rattle.checkpoint.specs.declared.state.State.{State}
use Rattle.checkpoint.specs.declared.head.Head.{Head}
use Rattle.checkpoint.specs.declared.head.Segment.{Segment}
use Rattle.checkpoint.specs.Head.{spelled, head_at}
use Rattle.checkpoint.specs.Demands.{first_bad}
use Rattle.checkpoint.specs.Form.{segment_of, demands}

-- the numbers of a state

abbrev pub segment_from : Hidden → Segment
segment_from s = record { selector = s.sel; null = worth s.null; level = s.dpl }

unfoldable pub head_of : Cpu → List ℕ → ℕ → ℕ → Head
head_of cpu board step frames = record {
  magic = 80 ∷ 86 ∷ 67 ∷ 49 ∷ [];
  frames = frames;
  step = step;
  registers = cpu.regs.r;
  eip = cpu.regs.eip;
  eflags = cpu.regs.flags.bits;
  cr0 = cpu.cr0;
  cr2 = cpu.cr2;
  cr3 = cpu.cr3;
  cr4 = cpu.cr4;
  gdt_base = cpu.gdt.base;
  idt_base = cpu.idt.base;
  task_base = cpu.task.base;
  task_limit = cpu.task.limit;
  gdt_limit = cpu.gdt.limit;
  idt_limit = cpu.idt.limit;
  task_selector = cpu.task.sel;
  task_loaded = worth cpu.task.loaded;
  level = cpu.cpl;
  segments = segment_from (seg_of cpu 0) ∷ segment_from (seg_of cpu 1) ∷ segment_from (seg_of cpu 2) ∷ segment_from (seg_of cpu 3) ∷ [];
  halted = worth cpu.halted;
  held = worth cpu.held;
  unnamed = replicate 14 0;
  board = board;
  rest = replicate 64 0;
}

-- the 256 bytes, and the memory after them
unfoldable pub checkpoint_bytes : State → List ℕ
checkpoint_bytes s = spelled (head_of s.cpu (saved s.board) s.step (length s.ram / 4096)) ++ s.ram

-- the state that numbers say

abbrev pub hidden_from : Segment → Hidden
hidden_from s = record { sel = s.selector; null = s.null == 1; dpl = s.level }

unfoldable pub cpu_of : Head → Cpu
cpu_of h = record {
  regs = record { r = h.registers; eip = h.eip; flags = record { bits = h.eflags } };
  cpl = h.level;
  seg = hidden_from (segment_of h 0) ∷ hidden_from (segment_of h 1) ∷ hidden_from (segment_of h 2) ∷ hidden_from (segment_of h 3) ∷ [];
  cr0 = h.cr0;
  cr2 = h.cr2;
  cr3 = h.cr3;
  cr4 = h.cr4;
  gdt = record { base = h.gdt_base; limit = h.gdt_limit };
  idt = record { base = h.idt_base; limit = h.idt_limit };
  task = record { sel = h.task_selector; base = h.task_base; limit = h.task_limit; loaded = h.task_loaded == 1 };
  halted = h.halted == 1;
  held = h.held == 1;
}

-- the first 256 bytes, with zeros for those that aren't there
abbrev pub front : List ℕ → List ℕ
front bytes = take 256 bytes ++ replicate (256 - length bytes) 0

abbrev pub size : ℕ → ℕ
size frames = 256 + 4096 * frames

-- where a file of so many bytes ends too early or too late
abbrev pub misses : ℕ → ℕ → Option ℕ
misses there size = if nat_lt there size then Some there else if nat_lt size there then Some size else None

-- The first field that is bad, or else the length where the bytes end too early, or where they should have ended.
unfoldable pub fault_of : Head → ℕ → Option ℕ
fault_of h there = option_or (first_bad there (demands h)) (misses there (size h.frames))

abbrev pub state_by : Head → List ℕ → State
state_by h ram = record { cpu = cpu_of h; board = board_at h.board; step = h.step; ram = ram }

abbrev pub unless : Option ℕ → State → Result State ℕ
unless None state = Ok state
unless (Some at) state = Err at

-- the state that bytes say, or the first bad place
unfoldable pub checkpoint_in : List ℕ → Result State ℕ
checkpoint_in bytes = let h = head_at (front bytes) in unless (fault_of h (length bytes)) (state_by h (drop 256 bytes))
