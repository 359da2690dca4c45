-- The processor's registers.
use Rattle.std.specs.Prelude.{ℕ, ◌+◌, ◌/◌, ◌%◌, ◌^◌, List, [], ◌∷◌, ◌++◌, codes, slice_index, not}
use Rattle.run_trace.specs.Text.{hex_digit, hex4, hex8}
use Rattle.ia32_types.specs.Bits.{bit}
use Rattle.ia32_types.specs.declared.flags.Regs.{Regs}
use Rattle.descriptors.specs.declared.cpu.Cpu.{Cpu}
use Rattle.descriptors.specs.declared.cpu.Hidden.{Hidden}
use Rattle.descriptors.specs.declared.cpu.Table.{Table}
use Rattle.descriptors.specs.declared.cpu.Task.{Task}
use Rattle.descriptors.specs.Segments.{seg_of}
use Rattle.machine_text.specs.Numbers.{long_line, where_so, yes_or_no}

-- ---- general registers and EIP

abbrev pub first_text : Regs → List ℕ
first_text r =
    long_line (codes "eax     ") (slice_index r.r 0) ++ long_line (codes "ecx     ") (slice_index r.r 1)
    ++ long_line (codes "edx     ") (slice_index r.r 2) ++ long_line (codes "ebx     ") (slice_index r.r 3)

abbrev pub last_text : Regs → List ℕ
last_text r =
    long_line (codes "esp     ") (slice_index r.r 4) ++ long_line (codes "ebp     ") (slice_index r.r 5)
    ++ long_line (codes "esi     ") (slice_index r.r 6) ++ long_line (codes "edi     ") (slice_index r.r 7)

-- ---- EFLAGS: the number, IOPL, and the names of the flags that are set

abbrev pub flag : ℕ → List ℕ → ℕ → List ℕ
flag bits name at = where_so (bit bits at) name

abbrev pub high_flags : ℕ → List ℕ
high_flags bits = flag bits (codes " of") 11 ++ flag bits (codes " df") 10 ++ flag bits (codes " if") 9 ++ flag bits (codes " sf") 7

abbrev pub low_flags : ℕ → List ℕ
low_flags bits = flag bits (codes " zf") 6 ++ flag bits (codes " af") 4 ++ flag bits (codes " pf") 2 ++ flag bits (codes " cf") 0

abbrev pub flags_text : ℕ → List ℕ
flags_text bits =
    codes "eflags  " ++ hex8 bits ++ codes " iopl " ++ (hex_digit (bits / 4096 % 4) ∷ []) ++ high_flags bits ++ low_flags bits ++ codes "\n"

-- ---- segments: the selector, and of what is hidden the level and whether a null selector was loaded

abbrev pub segment_text : List ℕ → Hidden → List ℕ
segment_text name h =
    name ++ hex4 h.sel ++ codes " level " ++ (hex_digit (h.dpl % 4) ∷ []) ++ where_so h.null (codes " null") ++ codes "\n"

abbrev pub segments_text : Cpu → List ℕ
segments_text cpu =
    segment_text (codes "es      ") (seg_of cpu 0) ++ segment_text (codes "cs      ") (seg_of cpu 1)
    ++ segment_text (codes "ss      ") (seg_of cpu 2) ++ segment_text (codes "ds      ") (seg_of cpu 3)

-- ---- control registers, and those of the tables and the TSS

abbrev pub controls_text : Cpu → List ℕ
controls_text cpu =
    long_line (codes "cr0     ") cpu.cr0 ++ long_line (codes "cr2     ") cpu.cr2
    ++ long_line (codes "cr3     ") cpu.cr3 ++ long_line (codes "cr4     ") cpu.cr4

abbrev pub table_text : List ℕ → Table → List ℕ
table_text name t = name ++ hex8 t.base ++ codes " limit " ++ hex4 t.limit ++ codes "\n"

abbrev pub task_front : Task → List ℕ
task_front t = codes "tr      " ++ hex4 t.sel ++ codes " base " ++ hex8 t.base

abbrev pub task_back : Task → List ℕ
task_back t = codes " limit " ++ hex8 t.limit ++ where_so (not t.loaded) (codes " never loaded") ++ codes "\n"

abbrev pub task_text : Task → List ℕ
task_text t = task_front t ++ task_back t

abbrev pub tables_text : Cpu → List ℕ
tables_text cpu = table_text (codes "gdtr    ") cpu.gdt ++ table_text (codes "idtr    ") cpu.idt ++ task_text cpu.task

-- ---- what it is doing

abbrev pub level_text : ℕ → List ℕ
level_text cpl = codes "level   " ++ (hex_digit (cpl % 4) ∷ []) ++ codes "\n"

abbrev pub doing_text : Cpu → List ℕ
doing_text cpu = level_text cpu.cpl ++ (codes "halted  " ++ yes_or_no cpu.halted) ++ (codes "held    " ++ yes_or_no cpu.held)

-- ---- all of it

unfoldable pub registers_text : Cpu → List ℕ
registers_text cpu =
    doing_text cpu ++ (first_text cpu.regs ++ last_text cpu.regs)
    ++ (long_line (codes "eip     ") cpu.regs.eip ++ flags_text cpu.regs.flags.bits)
    ++ (segments_text cpu ++ controls_text cpu ++ tables_text cpu)
