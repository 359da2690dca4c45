-- What a line says of the processor's registers: each that changed, by its name, with its new value. EIP alone is left out,
-- since the next line begins with it.
use Rattle.std.specs.Prelude.{ℕ, ◌==◌, ◌&&◌, not, Bool, true, false, List, [], ◌++◌, codes, slice_index, if◌then◌else◌}
use Rattle.ia32_types.specs.declared.flags.Regs.{Regs}
use Rattle.ia32_types.specs.declared.register.Seg.{Seg}
use Rattle.ia32_types.specs.declared.register.Seg.TheVariants as seg
use Rattle.descriptors.specs.Segments.{segment_in}
use Rattle.descriptors.specs.declared.cpu.Cpu.{Cpu}
use Rattle.descriptors.specs.declared.cpu.Hidden.{Hidden}
use Rattle.descriptors.specs.declared.cpu.Table.{Table}
use Rattle.descriptors.specs.declared.cpu.Task.{Task}
use Rattle.run_trace.specs.Text.{hex4, hex8}

-- every entry of a line begins with two blanks
abbrev pub name_text : List ℕ → List ℕ
name_text name = codes "  " ++ name ++ codes " "

abbrev pub selector_text : List ℕ → ℕ → List ℕ
selector_text name selector = name_text name ++ hex4 selector

-- a table's base and its limit
abbrev pub table_text : List ℕ → ℕ → ℕ → List ℕ
table_text name base limit = name_text name ++ hex8 base ++ codes " " ++ hex4 limit

-- a register of 32 bits
unfoldable pub word_change : List ℕ → ℕ → ℕ → List ℕ
word_change name old new = if old == new then [] else (name_text name ++ hex8 new)

unfoldable pub general_changes : Regs → Regs → List ℕ
general_changes old new =
    word_change (codes "eax") (slice_index old.r 0) (slice_index new.r 0) ++ word_change (codes "ecx") (slice_index old.r 1)
    (slice_index new.r 1)
    ++ word_change (codes "edx") (slice_index old.r 2) (slice_index new.r 2) ++ word_change (codes "ebx") (slice_index old.r 3)
    (slice_index new.r 3)
    ++ word_change (codes "esp") (slice_index old.r 4) (slice_index new.r 4) ++ word_change (codes "ebp") (slice_index old.r 5)
    (slice_index new.r 5)
    ++ word_change (codes "esi") (slice_index old.r 6) (slice_index new.r 6) ++ word_change (codes "edi") (slice_index old.r 7)
    (slice_index new.r 7)
    ++ word_change (codes "eflags") old.flags.bits new.flags.bits

-- a selector is printed where anything of its register changed, also what is hidden
abbrev pub same_flag : Bool → Bool → Bool
same_flag true b = b
same_flag false b = not b

abbrev pub same_segment : Hidden → Hidden → Bool
same_segment old new = old.sel == new.sel && old.dpl == new.dpl && same_flag old.null new.null

unfoldable pub segment_change : List ℕ → Hidden → Hidden → List ℕ
segment_change name old new = if same_segment old new then [] else selector_text name new.sel

abbrev pub same_task : Task → Task → Bool
same_task old new = old.sel == new.sel && old.base == new.base && old.limit == new.limit && same_flag old.loaded new.loaded

unfoldable pub task_change : Task → Task → List ℕ
task_change old new = if same_task old new then [] else selector_text (codes "tr") new.sel

abbrev pub segment_at : List ℕ → Seg → Cpu → Cpu → List ℕ
segment_at name seg old new = segment_change name (segment_in old seg) (segment_in new seg)

unfoldable pub segment_changes : Cpu → Cpu → List ℕ
segment_changes old new =
    segment_at (codes "es") seg.Es old new ++ segment_at (codes "cs") seg.Cs old new ++ segment_at (codes "ss") seg.Ss old new
    ++ segment_at (codes "ds") seg.Ds old new

unfoldable pub control_changes : Cpu → Cpu → List ℕ
control_changes old new =
    word_change (codes "cr0") old.cr0 new.cr0 ++ word_change (codes "cr2") old.cr2 new.cr2 ++ word_change (codes "cr3") old.cr3 new.cr3
    ++ word_change (codes "cr4") old.cr4 new.cr4

abbrev pub same_table : Table → Table → Bool
same_table old new = old.base == new.base && old.limit == new.limit

unfoldable pub table_change : List ℕ → Table → Table → List ℕ
table_change name old new = if same_table old new then [] else table_text name new.base new.limit

unfoldable pub table_changes : Cpu → Cpu → List ℕ
table_changes old new =
    table_change (codes "gdtr") old.gdt new.gdt ++ table_change (codes "idtr") old.idt new.idt ++ task_change old.task new.task

abbrev pub where_so : Bool → List ℕ → List ℕ
where_so true text = text
where_so false text = []

-- the processor begins to wait, and external interrupts are held off in the next step
unfoldable pub waiting_changes : Cpu → Cpu → List ℕ
waiting_changes old new =
    where_so (new.halted && not old.halted) (codes "  halted") ++ where_so new.held (codes "  held")

unfoldable pub processor_changes : Cpu → Cpu → List ℕ
processor_changes old new =
    general_changes old.regs new.regs ++ segment_changes old new ++ control_changes old new ++ table_changes old new
    ++ waiting_changes old new
