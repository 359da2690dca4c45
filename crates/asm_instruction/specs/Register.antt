-- The names of the registers and their numbers (SDM volume 2, table 2-2).
use Rattle.std.specs.Prelude.{codes, ℕ, [], ◌∷◌}
use Rattle.ia32_types.specs.declared.register.Reg.{Reg}
use Rattle.ia32_types.specs.declared.register.Reg.TheVariants as reg
use Rattle.ia32_types.specs.declared.register.Seg.{Seg}
use Rattle.ia32_types.specs.declared.register.Seg.TheVariants as seg
use Rattle.asm_instruction.specs.Names.{Table}

unfoldable pub long_registers : Table Reg
long_registers =
    (codes "eax", reg.Eax) ∷ (codes "ecx", reg.Ecx) ∷ (codes "edx", reg.Edx) ∷ (codes "ebx", reg.Ebx) ∷
    (codes "esp", reg.Esp) ∷ (codes "ebp", reg.Ebp) ∷ (codes "esi", reg.Esi) ∷ (codes "edi", reg.Edi) ∷ []

unfoldable pub word_registers : Table ℕ
word_registers =
    (codes "ax", 0) ∷ (codes "cx", 1) ∷ (codes "dx", 2) ∷ (codes "bx", 3) ∷
    (codes "sp", 4) ∷ (codes "bp", 5) ∷ (codes "si", 6) ∷ (codes "di", 7) ∷ []

unfoldable pub byte_registers : Table ℕ
byte_registers =
    (codes "al", 0) ∷ (codes "cl", 1) ∷ (codes "dl", 2) ∷ (codes "bl", 3) ∷
    (codes "ah", 4) ∷ (codes "ch", 5) ∷ (codes "dh", 6) ∷ (codes "bh", 7) ∷ []

unfoldable pub segment_registers : Table Seg
segment_registers = (codes "es", seg.Es) ∷ (codes "cs", seg.Cs) ∷ (codes "ss", seg.Ss) ∷ (codes "ds", seg.Ds) ∷ []

unfoldable pub control_registers : Table ℕ
control_registers = (codes "cr0", 0) ∷ (codes "cr2", 2) ∷ (codes "cr3", 3) ∷ (codes "cr4", 4) ∷ []
