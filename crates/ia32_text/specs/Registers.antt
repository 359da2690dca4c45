-- The names of registers, without their `%` (SDM volume 2, table 2-2).
use Rattle.std.specs.Prelude.{ℕ, List, codes, ◌==◌, if◌then◌else◌}
use Rattle.ia32_types.specs.declared.size.Size.{Size}
use Rattle.ia32_types.specs.declared.size.Size.TheVariants as size
use Rattle.ia32_types.specs.declared.register.Seg.{Seg}
use Rattle.ia32_types.specs.declared.register.Seg.TheVariants as seg

-- by their numbers, of 32, 16 and 8 bits
unfoldable pub long_name : ℕ → List ℕ
long_name n =
    if n == 0 then codes "eax" else if n == 1 then codes "ecx" else if n == 2 then codes "edx" else if n == 3 then codes "ebx"
    else if n == 4 then codes "esp" else if n == 5 then codes "ebp" else if n == 6 then codes "esi" else codes "edi"

unfoldable pub word_name : ℕ → List ℕ
word_name n =
    if n == 0 then codes "ax" else if n == 1 then codes "cx" else if n == 2 then codes "dx" else if n == 3 then codes "bx"
    else if n == 4 then codes "sp" else if n == 5 then codes "bp" else if n == 6 then codes "si" else codes "di"

unfoldable pub byte_name : ℕ → List ℕ
byte_name n =
    if n == 0 then codes "al" else if n == 1 then codes "cl" else if n == 2 then codes "dl" else if n == 3 then codes "bl"
    else if n == 4 then codes "ah" else if n == 5 then codes "ch" else if n == 6 then codes "dh" else codes "bh"

abbrev pub register_name : Size → ℕ → List ℕ
register_name size.Long n = long_name n
register_name size.Word n = word_name n
register_name size.Byte n = byte_name n

unfoldable pub segment_name : Seg → List ℕ
segment_name seg.Es = codes "es"
segment_name seg.Cs = codes "cs"
segment_name seg.Ss = codes "ss"
segment_name seg.Ds = codes "ds"

-- CR0, CR2, CR3 and CR4
unfoldable pub control_name : ℕ → List ℕ
control_name n = if n == 0 then codes "cr0" else if n == 2 then codes "cr2" else if n == 3 then codes "cr3" else codes "cr4"
