-- The chosen bytes of an instruction's parts, in the order in which they stand (SDM volume 2, chapter 2).
use Rattle.std.specs.Prelude.{ℕ, ◌+◌, ◌-◌, ◌*◌, ◌/◌, ◌%◌, Bool, ◌==◌, ◌&&◌, ◌||◌, not, List, [], ◌∷◌, ◌++◌, length, replicate, Option, Some, None, if◌then◌else◌, is_none, is_some}
use Rattle.ia32_types.specs.declared.register.Reg.{Reg}
use Rattle.ia32_types.specs.Register.{number_of}
use Rattle.ia32_types.specs.declared.insn.Address.{Address}
use Rattle.ia32_types.specs.declared.insn.Operand.{Operand}
use Rattle.ia32_types.specs.declared.insn.Operand.TheVariants as operand
use Rattle.ia32_types.specs.declared.size.Size.TheVariants as size
use Rattle.ia32_types.specs.Bits.{sign_extended}
use Rattle.ia32_rows.specs.declared.row.Lead.{Lead}
use Rattle.ia32_rows.specs.declared.row.Lead.TheVariants as lead
use Rattle.ia32_rows.specs.declared.row.Addressing.{Addressing}
use Rattle.ia32_rows.specs.declared.row.Addressing.TheVariants as addressing
use Rattle.ia32_rows.specs.declared.row.Immediate.{Immediate}
use Rattle.ia32_rows.specs.declared.row.Immediate.TheVariants as immediate
use Rattle.ia32_rows.specs.declared.row.Form.{Form}
use Rattle.ia32_rows.specs.declared.row.Parts.{Parts}
use Rattle.ia32_rows.specs.Fields.{imm_len}
use Rattle.ia32_encode.specs.declared.bytes.ArrayBytes.{ArrayBytes}

-- two and four bytes, the lowest first
abbrev pub word_bytes : ℕ → List ℕ
word_bytes n = n % 256 ∷ n / 256 ∷ []

abbrev pub long_bytes : ℕ → List ℕ
long_bytes n = n % 256 ∷ n / 256 % 256 ∷ n / 65536 % 256 ∷ n / 16777216 ∷ []

-- whether the number is a byte that was sign-extended
abbrev pub is_signed_byte : ℕ → Bool
is_signed_byte n = sign_extended 32 size.Byte (n % 256) == n

-- the number of the base register; 5 stands for none
abbrev pub base_number : Option Reg → ℕ
base_number None = 5
base_number (Some r) = number_of r

-- the number of the index register; 4 stands for none
abbrev pub index_number : Option Reg → ℕ
index_number None = 4
index_number (Some r) = number_of r

abbrev pub scale_bits : ℕ → ℕ
scale_bits n = if n == 1 then 0 else if n == 2 then 1 else if n == 4 then 2 else 3

-- the bytes of the displacement: four where a symbol is named or there is no base, none for 0 unless the
-- base is EBP, one for what fits it
abbrev pub memory_len : Bool → Address → ℕ
memory_len wide a =
    if wide || is_none a.base then 4
    else if a.disp == 0 && not (base_number a.base == 5) then 0
    else if is_signed_byte a.disp then 1
    else 4

abbrev pub disp_len_of : Bool → Operand → ℕ
disp_len_of wide (operand.Memory a) = memory_len wide a
disp_len_of wide _ = 0

-- the mod field: without a base it is 0
abbrev pub mode_for : Option Reg → ℕ → ℕ
mode_for base len = if is_none base then 0 else if len == 0 then 0 else if len == 1 then 1 else 2

abbrev pub disp_bytes : ℕ → ℕ → List ℕ
disp_bytes len disp = if len == 0 then [] else if len == 1 then disp % 256 ∷ [] else long_bytes disp

abbrev pub modrm : ℕ → ℕ → ℕ → ℕ
modrm mode reg rm = mode * 64 + reg * 8 + rm

-- there is a SIB byte exactly for an index, or with ESP as the base
abbrev pub has_sib : Address → Bool
has_sib a = is_some a.index || base_number a.base == 4

abbrev pub memory_bytes : ℕ → ℕ → Address → List ℕ
memory_bytes reg len a =
    if has_sib a
    then modrm (mode_for a.base len) reg 4 ∷ modrm (scale_bits a.scale) (index_number a.index) (base_number a.base) ∷ disp_bytes len a.disp
    else modrm (mode_for a.base len) reg (base_number a.base) ∷ disp_bytes len a.disp

abbrev pub modrm_bytes : ℕ → ℕ → Operand → List ℕ
modrm_bytes reg len (operand.Register n) = modrm 3 reg n ∷ []
modrm_bytes reg len (operand.Memory a) = memory_bytes reg len a
modrm_bytes reg len _ = []

-- an operand's displacement
abbrev pub offset_of : Operand → ℕ
offset_of (operand.Memory a) = a.disp
offset_of _ = 0

abbrev pub addressing_bytes : Addressing → Parts → List ℕ
addressing_bytes addressing.Nothing p = []
addressing_bytes addressing.Offset p = long_bytes (offset_of p.rm)
addressing_bytes (addressing.Modrm form) p = modrm_bytes p.reg p.disp_len p.rm

abbrev pub immediate_bytes : Immediate → Parts → List ℕ
immediate_bytes immediate.Nothing p = []
immediate_bytes immediate.One p = []
immediate_bytes immediate.Byte p = p.imm % 256 ∷ []
immediate_bytes immediate.SignedByte p = p.imm % 256 ∷ []
immediate_bytes immediate.Word p = word_bytes (p.imm % 65536)
immediate_bytes immediate.Long p = long_bytes p.imm
immediate_bytes immediate.Far p = long_bytes p.imm ++ word_bytes p.sel

abbrev pub lead_bytes : Lead → List ℕ
lead_bytes lead.Nothing = []
lead_bytes lead.Word = 0x66 ∷ []
lead_bytes lead.Repeat = 0xf3 ∷ []
lead_bytes lead.Escape = 0x0f ∷ []

-- the bytes before the immediate
abbrev pub head_bytes : Form → Parts → List ℕ
head_bytes form p = lead_bytes form.lead ++ (p.code ∷ addressing_bytes form.addressing p)

abbrev pub form_bytes : Form → Parts → List ℕ
form_bytes form p = head_bytes form p ++ immediate_bytes form.immediate p

-- the bytes in an array, zeros after them, and where displacement and immediate stand
abbrev pub laid_out : Form → Parts → ArrayBytes
laid_out form p = record {
  bytes = form_bytes form p ++ replicate (16 - length (form_bytes form p)) 0;
  len = length (form_bytes form p);
  disp_at = if p.disp_len == 0 then 0 else length (head_bytes form p) - p.disp_len;
  imm_at = if imm_len form.immediate == 0 then 0 else length (head_bytes form p);
}
