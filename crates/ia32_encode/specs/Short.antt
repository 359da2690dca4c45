-- Chosen spellings in the manual's words.
use Rattle.std.specs.Prelude.{ℕ, zero, suc, ◌≡◌, ◌-◌, Bool, false, ◌%◌, List, [], ◌∷◌, ◌++◌, length, replicate, take, Option, IsSomeAnd}
use Rattle.ia32_types.specs.declared.insn.Insn.{Insn}
use Rattle.ia32_types.specs.declared.insn.Op.{Op}
use Rattle.ia32_types.specs.declared.insn.Operand.{Operand}
use Rattle.ia32_types.specs.declared.insn.Op.TheVariants.{Add, Or, Adc, Sbb, And, Sub, Xor, Cmp}
use Rattle.ia32_types.specs.declared.insn.Operand.TheVariants.{Absent, Register}
use Rattle.ia32_types.specs.declared.size.Size.{Size}
use Rattle.ia32_types.specs.declared.size.Size.TheVariants.{Long}
use Rattle.ia32_rows.specs.Fields.{reg_of}
use Rattle.ia32_encode.specs.declared.bytes.ArrayBytes.{ArrayBytes}
use Rattle.ia32_encode.specs.declared.choose.Wide.{Wide}

-- an instruction of size Long with one operand, or none
abbrev pub with_operand : Op → Operand → Insn
with_operand op a = record { op = op; size = Long; a = a; b = Absent; imm = 0; sel = 0; rep = false }

-- nothing names a symbol
abbrev pub plain : Wide
plain = record { disp = false; imm = false }

-- bytes with no displacement and no immediate
abbrev pub bare : List ℕ → ArrayBytes
bare xs = record { bytes = xs ++ replicate (16 - length xs) 0; len = length xs; disp_at = 0; imm_at = 0 }

-- a branch by a distance, on a condition or on none
abbrev pub by_distance : Op → ℕ → ℕ → Insn
by_distance op condition distance = record { op = op; size = Long; a = Absent; b = Absent; imm = distance; sel = condition; rep = false }

-- the immediate may name a symbol
abbrev pub with_wide : Bool → Wide
with_wide w = record { disp = false; imm = w }

-- there is a spelling, with these bytes at its front, and of this length
abbrev pub Begins : List ℕ → ℕ → Option ArrayBytes → Type 0
Begins front n o = IsSomeAnd o (λ a. (take (length front) a.bytes ≡ front) × (a.len ≡ n))

-- the eight instructions that share their opcodes, by the number in the reg field
abbrev pub arithmetic : ℕ → Op
arithmetic zero = Add
arithmetic (suc zero) = Or
arithmetic (suc (suc zero)) = Adc
arithmetic (suc (suc (suc zero))) = Sbb
arithmetic (suc (suc (suc (suc zero)))) = And
arithmetic (suc (suc (suc (suc (suc zero))))) = Sub
arithmetic (suc (suc (suc (suc (suc (suc zero)))))) = Xor
arithmetic (suc (suc (suc (suc (suc (suc (suc n))))))) = Cmp

-- a register, or what an address names, and a number
abbrev pub with_number : Op → Operand → ℕ → Insn
with_number op place imm = record { op = op; size = Long; a = place; b = Absent; imm = imm; sel = 0; rep = false }

-- the displacement may name a symbol
abbrev pub with_displacement : Bool → Wide
with_displacement w = record { disp = w; imm = false }

-- The bytes are `op /digit ib` of the manual: the opcode, a ModRM byte with the digit in its reg field, what
-- else the address has (a SIB byte, a displacement), and at the end the low byte of the number.
pub record IsByDigit (opcode digit imm : ℕ) (bytes : List ℕ) : Type 0 where
  pub modrm : ℕ
  pub rest : List ℕ
  pub spelled : bytes ≡ opcode ∷ modrm ∷ (rest ++ imm % 256 ∷ [])
  pub reg : reg_of modrm ≡ digit

-- there is a spelling, and it is so
abbrev pub IsSpelledByDigit : ℕ → ℕ → ℕ → Option ArrayBytes → Type 0
IsSpelledByDigit opcode digit imm o = IsSomeAnd o (λ a. IsByDigit opcode digit imm (take a.len a.bytes))

-- two registers, the destination first
abbrev pub with_registers : Op → Size → ℕ → ℕ → Insn
with_registers op size m n = record { op = op; size = size; a = Register m; b = Register n; imm = 0; sel = 0; rep = false }
