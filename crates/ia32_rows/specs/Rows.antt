-- The opcode table, in the notation of Intel SDM volume 2, chapters 3 to 5: one row for each form of an
-- instruction. Which forms there are is this project's profile. Of the rows that spell one instruction the
-- one that is preferred stands first (profile): 83, 6B and 6A where the immediate fits in a signed byte, then
-- the form for AL, AX or EAX, then the general one; the register in the opcode before ModRM; the form whose
-- r/m operand is the destination before the other; shifts by 1 before shifts by an immediate; the long form
-- of a direct branch before the short one; RET without a number before RET with one.
use Rattle.std.specs.Prelude.{ℕ, ◌+◌, ◌*◌, List, [], ◌∷◌, ◌++◌, map}
use Rattle.ia32_types.specs.declared.insn.Op.{Op}
use Rattle.ia32_types.specs.declared.insn.Op.TheVariants as op
use Rattle.ia32_types.specs.declared.size.Size.{Size}
use Rattle.ia32_types.specs.declared.size.Size.TheVariants as size
use Rattle.ia32_rows.specs.declared.row.Lead.{Lead}
use Rattle.ia32_rows.specs.declared.row.Lead.TheVariants as lead
use Rattle.ia32_rows.specs.declared.row.Plus.{Plus}
use Rattle.ia32_rows.specs.declared.row.Plus.TheVariants as plus
use Rattle.ia32_rows.specs.declared.row.Slash.TheVariants as slash
use Rattle.ia32_rows.specs.declared.row.RmForm.TheVariants as place
use Rattle.ia32_rows.specs.declared.row.Addressing.{Addressing}
use Rattle.ia32_rows.specs.declared.row.Addressing.TheVariants as addressing
use Rattle.ia32_rows.specs.declared.row.Immediate.{Immediate}
use Rattle.ia32_rows.specs.declared.row.Immediate.TheVariants as immediate
use Rattle.ia32_rows.specs.declared.row.Operands.{Operands}
use Rattle.ia32_rows.specs.declared.row.Operands.TheVariants as operands
use Rattle.ia32_rows.specs.declared.row.Form.{Form}
use Rattle.ia32_rows.specs.declared.row.Row.{Row}
use Rattle.ia32_rows.specs.declared.row.RefusedRow.{RefusedRow}
use Rattle.ia32_types.specs.declared.site.SiteKind.{SiteKind}
use Rattle.ia32_types.specs.declared.site.SiteKind.TheVariants as kind
use Rattle.ia32_types.specs.declared.site.Refused.{Refused}
use Rattle.ia32_types.specs.declared.site.Refused.TheVariants as refused

-- what follows the opcode: nothing; a plain address; /r; /r with memory alone; /r with a register alone; /d; /d with memory alone
abbrev pub no_modrm : Addressing
no_modrm = addressing.Nothing

abbrev pub offset : Addressing
offset = addressing.Offset

abbrev pub slash_r : Addressing
slash_r = addressing.Modrm (record { slash = slash.Register; place = place.Either })

abbrev pub slash_r_m : Addressing
slash_r_m = addressing.Modrm (record { slash = slash.Register; place = place.Memory })

abbrev pub slash_r_r : Addressing
slash_r_r = addressing.Modrm (record { slash = slash.Register; place = place.Register })

abbrev pub digit : ℕ → Addressing
digit d = addressing.Modrm (record { slash = slash.Digit d; place = place.Either })

abbrev pub digit_m : ℕ → Addressing
digit_m d = addressing.Modrm (record { slash = slash.Digit d; place = place.Memory })

abbrev pub slash_control : Addressing
slash_control = addressing.Modrm (record { slash = slash.Control; place = place.Register })

abbrev pub slash_segment : Addressing
slash_segment = addressing.Modrm (record { slash = slash.Segment; place = place.Either })

abbrev pub slash_loadable : Addressing
slash_loadable = addressing.Modrm (record { slash = slash.LoadableSegment; place = place.Either })

abbrev pub form : Lead → ℕ → Plus → Addressing → Immediate → Form
form l n p a i = record { lead = l; opcode = n; plus = p; addressing = a; immediate = i }

abbrev pub row : Lead → ℕ → Plus → Addressing → Immediate → Op → Size → Operands → Row
row l n p a i o s x = record { form = form l n p a i; op = o; size = s; operands = x }

-- an opcode with nothing after it
abbrev pub alone : ℕ → Op → Row
alone n o = row lead.Nothing n plus.Nothing no_modrm immediate.Nothing o size.Long operands.Nothing

-- the rows of an opcode for bytes, and of the next one for 32 bits
abbrev pub both : Lead → ℕ → Addressing → Immediate → Op → Operands → List Row
both l n a i o x = row l n plus.Nothing a i o size.Byte x ∷ row l (n + 1) plus.Nothing a i o size.Long x ∷ []

-- the rows of the k-th of ADD OR ADC SBB AND SUB XOR CMP
abbrev pub alu : ℕ → Op → List Row
alu k o =
    row lead.Nothing 0x83 plus.Nothing (digit k) immediate.SignedByte o size.Long operands.Rm ∷
    row lead.Nothing (k * 8 + 4) plus.Nothing no_modrm immediate.Byte o size.Byte operands.Accumulator ∷
    row lead.Nothing (k * 8 + 5) plus.Nothing no_modrm immediate.Long o size.Long operands.Accumulator ∷
    row lead.Nothing 0x80 plus.Nothing (digit k) immediate.Byte o size.Byte operands.Rm ∷
    row lead.Nothing 0x81 plus.Nothing (digit k) immediate.Long o size.Long operands.Rm ∷
    both lead.Nothing (k * 8) slash_r immediate.Nothing o operands.RmReg ++
    both lead.Nothing (k * 8 + 2) slash_r immediate.Nothing o operands.RegRm ++
    []

-- the rows of a shift or rotation
abbrev pub shift : ℕ → Op → List Row
shift d o =
    both lead.Nothing 0xd0 (digit d) immediate.One o operands.Rm ++
    both lead.Nothing 0xc0 (digit d) immediate.Byte o operands.Rm ++
    both lead.Nothing 0xd2 (digit d) immediate.Nothing o operands.RmCount ++
    []

-- TEST, NOT, NEG, MUL, IMUL, DIV, IDIV, INC and DEC
abbrev pub tests_and_products : List Row
tests_and_products =
    row lead.Nothing 0xa8 plus.Nothing no_modrm immediate.Byte op.Test size.Byte operands.Accumulator ∷
    row lead.Nothing 0xa9 plus.Nothing no_modrm immediate.Long op.Test size.Long operands.Accumulator ∷
    row lead.Nothing 0xf6 plus.Nothing (digit 0) immediate.Byte op.Test size.Byte operands.Rm ∷
    row lead.Nothing 0xf7 plus.Nothing (digit 0) immediate.Long op.Test size.Long operands.Rm ∷
    both lead.Nothing 0x84 slash_r immediate.Nothing op.Test operands.RmReg ++
    both lead.Nothing 0xf6 (digit 2) immediate.Nothing op.Not operands.Rm ++
    both lead.Nothing 0xf6 (digit 3) immediate.Nothing op.Neg operands.Rm ++
    both lead.Nothing 0xf6 (digit 4) immediate.Nothing op.Mul operands.Rm ++
    both lead.Nothing 0xf6 (digit 5) immediate.Nothing op.Imul operands.Rm ++
    both lead.Nothing 0xf6 (digit 6) immediate.Nothing op.Div operands.Rm ++
    both lead.Nothing 0xf6 (digit 7) immediate.Nothing op.Idiv operands.Rm ++
    row lead.Escape 0xaf plus.Nothing slash_r immediate.Nothing op.Imul size.Long operands.RegRm ∷
    row lead.Nothing 0x6b plus.Nothing slash_r immediate.SignedByte op.ImulBy size.Long operands.RegRm ∷
    row lead.Nothing 0x69 plus.Nothing slash_r immediate.Long op.ImulBy size.Long operands.RegRm ∷
    row lead.Nothing 0x40 plus.Register no_modrm immediate.Nothing op.Inc size.Long operands.Opcode ∷
    both lead.Nothing 0xfe (digit 0) immediate.Nothing op.Inc operands.Rm ++
    row lead.Nothing 0x48 plus.Register no_modrm immediate.Nothing op.Dec size.Long operands.Opcode ∷
    both lead.Nothing 0xfe (digit 1) immediate.Nothing op.Dec operands.Rm ++
    []

-- MOV and all that follows it but the sites
abbrev pub moves : List Row
moves =
    both lead.Nothing 0xa0 offset immediate.Nothing op.Mov operands.AccumulatorRm ++
    both lead.Nothing 0xa2 offset immediate.Nothing op.Mov operands.RmAccumulator ++
    row lead.Nothing 0xb0 plus.Register no_modrm immediate.Byte op.Mov size.Byte operands.Opcode ∷
    row lead.Nothing 0xb8 plus.Register no_modrm immediate.Long op.Mov size.Long operands.Opcode ∷
    row lead.Nothing 0xc6 plus.Nothing (digit 0) immediate.Byte op.Mov size.Byte operands.Rm ∷
    row lead.Nothing 0xc7 plus.Nothing (digit 0) immediate.Long op.Mov size.Long operands.Rm ∷
    both lead.Nothing 0x88 slash_r immediate.Nothing op.Mov operands.RmReg ++
    both lead.Nothing 0x8a slash_r immediate.Nothing op.Mov operands.RegRm ++
    row lead.Word 0xa1 plus.Nothing offset immediate.Nothing op.Mov size.Word operands.AccumulatorRm ∷
    row lead.Word 0xa3 plus.Nothing offset immediate.Nothing op.Mov size.Word operands.RmAccumulator ∷
    row lead.Word 0xb8 plus.Register no_modrm immediate.Word op.Mov size.Word operands.Opcode ∷
    row lead.Word 0xc7 plus.Nothing (digit 0) immediate.Word op.Mov size.Word operands.Rm ∷
    row lead.Word 0x89 plus.Nothing slash_r immediate.Nothing op.Mov size.Word operands.RmReg ∷
    row lead.Word 0x8b plus.Nothing slash_r immediate.Nothing op.Mov size.Word operands.RegRm ∷
    row lead.Escape 0xb6 plus.Nothing slash_r immediate.Nothing op.Movzx size.Byte operands.RegRm ∷
    row lead.Escape 0xb7 plus.Nothing slash_r immediate.Nothing op.Movzx size.Word operands.RegRm ∷
    row lead.Escape 0xbe plus.Nothing slash_r immediate.Nothing op.Movsx size.Byte operands.RegRm ∷
    row lead.Escape 0xbf plus.Nothing slash_r immediate.Nothing op.Movsx size.Word operands.RegRm ∷
    row lead.Nothing 0x8d plus.Nothing slash_r_m immediate.Nothing op.Lea size.Long operands.RegRm ∷
    row lead.Nothing 0x90 plus.OtherRegister no_modrm immediate.Nothing op.Xchg size.Long operands.AccumulatorOpcode ∷
    both lead.Nothing 0x86 slash_r_r immediate.Nothing op.Xchg operands.TwoRegisters ++
    both lead.Nothing 0x86 slash_r_m immediate.Nothing op.Xchg operands.RmReg ++
    row lead.Nothing 0x50 plus.Register no_modrm immediate.Nothing op.Push size.Long operands.Opcode ∷
    row lead.Nothing 0x6a plus.Nothing no_modrm immediate.SignedByte op.Push size.Long operands.Nothing ∷
    row lead.Nothing 0x68 plus.Nothing no_modrm immediate.Long op.Push size.Long operands.Nothing ∷
    row lead.Nothing 0xff plus.Nothing (digit 6) immediate.Nothing op.Push size.Long operands.Rm ∷
    row lead.Nothing 0x58 plus.Register no_modrm immediate.Nothing op.Pop size.Long operands.Opcode ∷
    row lead.Nothing 0x8f plus.Nothing (digit 0) immediate.Nothing op.Pop size.Long operands.Rm ∷
    alone 0x60 op.Pusha ∷ alone 0x61 op.Popa ∷ alone 0x98 op.Cwde ∷ alone 0x99 op.Cdq ∷
    alone 0xc9 op.Leave ∷ alone 0x90 op.Nop ∷
    row lead.Escape 0x80 plus.Condition no_modrm immediate.Long op.Jcc size.Long operands.Nothing ∷
    row lead.Nothing 0x70 plus.Condition no_modrm immediate.SignedByte op.Jcc size.Long operands.Nothing ∷
    row lead.Escape 0x90 plus.Condition (digit 0) immediate.Nothing op.Setcc size.Byte operands.Rm ∷
    row lead.Nothing 0xe9 plus.Nothing no_modrm immediate.Long op.Jmp size.Long operands.Nothing ∷
    row lead.Nothing 0xeb plus.Nothing no_modrm immediate.SignedByte op.Jmp size.Long operands.Nothing ∷
    row lead.Nothing 0xe8 plus.Nothing no_modrm immediate.Long op.Call size.Long operands.Nothing ∷
    row lead.Nothing 0xcd plus.Nothing no_modrm immediate.Byte op.Int size.Long operands.Nothing ∷
    alone 0xcc op.Int3 ∷
    row lead.Escape 0x0b plus.Nothing no_modrm immediate.Nothing op.Ud2 size.Long operands.Nothing ∷
    both lead.Nothing 0xa4 no_modrm immediate.Nothing op.Movs operands.Nothing ++
    both lead.Repeat 0xa4 no_modrm immediate.Nothing op.Movs operands.Nothing ++
    both lead.Nothing 0xaa no_modrm immediate.Nothing op.Stos operands.Nothing ++
    both lead.Repeat 0xaa no_modrm immediate.Nothing op.Stos operands.Nothing ++
    both lead.Nothing 0xac no_modrm immediate.Nothing op.Lods operands.Nothing ++
    both lead.Repeat 0xac no_modrm immediate.Nothing op.Lods operands.Nothing ++
    alone 0xf8 op.Clc ∷ alone 0xf9 op.Stc ∷ alone 0xfc op.Cld ∷ alone 0xfd op.Std ∷
    []

-- the sensitive instructions, each with the kind of its site (profile: the choice of the sites, returns and
-- indirect transfers included)
abbrev pub sites : List (SiteKind × Row)
sites =
    (kind.Cli, alone 0xfa op.Cli) ∷ (kind.Sti, alone 0xfb op.Sti) ∷ (kind.Hlt, alone 0xf4 op.Hlt) ∷
    (kind.PushFlags, alone 0x9c op.PushFlags) ∷ (kind.PopFlags, alone 0x9d op.PopFlags) ∷ (kind.Iret, alone 0xcf op.Iret) ∷
    (kind.ReadControl, row lead.Escape 0x20 plus.Nothing slash_control immediate.Nothing op.ReadControl size.Long operands.RmControl) ∷
    (kind.WriteControl, row lead.Escape 0x22 plus.Nothing slash_control immediate.Nothing op.WriteControl size.Long operands.ControlRm) ∷
    (kind.LoadGdt, row lead.Escape 0x01 plus.Nothing (digit_m 2) immediate.Nothing op.LoadGdt size.Long operands.Rm) ∷
    (kind.LoadIdt, row lead.Escape 0x01 plus.Nothing (digit_m 3) immediate.Nothing op.LoadIdt size.Long operands.Rm) ∷
    (kind.LoadTask, row lead.Escape 0x00 plus.Nothing (digit 3) immediate.Nothing op.LoadTask size.Long operands.Rm) ∷
    (kind.DropPage, row lead.Escape 0x01 plus.Nothing (digit_m 7) immediate.Nothing op.DropPage size.Long operands.Rm) ∷
    (kind.ReadSeg, row lead.Nothing 0x8c plus.Nothing slash_segment immediate.Nothing op.ReadSeg size.Long operands.RmSegment) ∷
    (kind.LoadSeg, row lead.Nothing 0x8e plus.Nothing slash_loadable immediate.Nothing op.LoadSeg size.Long operands.SegmentRm) ∷
    (kind.PushSeg, row lead.Nothing 0x06 plus.Nothing no_modrm immediate.Nothing op.PushSeg size.Long operands.Extra) ∷
    (kind.PushSeg, row lead.Nothing 0x0e plus.Nothing no_modrm immediate.Nothing op.PushSeg size.Long operands.Code) ∷
    (kind.PushSeg, row lead.Nothing 0x16 plus.Nothing no_modrm immediate.Nothing op.PushSeg size.Long operands.Stack) ∷
    (kind.PushSeg, row lead.Nothing 0x1e plus.Nothing no_modrm immediate.Nothing op.PushSeg size.Long operands.Data) ∷
    (kind.PopSeg, row lead.Nothing 0x07 plus.Nothing no_modrm immediate.Nothing op.PopSeg size.Long operands.Extra) ∷
    (kind.PopSeg, row lead.Nothing 0x17 plus.Nothing no_modrm immediate.Nothing op.PopSeg size.Long operands.Stack) ∷
    (kind.PopSeg, row lead.Nothing 0x1f plus.Nothing no_modrm immediate.Nothing op.PopSeg size.Long operands.Data) ∷
    (kind.FarJump, row lead.Nothing 0xea plus.Nothing no_modrm immediate.Far op.FarJump size.Long operands.Nothing) ∷
    (kind.PortIn, row lead.Nothing 0xe4 plus.Nothing no_modrm immediate.Byte op.PortIn size.Byte operands.Nothing) ∷
    (kind.PortIn, row lead.Nothing 0xe5 plus.Nothing no_modrm immediate.Byte op.PortIn size.Long operands.Nothing) ∷
    (kind.PortIn, row lead.Nothing 0xec plus.Nothing no_modrm immediate.Nothing op.PortIn size.Byte operands.Port) ∷
    (kind.PortIn, row lead.Nothing 0xed plus.Nothing no_modrm immediate.Nothing op.PortIn size.Long operands.Port) ∷
    (kind.PortOut, row lead.Nothing 0xe6 plus.Nothing no_modrm immediate.Byte op.PortOut size.Byte operands.Nothing) ∷
    (kind.PortOut, row lead.Nothing 0xe7 plus.Nothing no_modrm immediate.Byte op.PortOut size.Long operands.Nothing) ∷
    (kind.PortOut, row lead.Nothing 0xee plus.Nothing no_modrm immediate.Nothing op.PortOut size.Byte operands.Port) ∷
    (kind.PortOut, row lead.Nothing 0xef plus.Nothing no_modrm immediate.Nothing op.PortOut size.Long operands.Port) ∷
    (kind.Return, alone 0xc3 op.Return) ∷
    (kind.Return, row lead.Nothing 0xc2 plus.Nothing no_modrm immediate.Word op.Return size.Long operands.Nothing) ∷
    (kind.JumpTo, row lead.Nothing 0xff plus.Nothing (digit 4) immediate.Nothing op.JumpTo size.Long operands.Rm) ∷
    (kind.CallTo, row lead.Nothing 0xff plus.Nothing (digit 2) immediate.Nothing op.CallTo size.Long operands.Rm) ∷
    []

-- the instructions that are not sensitive
abbrev pub plain_rows : List Row
plain_rows =
    alu 0 op.Add ++ alu 1 op.Or ++ alu 2 op.Adc ++ alu 3 op.Sbb ++ alu 4 op.And ++ alu 5 op.Sub ++ alu 6 op.Xor ++ alu 7 op.Cmp
    ++ tests_and_products
    ++ shift 0 op.Rol ++ shift 1 op.Ror ++ shift 4 op.Shl ++ shift 5 op.Shr ++ shift 7 op.Sar
    ++ moves

abbrev pub site_row : SiteKind × Row → Row
site_row s = s.1

unfoldable pub rows : List Row
rows = plain_rows ++ map site_row sites

-- the instructions that are refused by name (profile), by their opcodes in SDM volume 2
abbrev pub refused_row : ℕ → Addressing → Refused → RefusedRow
refused_row n a name = record { form = form lead.Escape n plus.Nothing a immediate.Nothing; name = name }

unfoldable pub refused_rows : List RefusedRow
refused_rows =
    refused_row 0x31 no_modrm refused.Rdtsc ∷
    refused_row 0xa2 no_modrm refused.Cpuid ∷
    refused_row 0x01 (digit_m 0) refused.Sgdt ∷
    refused_row 0x01 (digit_m 1) refused.Sidt ∷
    refused_row 0x00 (digit 0) refused.Sldt ∷
    refused_row 0x00 (digit 1) refused.Str ∷
    refused_row 0x01 (digit 4) refused.Smsw ∷
    refused_row 0x01 (digit 6) refused.Lmsw ∷
    refused_row 0x00 (digit 2) refused.Lldt ∷
    refused_row 0x00 (digit 4) refused.Verr ∷
    refused_row 0x00 (digit 5) refused.Verw ∷
    refused_row 0x02 slash_r refused.Lar ∷
    refused_row 0x03 slash_r refused.Lsl ∷
    refused_row 0x06 no_modrm refused.Clts ∷
    refused_row 0x32 no_modrm refused.Rdmsr ∷
    refused_row 0x30 no_modrm refused.Wrmsr ∷
    []
