-- Each instruction is meant by its name and its operands.
use Rattle.std.proofs.Common.{◌≡◌, ℕ, ◌<◌, ◌≤◌, ◌^◌, ◌++◌, Bool, true, false, List, [], Some, None, refl, sym, subst, arith}
use Rattle.std.specs.Prelude.{◌==◌, if◌then◌else◌}
use Rattle.std.proofs.lemmas.Bool.{eqb-true}
use Rattle.ia32_types.specs.declared.insn.Insn.{Insn}
use Rattle.ia32_types.specs.declared.insn.Address.{Address}
use Rattle.ia32_types.specs.declared.insn.Op.TheVariants as op
use Rattle.ia32_types.specs.declared.insn.Operand.{Operand}
use Rattle.ia32_types.specs.declared.insn.Operand.TheVariants as operand
use Rattle.ia32_types.specs.declared.register.Seg.{Seg}
use Rattle.ia32_types.specs.declared.size.Size.{Size}
use Rattle.ia32_types.specs.declared.size.Size.TheVariants as size
use Rattle.asm_instruction.specs.declared.mnemonic.Mnemonic.{Mnemonic}
use Rattle.asm_instruction.specs.Mnemonic.{known_name, drafted}
use Rattle.ia32_text.specs.declared.operands.Operands.{Operands as WrittenOperands}
use Rattle.ia32_text.specs.declared.operands.Operands.TheVariants as operands
use Rattle.ia32_text.specs.declared.operands.Written.TheVariants as written
use Rattle.ia32_text.specs.Names.{stem}
use Rattle.ia32_text.specs.Statement.{name_of}
use Rattle.ia32_text.specs.Operands.{operands_of}
use Rattle.ia32_text.proofs.Reading.{is_control, AreWritten, taken_of}
use Rattle.ia32_text.proofs.Closing.{Means}
use Rattle.ia32_text.proofs.Drafting.{made, IsOperand, is_written, DraftsTo, IsTwo, PlaceKind, agreed_first, agreed_none}
use Rattle.ia32_text.proofs.Families as families
use Rattle.ia32_text.proofs.Naming as naming
use Rattle.ia32_text.proofs.Naming.{named}

abbrev pub Meant : ℕ → ℕ → Insn → Type 0
Meant at len i = Means i (name_of i) (operands_of i at len)

means_of : (i : Insn) (name : List ℕ) (o : WrittenOperands) (m : Mnemonic) → known_name name ≡ Some m → AreWritten o
    → DraftsTo i (drafted i.rep m (taken_of o)) → Means i name o
means_of i name o m n w d =
    record { mnemonic = m; named = n; written = w; draft = d.draft; drafted_as = d.is; same = d.drafts.same; fits = d.drafts.fits }

pub meant_Add : (s : Size) (a b : Operand) (imm : ℕ) (at len : ℕ) → IsTwo s a b imm → Meant at len (made op.Add s a b imm 0 false)
unfolding name_of operands_of drafted
meant_Add s a b imm at len h = means_of _ _ _ _ (naming.sized_Add s) (is_written s imm b h.b_is, is_written s imm a h.a_is)
    (families.arithmetic_two op.Add s a b imm h)

pub meant_Or : (s : Size) (a b : Operand) (imm : ℕ) (at len : ℕ) → IsTwo s a b imm → Meant at len (made op.Or s a b imm 0 false)
unfolding name_of operands_of drafted
meant_Or s a b imm at len h =
    means_of _ _ _ _ (naming.sized_Or s) (is_written s imm b h.b_is, is_written s imm a h.a_is) (families.arithmetic_two op.Or s a b imm h)

pub meant_Adc : (s : Size) (a b : Operand) (imm : ℕ) (at len : ℕ) → IsTwo s a b imm → Meant at len (made op.Adc s a b imm 0 false)
unfolding name_of operands_of drafted
meant_Adc s a b imm at len h = means_of _ _ _ _ (naming.sized_Adc s) (is_written s imm b h.b_is, is_written s imm a h.a_is)
    (families.arithmetic_two op.Adc s a b imm h)

pub meant_Sbb : (s : Size) (a b : Operand) (imm : ℕ) (at len : ℕ) → IsTwo s a b imm → Meant at len (made op.Sbb s a b imm 0 false)
unfolding name_of operands_of drafted
meant_Sbb s a b imm at len h = means_of _ _ _ _ (naming.sized_Sbb s) (is_written s imm b h.b_is, is_written s imm a h.a_is)
    (families.arithmetic_two op.Sbb s a b imm h)

pub meant_And : (s : Size) (a b : Operand) (imm : ℕ) (at len : ℕ) → IsTwo s a b imm → Meant at len (made op.And s a b imm 0 false)
unfolding name_of operands_of drafted
meant_And s a b imm at len h = means_of _ _ _ _ (naming.sized_And s) (is_written s imm b h.b_is, is_written s imm a h.a_is)
    (families.arithmetic_two op.And s a b imm h)

pub meant_Sub : (s : Size) (a b : Operand) (imm : ℕ) (at len : ℕ) → IsTwo s a b imm → Meant at len (made op.Sub s a b imm 0 false)
unfolding name_of operands_of drafted
meant_Sub s a b imm at len h = means_of _ _ _ _ (naming.sized_Sub s) (is_written s imm b h.b_is, is_written s imm a h.a_is)
    (families.arithmetic_two op.Sub s a b imm h)

pub meant_Xor : (s : Size) (a b : Operand) (imm : ℕ) (at len : ℕ) → IsTwo s a b imm → Meant at len (made op.Xor s a b imm 0 false)
unfolding name_of operands_of drafted
meant_Xor s a b imm at len h = means_of _ _ _ _ (naming.sized_Xor s) (is_written s imm b h.b_is, is_written s imm a h.a_is)
    (families.arithmetic_two op.Xor s a b imm h)

pub meant_Cmp : (s : Size) (a b : Operand) (imm : ℕ) (at len : ℕ) → IsTwo s a b imm → Meant at len (made op.Cmp s a b imm 0 false)
unfolding name_of operands_of drafted
meant_Cmp s a b imm at len h = means_of _ _ _ _ (naming.sized_Cmp s) (is_written s imm b h.b_is, is_written s imm a h.a_is)
    (families.arithmetic_two op.Cmp s a b imm h)

pub meant_Test : (s : Size) (a b : Operand) (imm : ℕ) (at len : ℕ) → IsTwo s a b imm → families.TestKinds a b
    → Meant at len (made op.Test s a b imm 0 false)
unfolding name_of operands_of drafted
meant_Test s a b imm at len h t =
    means_of _ _ _ _ (naming.sized_Test s) (is_written s imm b h.b_is, is_written s imm a h.a_is) (families.test_drafts s a b imm h t)

pub meant_Mov : (s : Size) (a b : Operand) (imm : ℕ) (at len : ℕ) → IsTwo s a b imm → Meant at len (made op.Mov s a b imm 0 false)
unfolding name_of operands_of drafted
meant_Mov s a b imm at len h =
    means_of _ _ _ _ (naming.sized_Mov s) (is_written s imm b h.b_is, is_written s imm a h.a_is) (families.mov_drafts s a b imm h)

pub meant_Not : (s : Size) (a : Operand) (at len : ℕ) → IsOperand a → PlaceKind a → Meant at len (made op.Not s a operand.Absent 0 0 false)
unfolding name_of operands_of drafted
meant_Not s a at len h p = means_of _ _ _ _ (naming.sized_Not s) (is_written s 0 a h) (families.arithmetic_one op.Not s a 0 h p)

pub meant_Neg : (s : Size) (a : Operand) (at len : ℕ) → IsOperand a → PlaceKind a → Meant at len (made op.Neg s a operand.Absent 0 0 false)
unfolding name_of operands_of drafted
meant_Neg s a at len h p = means_of _ _ _ _ (naming.sized_Neg s) (is_written s 0 a h) (families.arithmetic_one op.Neg s a 0 h p)

pub meant_Mul : (s : Size) (a : Operand) (at len : ℕ) → IsOperand a → PlaceKind a → Meant at len (made op.Mul s a operand.Absent 0 0 false)
unfolding name_of operands_of drafted
meant_Mul s a at len h p = means_of _ _ _ _ (naming.sized_Mul s) (is_written s 0 a h) (families.arithmetic_one op.Mul s a 0 h p)

pub meant_Div : (s : Size) (a : Operand) (at len : ℕ) → IsOperand a → PlaceKind a → Meant at len (made op.Div s a operand.Absent 0 0 false)
unfolding name_of operands_of drafted
meant_Div s a at len h p = means_of _ _ _ _ (naming.sized_Div s) (is_written s 0 a h) (families.arithmetic_one op.Div s a 0 h p)

pub meant_Idiv : (s : Size) (a : Operand) (at len : ℕ) → IsOperand a → PlaceKind a
    → Meant at len (made op.Idiv s a operand.Absent 0 0 false)
unfolding name_of operands_of drafted
meant_Idiv s a at len h p = means_of _ _ _ _ (naming.sized_Idiv s) (is_written s 0 a h) (families.arithmetic_one op.Idiv s a 0 h p)

pub meant_Inc : (s : Size) (a : Operand) (at len : ℕ) → IsOperand a → PlaceKind a → Meant at len (made op.Inc s a operand.Absent 0 0 false)
unfolding name_of operands_of drafted
meant_Inc s a at len h p = means_of _ _ _ _ (naming.sized_Inc s) (is_written s 0 a h) (families.arithmetic_one op.Inc s a 0 h p)

pub meant_Dec : (s : Size) (a : Operand) (at len : ℕ) → IsOperand a → PlaceKind a → Meant at len (made op.Dec s a operand.Absent 0 0 false)
unfolding name_of operands_of drafted
meant_Dec s a at len h p = means_of _ _ _ _ (naming.sized_Dec s) (is_written s 0 a h) (families.arithmetic_one op.Dec s a 0 h p)

pub meant_Imul_one : (s : Size) (a : Operand) (at len : ℕ) → IsOperand a → PlaceKind a
    → Meant at len (made op.Imul s a operand.Absent 0 0 false)
unfolding name_of operands_of drafted
meant_Imul_one s a at len h p = means_of _ _ _ _ (naming.sized_Imul s) (is_written s 0 a h) (families.product_one s a 0 h p)

pub meant_Imul_two : (s : Size) (n : ℕ) (b : Operand) (at len : ℕ) → n < 8 → IsOperand b → PlaceKind b
    → Meant at len (made op.Imul s (operand.Register n) b 0 0 false)
unfolding name_of operands_of drafted
meant_Imul_two s n (operand.Register m) at len l h p =
    means_of _ _ _ _ (naming.sized_Imul s) (h, l) (families.product_two s n (operand.Register m) 0 l h p)
meant_Imul_two s n (operand.Memory x) at len l h p =
    means_of _ _ _ _ (naming.sized_Imul s) (h, l) (families.product_two s n (operand.Memory x) 0 l h p)
meant_Imul_two s n _ at len l h p = absurd p

pub meant_ImulBy : (s : Size) (n : ℕ) (b : Operand) (imm : ℕ) (at len : ℕ) → n < 8 → IsOperand b → PlaceKind b → imm < 2 ^ 32
    → Meant at len (made op.ImulBy s (operand.Register n) b imm 0 false)
unfolding name_of operands_of drafted
meant_ImulBy s n b imm at len l h p k =
    means_of _ _ _ _ (naming.sized_ImulBy s) (tt, is_written s imm b h, l) (families.product_three s n b imm l h p k)

pub meant_Rol_number : (s : Size) (a : Operand) (imm : ℕ) (at len : ℕ) → IsOperand a → PlaceKind a → imm < 256
    → Meant at len (made op.Rol s a operand.Absent imm 0 false)
unfolding name_of operands_of drafted
meant_Rol_number s a imm at len h p l =
    means_of _ _ _ _ (naming.sized_Rol s) (tt, is_written s imm a h) (families.shift_number op.Rol s a imm h p l)

pub meant_Rol_register : (s : Size) (a : Operand) (at len : ℕ) → IsOperand a → PlaceKind a
    → Meant at len (made op.Rol s a (operand.Register 1) 0 0 false)
unfolding name_of operands_of drafted
meant_Rol_register s a at len h p =
    means_of _ _ _ _ (naming.sized_Rol s) (omega arith, is_written s 0 a h) (families.shift_register op.Rol s a 0 h p)

pub meant_Ror_number : (s : Size) (a : Operand) (imm : ℕ) (at len : ℕ) → IsOperand a → PlaceKind a → imm < 256
    → Meant at len (made op.Ror s a operand.Absent imm 0 false)
unfolding name_of operands_of drafted
meant_Ror_number s a imm at len h p l =
    means_of _ _ _ _ (naming.sized_Ror s) (tt, is_written s imm a h) (families.shift_number op.Ror s a imm h p l)

pub meant_Ror_register : (s : Size) (a : Operand) (at len : ℕ) → IsOperand a → PlaceKind a
    → Meant at len (made op.Ror s a (operand.Register 1) 0 0 false)
unfolding name_of operands_of drafted
meant_Ror_register s a at len h p =
    means_of _ _ _ _ (naming.sized_Ror s) (omega arith, is_written s 0 a h) (families.shift_register op.Ror s a 0 h p)

pub meant_Shl_number : (s : Size) (a : Operand) (imm : ℕ) (at len : ℕ) → IsOperand a → PlaceKind a → imm < 256
    → Meant at len (made op.Shl s a operand.Absent imm 0 false)
unfolding name_of operands_of drafted
meant_Shl_number s a imm at len h p l =
    means_of _ _ _ _ (naming.sized_Shl s) (tt, is_written s imm a h) (families.shift_number op.Shl s a imm h p l)

pub meant_Shl_register : (s : Size) (a : Operand) (at len : ℕ) → IsOperand a → PlaceKind a
    → Meant at len (made op.Shl s a (operand.Register 1) 0 0 false)
unfolding name_of operands_of drafted
meant_Shl_register s a at len h p =
    means_of _ _ _ _ (naming.sized_Shl s) (omega arith, is_written s 0 a h) (families.shift_register op.Shl s a 0 h p)

pub meant_Shr_number : (s : Size) (a : Operand) (imm : ℕ) (at len : ℕ) → IsOperand a → PlaceKind a → imm < 256
    → Meant at len (made op.Shr s a operand.Absent imm 0 false)
unfolding name_of operands_of drafted
meant_Shr_number s a imm at len h p l =
    means_of _ _ _ _ (naming.sized_Shr s) (tt, is_written s imm a h) (families.shift_number op.Shr s a imm h p l)

pub meant_Shr_register : (s : Size) (a : Operand) (at len : ℕ) → IsOperand a → PlaceKind a
    → Meant at len (made op.Shr s a (operand.Register 1) 0 0 false)
unfolding name_of operands_of drafted
meant_Shr_register s a at len h p =
    means_of _ _ _ _ (naming.sized_Shr s) (omega arith, is_written s 0 a h) (families.shift_register op.Shr s a 0 h p)

pub meant_Sar_number : (s : Size) (a : Operand) (imm : ℕ) (at len : ℕ) → IsOperand a → PlaceKind a → imm < 256
    → Meant at len (made op.Sar s a operand.Absent imm 0 false)
unfolding name_of operands_of drafted
meant_Sar_number s a imm at len h p l =
    means_of _ _ _ _ (naming.sized_Sar s) (tt, is_written s imm a h) (families.shift_number op.Sar s a imm h p l)

pub meant_Sar_register : (s : Size) (a : Operand) (at len : ℕ) → IsOperand a → PlaceKind a
    → Meant at len (made op.Sar s a (operand.Register 1) 0 0 false)
unfolding name_of operands_of drafted
meant_Sar_register s a at len h p =
    means_of _ _ _ _ (naming.sized_Sar s) (omega arith, is_written s 0 a h) (families.shift_register op.Sar s a 0 h p)

pub meant_Lea : (s : Size) (n : ℕ) (x : Address) (at len : ℕ) → n < 8 → IsOperand (operand.Memory x)
    → Meant at len (made op.Lea s (operand.Register n) (operand.Memory x) 0 0 false)
unfolding name_of operands_of drafted
meant_Lea s n x at len l h = means_of _ _ _ _ (naming.sized_Lea s) (h, l) (families.lea_drafts s n x 0 l h)

pub meant_Movzx_Byte : (n : ℕ) (b : Operand) (at len : ℕ) → n < 8 → IsOperand b → PlaceKind b
    → Meant at len (made op.Movzx size.Byte (operand.Register n) b 0 0 false)
unfolding name_of operands_of drafted
meant_Movzx_Byte n b at len l h p =
    means_of _ _ _ _ naming.widened_Movzx_Byte (is_written size.Byte 0 b h, l) (families.extend_drafts op.Movzx size.Byte n b 0 l h p)

pub meant_Movzx_Word : (n : ℕ) (b : Operand) (at len : ℕ) → n < 8 → IsOperand b → PlaceKind b
    → Meant at len (made op.Movzx size.Word (operand.Register n) b 0 0 false)
unfolding name_of operands_of drafted
meant_Movzx_Word n b at len l h p =
    means_of _ _ _ _ naming.widened_Movzx_Word (is_written size.Word 0 b h, l) (families.extend_drafts op.Movzx size.Word n b 0 l h p)

pub meant_Movsx_Byte : (n : ℕ) (b : Operand) (at len : ℕ) → n < 8 → IsOperand b → PlaceKind b
    → Meant at len (made op.Movsx size.Byte (operand.Register n) b 0 0 false)
unfolding name_of operands_of drafted
meant_Movsx_Byte n b at len l h p =
    means_of _ _ _ _ naming.widened_Movsx_Byte (is_written size.Byte 0 b h, l) (families.extend_drafts op.Movsx size.Byte n b 0 l h p)

pub meant_Movsx_Word : (n : ℕ) (b : Operand) (at len : ℕ) → n < 8 → IsOperand b → PlaceKind b
    → Meant at len (made op.Movsx size.Word (operand.Register n) b 0 0 false)
unfolding name_of operands_of drafted
meant_Movsx_Word n b at len l h p =
    means_of _ _ _ _ naming.widened_Movsx_Word (is_written size.Word 0 b h, l) (families.extend_drafts op.Movsx size.Word n b 0 l h p)

pub meant_Xchg_registers : (s : Size) (m n : ℕ) (at len : ℕ) → m ≤ n → m < 8 → n < 8
    → Meant at len (made op.Xchg s (operand.Register m) (operand.Register n) 0 0 false)
unfolding name_of operands_of drafted
meant_Xchg_registers s m n at len e l k = means_of _ _ _ _ (naming.sized_Xchg s) (k, l) (families.exchange_registers s m n 0 e l k)

pub meant_Xchg_memory : (s : Size) (x : Address) (n : ℕ) (at len : ℕ) → IsOperand (operand.Memory x) → n < 8
    → Meant at len (made op.Xchg s (operand.Memory x) (operand.Register n) 0 0 false)
unfolding name_of operands_of drafted
meant_Xchg_memory s x n at len h l = means_of _ _ _ _ (naming.sized_Xchg s) (l, h) (families.exchange_memory s x n 0 h l)

pub meant_ReadSeg : (a : Operand) (g : Seg) (at len : ℕ) → IsOperand a → PlaceKind a
    → Meant at len (made op.ReadSeg size.Long a (operand.Segment g) 0 0 false)
unfolding name_of operands_of drafted
meant_ReadSeg a g at len h p =
    means_of _ _ _ _ naming.bare_ReadSeg (tt, is_written size.Long 0 a h) (families.from_special_drafts a (operand.Segment g) 0 h p tt tt)

pub meant_ReadControl : (a : Operand) (c : ℕ) (at len : ℕ) → IsOperand a → PlaceKind a → is_control c ≡ true
    → Meant at len (made op.ReadControl size.Long a (operand.Control c) 0 0 false)
unfolding name_of operands_of drafted
meant_ReadControl a c at len h p i =
    means_of _ _ _ _ naming.bare_ReadControl (i, is_written size.Long 0 a h) (families.from_special_drafts a (operand.Control c) 0 h p i tt)

pub meant_LoadSeg : (g : Seg) (b : Operand) (at len : ℕ) → IsOperand b → PlaceKind b
    → Meant at len (made op.LoadSeg size.Long (operand.Segment g) b 0 0 false)
unfolding name_of operands_of drafted
meant_LoadSeg g b at len h p =
    means_of _ _ _ _ naming.bare_LoadSeg (is_written size.Long 0 b h, tt) (families.to_special_drafts (operand.Segment g) b 0 tt tt h p)

pub meant_WriteControl : (c : ℕ) (b : Operand) (at len : ℕ) → is_control c ≡ true → IsOperand b → PlaceKind b
    → Meant at len (made op.WriteControl size.Long (operand.Control c) b 0 0 false)
unfolding name_of operands_of drafted
meant_WriteControl c b at len i h p =
    means_of _ _ _ _ naming.bare_WriteControl (is_written size.Long 0 b h, i) (families.to_special_drafts (operand.Control c) b 0 i tt h p)

pub meant_Push_number : (imm : ℕ) (at len : ℕ) → imm < 2 ^ 32
    → Meant at len (made op.Push size.Long operand.Absent operand.Absent imm 0 false)
unfolding name_of operands_of drafted
meant_Push_number imm at len l = means_of _ _ _ _ (naming.sized_Push size.Long) tt (families.push_number imm l)

pub meant_Push_place : (a : Operand) (at len : ℕ) → IsOperand a → PlaceKind a
    → Meant at len (made op.Push size.Long a operand.Absent 0 0 false)
unfolding name_of operands_of drafted
meant_Push_place a at len h p = means_of _ _ _ _ (naming.sized_Push size.Long) (is_written size.Long 0 a h) (families.push_place a 0 h p)

pub meant_Pop : (a : Operand) (at len : ℕ) → IsOperand a → PlaceKind a → Meant at len (made op.Pop size.Long a operand.Absent 0 0 false)
unfolding name_of operands_of drafted
meant_Pop a at len h p = means_of _ _ _ _ (naming.sized_Pop size.Long) (is_written size.Long 0 a h) (families.pop_place a 0 h p)

pub meant_PushSeg : (g : Seg) (at len : ℕ) → Meant at len (made op.PushSeg size.Long (operand.Segment g) operand.Absent 0 0 false)
unfolding name_of operands_of drafted
meant_PushSeg g at len = means_of _ _ _ _ (naming.sized_PushSeg size.Long) tt (families.push_segment g)

pub meant_PopSeg : (g : Seg) (at len : ℕ) → Meant at len (made op.PopSeg size.Long (operand.Segment g) operand.Absent 0 0 false)
unfolding name_of operands_of drafted
meant_PopSeg g at len = means_of _ _ _ _ (naming.sized_PopSeg size.Long) tt (families.pop_segment g)

pub meant_JumpTo : (a : Operand) (at len : ℕ) → IsOperand a → PlaceKind a
    → Meant at len (made op.JumpTo size.Long a operand.Absent 0 0 false)
unfolding name_of operands_of drafted
meant_JumpTo a at len h p =
    means_of _ _ _ _ naming.bare_JumpTo (is_written size.Long 0 a h) (families.starred_drafts op.Jmp op.JumpTo a 0 h p)

pub meant_CallTo : (a : Operand) (at len : ℕ) → IsOperand a → PlaceKind a
    → Meant at len (made op.CallTo size.Long a operand.Absent 0 0 false)
unfolding name_of operands_of drafted
meant_CallTo a at len h p =
    means_of _ _ _ _ naming.bare_CallTo (is_written size.Long 0 a h) (families.starred_drafts op.Call op.CallTo a 0 h p)

pub meant_Setcc : (a : Operand) (c : ℕ) (at len : ℕ) → IsOperand a → PlaceKind a → c < 16
    → Meant at len (made op.Setcc size.Byte a operand.Absent 0 c false)
unfolding name_of operands_of drafted
meant_Setcc a c at len h p l = means_of _ _ _ _ (naming.set_named c l) (is_written size.Byte 0 a h) (families.set_drafts c a 0 h p)

pub meant_Int : (imm : ℕ) (at len : ℕ) → imm < 256 → Meant at len (made op.Int size.Long operand.Absent operand.Absent imm 0 false)
unfolding name_of operands_of drafted
meant_Int imm at len l = means_of _ _ _ _ naming.bare_Int tt (families.interrupt_drafts imm l)

return_by : (b : Bool) (imm : ℕ) → (b ≡ true → imm ≡ 0) → imm < 65536
    → Means (made op.Return size.Long operand.Absent operand.Absent imm 0 false) (stem op.Return ++ [])
    (if b then operands.Nothing else operands.One (written.Immediate imm))
unfolding drafted
return_by true imm e l =
    subst (λ n. Means (made op.Return size.Long operand.Absent operand.Absent n 0 false) (stem op.Return ++ []) operands.Nothing)
    (sym (e refl))
    (means_of _ _ _ _ naming.bare_Return tt families.return_drafts)
return_by false imm e l = means_of _ _ _ _ naming.bare_Return tt (families.return_number imm l)

pub meant_Return : (imm : ℕ) (at len : ℕ) → imm < 65536 → Meant at len (made op.Return size.Long operand.Absent operand.Absent imm 0 false)
unfolding name_of operands_of drafted
meant_Return imm at len l = return_by (imm == 0) imm (λ e. eqb-true imm 0 e) l

pub meant_FarJump : (imm sel : ℕ) (at len : ℕ) → imm < 2 ^ 32 → sel < 65536
    → Meant at len (made op.FarJump size.Long operand.Absent operand.Absent imm sel false)
unfolding name_of operands_of drafted
meant_FarJump imm sel at len l k = means_of _ _ _ _ naming.bare_FarJump (tt, tt) (families.far_drafts imm sel l k)

pub meant_LoadGdt : (x : Address) (at len : ℕ) → IsOperand (operand.Memory x)
    → Meant at len (made op.LoadGdt size.Long (operand.Memory x) operand.Absent 0 0 false)
unfolding name_of operands_of drafted
meant_LoadGdt x at len h =
    means_of _ _ _ _ (naming.sized_LoadGdt size.Long) h (families.memory_drafts op.LoadGdt (Some size.Long) x 0 (agreed_first size.Long) h)

pub meant_LoadIdt : (x : Address) (at len : ℕ) → IsOperand (operand.Memory x)
    → Meant at len (made op.LoadIdt size.Long (operand.Memory x) operand.Absent 0 0 false)
unfolding name_of operands_of drafted
meant_LoadIdt x at len h =
    means_of _ _ _ _ (naming.sized_LoadIdt size.Long) h (families.memory_drafts op.LoadIdt (Some size.Long) x 0 (agreed_first size.Long) h)

pub meant_DropPage : (x : Address) (at len : ℕ) → IsOperand (operand.Memory x)
    → Meant at len (made op.DropPage size.Long (operand.Memory x) operand.Absent 0 0 false)
unfolding name_of operands_of drafted
meant_DropPage x at len h = means_of _ _ _ _ naming.bare_DropPage h (families.memory_drafts op.DropPage None x 0 agreed_none h)

pub meant_LoadTask : (a : Operand) (at len : ℕ) → IsOperand a → PlaceKind a
    → Meant at len (made op.LoadTask size.Long a operand.Absent 0 0 false)
unfolding name_of operands_of drafted
meant_LoadTask a at len h p = means_of _ _ _ _ naming.bare_LoadTask (is_written size.Word 0 a h) (families.task_drafts a 0 h p)

pub meant_PortIn_number : (s : Size) (imm : ℕ) (at len : ℕ) → imm < 256
    → Meant at len (made op.PortIn s operand.Absent operand.Absent imm 0 false)
unfolding name_of operands_of drafted
meant_PortIn_number s imm at len l = means_of _ _ _ _ (naming.sized_PortIn s) (tt, omega arith) (families.in_number s imm l)

pub meant_PortIn_port : (s : Size) (at len : ℕ) → Meant at len (made op.PortIn s operand.Absent (operand.Register 2) 0 0 false)
unfolding name_of operands_of drafted
meant_PortIn_port s at len = means_of _ _ _ _ (naming.sized_PortIn s) (tt, omega arith) (families.in_port s)

pub meant_PortOut_number : (s : Size) (imm : ℕ) (at len : ℕ) → imm < 256
    → Meant at len (made op.PortOut s operand.Absent operand.Absent imm 0 false)
unfolding name_of operands_of drafted
meant_PortOut_number s imm at len l = means_of _ _ _ _ (naming.sized_PortOut s) (omega arith, tt) (families.out_number s imm l)

pub meant_PortOut_port : (s : Size) (at len : ℕ) → Meant at len (made op.PortOut s operand.Absent (operand.Register 2) 0 0 false)
unfolding name_of operands_of drafted
meant_PortOut_port s at len = means_of _ _ _ _ (naming.sized_PortOut s) (omega arith, tt) (families.out_port s)

pub meant_Pusha : (at len : ℕ) → Meant at len (made op.Pusha size.Long operand.Absent operand.Absent 0 0 false)
unfolding name_of operands_of drafted
meant_Pusha at len = means_of _ _ _ _ naming.bare_Pusha tt (families.plain_drafts op.Pusha)

pub meant_Popa : (at len : ℕ) → Meant at len (made op.Popa size.Long operand.Absent operand.Absent 0 0 false)
unfolding name_of operands_of drafted
meant_Popa at len = means_of _ _ _ _ naming.bare_Popa tt (families.plain_drafts op.Popa)

pub meant_Cwde : (at len : ℕ) → Meant at len (made op.Cwde size.Long operand.Absent operand.Absent 0 0 false)
unfolding name_of operands_of drafted
meant_Cwde at len = means_of _ _ _ _ naming.bare_Cwde tt (families.plain_drafts op.Cwde)

pub meant_Cdq : (at len : ℕ) → Meant at len (made op.Cdq size.Long operand.Absent operand.Absent 0 0 false)
unfolding name_of operands_of drafted
meant_Cdq at len = means_of _ _ _ _ naming.bare_Cdq tt (families.plain_drafts op.Cdq)

pub meant_Leave : (at len : ℕ) → Meant at len (made op.Leave size.Long operand.Absent operand.Absent 0 0 false)
unfolding name_of operands_of drafted
meant_Leave at len = means_of _ _ _ _ naming.bare_Leave tt (families.plain_drafts op.Leave)

pub meant_Nop : (at len : ℕ) → Meant at len (made op.Nop size.Long operand.Absent operand.Absent 0 0 false)
unfolding name_of operands_of drafted
meant_Nop at len = means_of _ _ _ _ naming.bare_Nop tt (families.plain_drafts op.Nop)

pub meant_Int3 : (at len : ℕ) → Meant at len (made op.Int3 size.Long operand.Absent operand.Absent 0 0 false)
unfolding name_of operands_of drafted
meant_Int3 at len = means_of _ _ _ _ naming.bare_Int3 tt (families.plain_drafts op.Int3)

pub meant_Ud2 : (at len : ℕ) → Meant at len (made op.Ud2 size.Long operand.Absent operand.Absent 0 0 false)
unfolding name_of operands_of drafted
meant_Ud2 at len = means_of _ _ _ _ naming.bare_Ud2 tt (families.plain_drafts op.Ud2)

pub meant_Clc : (at len : ℕ) → Meant at len (made op.Clc size.Long operand.Absent operand.Absent 0 0 false)
unfolding name_of operands_of drafted
meant_Clc at len = means_of _ _ _ _ naming.bare_Clc tt (families.plain_drafts op.Clc)

pub meant_Stc : (at len : ℕ) → Meant at len (made op.Stc size.Long operand.Absent operand.Absent 0 0 false)
unfolding name_of operands_of drafted
meant_Stc at len = means_of _ _ _ _ naming.bare_Stc tt (families.plain_drafts op.Stc)

pub meant_Cld : (at len : ℕ) → Meant at len (made op.Cld size.Long operand.Absent operand.Absent 0 0 false)
unfolding name_of operands_of drafted
meant_Cld at len = means_of _ _ _ _ naming.bare_Cld tt (families.plain_drafts op.Cld)

pub meant_Std : (at len : ℕ) → Meant at len (made op.Std size.Long operand.Absent operand.Absent 0 0 false)
unfolding name_of operands_of drafted
meant_Std at len = means_of _ _ _ _ naming.bare_Std tt (families.plain_drafts op.Std)

pub meant_Cli : (at len : ℕ) → Meant at len (made op.Cli size.Long operand.Absent operand.Absent 0 0 false)
unfolding name_of operands_of drafted
meant_Cli at len = means_of _ _ _ _ naming.bare_Cli tt (families.plain_drafts op.Cli)

pub meant_Sti : (at len : ℕ) → Meant at len (made op.Sti size.Long operand.Absent operand.Absent 0 0 false)
unfolding name_of operands_of drafted
meant_Sti at len = means_of _ _ _ _ naming.bare_Sti tt (families.plain_drafts op.Sti)

pub meant_Hlt : (at len : ℕ) → Meant at len (made op.Hlt size.Long operand.Absent operand.Absent 0 0 false)
unfolding name_of operands_of drafted
meant_Hlt at len = means_of _ _ _ _ naming.bare_Hlt tt (families.plain_drafts op.Hlt)

pub meant_PushFlags : (at len : ℕ) → Meant at len (made op.PushFlags size.Long operand.Absent operand.Absent 0 0 false)
unfolding name_of operands_of drafted
meant_PushFlags at len = means_of _ _ _ _ naming.bare_PushFlags tt (families.plain_drafts op.PushFlags)

pub meant_PopFlags : (at len : ℕ) → Meant at len (made op.PopFlags size.Long operand.Absent operand.Absent 0 0 false)
unfolding name_of operands_of drafted
meant_PopFlags at len = means_of _ _ _ _ naming.bare_PopFlags tt (families.plain_drafts op.PopFlags)

pub meant_Iret : (at len : ℕ) → Meant at len (made op.Iret size.Long operand.Absent operand.Absent 0 0 false)
unfolding name_of operands_of drafted
meant_Iret at len = means_of _ _ _ _ naming.bare_Iret tt (families.plain_drafts op.Iret)

pub meant_Movs_Byte : (at len : ℕ) (rep : Bool) → Meant at len (made op.Movs size.Byte operand.Absent operand.Absent 0 0 rep)
unfolding name_of operands_of drafted
meant_Movs_Byte at len true = means_of _ _ _ _ naming.string_Movs_Byte tt (families.string_drafts true op.Movs size.Byte)
meant_Movs_Byte at len false = means_of _ _ _ _ naming.string_Movs_Byte tt (families.string_drafts false op.Movs size.Byte)

pub meant_Movs_Long : (at len : ℕ) (rep : Bool) → Meant at len (made op.Movs size.Long operand.Absent operand.Absent 0 0 rep)
unfolding name_of operands_of drafted
meant_Movs_Long at len true = means_of _ _ _ _ naming.string_Movs_Long tt (families.string_drafts true op.Movs size.Long)
meant_Movs_Long at len false = means_of _ _ _ _ naming.string_Movs_Long tt (families.string_drafts false op.Movs size.Long)

pub meant_Stos_Byte : (at len : ℕ) (rep : Bool) → Meant at len (made op.Stos size.Byte operand.Absent operand.Absent 0 0 rep)
unfolding name_of operands_of drafted
meant_Stos_Byte at len true = means_of _ _ _ _ naming.string_Stos_Byte tt (families.string_drafts true op.Stos size.Byte)
meant_Stos_Byte at len false = means_of _ _ _ _ naming.string_Stos_Byte tt (families.string_drafts false op.Stos size.Byte)

pub meant_Stos_Long : (at len : ℕ) (rep : Bool) → Meant at len (made op.Stos size.Long operand.Absent operand.Absent 0 0 rep)
unfolding name_of operands_of drafted
meant_Stos_Long at len true = means_of _ _ _ _ naming.string_Stos_Long tt (families.string_drafts true op.Stos size.Long)
meant_Stos_Long at len false = means_of _ _ _ _ naming.string_Stos_Long tt (families.string_drafts false op.Stos size.Long)

pub meant_Lods_Byte : (at len : ℕ) (rep : Bool) → Meant at len (made op.Lods size.Byte operand.Absent operand.Absent 0 0 rep)
unfolding name_of operands_of drafted
meant_Lods_Byte at len true = means_of _ _ _ _ naming.string_Lods_Byte tt (families.string_drafts true op.Lods size.Byte)
meant_Lods_Byte at len false = means_of _ _ _ _ naming.string_Lods_Byte tt (families.string_drafts false op.Lods size.Byte)

pub meant_Lods_Long : (at len : ℕ) (rep : Bool) → Meant at len (made op.Lods size.Long operand.Absent operand.Absent 0 0 rep)
unfolding name_of operands_of drafted
meant_Lods_Long at len true = means_of _ _ _ _ naming.string_Lods_Long tt (families.string_drafts true op.Lods size.Long)
meant_Lods_Long at len false = means_of _ _ _ _ naming.string_Lods_Long tt (families.string_drafts false op.Lods size.Long)
