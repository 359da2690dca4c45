-- The names of instructions are known.
use Rattle.std.proofs.Common.{◌≡◌, ℕ, zero, suc, ◌<◌, ◌++◌, [], Option, Some, None, refl, arith}
use Rattle.std.specs.Prelude.{codes}
use Rattle.ia32_types.specs.declared.insn.Op.TheVariants as op
use Rattle.ia32_types.specs.declared.size.Size.{Size}
use Rattle.ia32_types.specs.declared.size.Size.TheVariants as size
use Rattle.asm_instruction.specs.declared.arithmetic.Arithmetic.TheVariants as arithmetic
use Rattle.asm_instruction.specs.declared.moves.Moves.TheVariants as moves
use Rattle.asm_instruction.specs.declared.stack.Stack.TheVariants as stack
use Rattle.asm_instruction.specs.declared.control.Control.TheVariants as control
use Rattle.asm_instruction.specs.declared.system.System.TheVariants as system
use Rattle.asm_instruction.specs.declared.mnemonic.Family.{Family}
use Rattle.asm_instruction.specs.declared.mnemonic.Family.TheVariants as family
use Rattle.asm_instruction.specs.declared.mnemonic.Mnemonic.{Mnemonic}
use Rattle.asm_instruction.specs.Arithmetic.{arithmetic_names}
use Rattle.asm_instruction.specs.Shift.{shift_names}
use Rattle.asm_instruction.specs.Moves.{move_names, extend_names}
use Rattle.asm_instruction.specs.Stack.{stack_names, frame_names}
use Rattle.asm_instruction.specs.Condition.{conditions}
use Rattle.asm_instruction.specs.Control.{branch_names, control_names, conditional_name}
use Rattle.asm_instruction.specs.Strings.{string_names}
use Rattle.asm_instruction.specs.Flags.{plain_names}
use Rattle.asm_instruction.specs.System.{system_names, page_names}
use Rattle.asm_instruction.specs.Mnemonic.{exact_names, sized_names, suffixed, with_suffix, known_name}
use Rattle.ia32_text.specs.Names.{stem, condition_name}
use Rattle.ia32_text.specs.Statement.{letter}

-- with this suffix, or none
abbrev pub named : Family → Option Size → Mnemonic
named f s = record { family = f; suffix = s }

pub sized_Add : (s : Size) → known_name (stem op.Add ++ letter s) ≡ Some (named (family.Arithmetic (arithmetic.Two op.Add)) (Some s))
unfolding stem condition_name known_name conditional_name exact_names sized_names conditions with_suffix suffixed plain_names frame_names
    extend_names string_names page_names control_names arithmetic_names shift_names move_names stack_names branch_names system_names
sized_Add size.Byte = refl
sized_Add size.Word = refl
sized_Add size.Long = refl

pub sized_Or : (s : Size) → known_name (stem op.Or ++ letter s) ≡ Some (named (family.Arithmetic (arithmetic.Two op.Or)) (Some s))
unfolding stem condition_name known_name conditional_name exact_names sized_names conditions with_suffix suffixed plain_names frame_names
    extend_names string_names page_names control_names arithmetic_names shift_names move_names stack_names branch_names system_names
sized_Or size.Byte = refl
sized_Or size.Word = refl
sized_Or size.Long = refl

pub sized_Adc : (s : Size) → known_name (stem op.Adc ++ letter s) ≡ Some (named (family.Arithmetic (arithmetic.Two op.Adc)) (Some s))
unfolding stem condition_name known_name conditional_name exact_names sized_names conditions with_suffix suffixed plain_names frame_names
    extend_names string_names page_names control_names arithmetic_names shift_names move_names stack_names branch_names system_names
sized_Adc size.Byte = refl
sized_Adc size.Word = refl
sized_Adc size.Long = refl

pub sized_Sbb : (s : Size) → known_name (stem op.Sbb ++ letter s) ≡ Some (named (family.Arithmetic (arithmetic.Two op.Sbb)) (Some s))
unfolding stem condition_name known_name conditional_name exact_names sized_names conditions with_suffix suffixed plain_names frame_names
    extend_names string_names page_names control_names arithmetic_names shift_names move_names stack_names branch_names system_names
sized_Sbb size.Byte = refl
sized_Sbb size.Word = refl
sized_Sbb size.Long = refl

pub sized_And : (s : Size) → known_name (stem op.And ++ letter s) ≡ Some (named (family.Arithmetic (arithmetic.Two op.And)) (Some s))
unfolding stem condition_name known_name conditional_name exact_names sized_names conditions with_suffix suffixed plain_names frame_names
    extend_names string_names page_names control_names arithmetic_names shift_names move_names stack_names branch_names system_names
sized_And size.Byte = refl
sized_And size.Word = refl
sized_And size.Long = refl

pub sized_Sub : (s : Size) → known_name (stem op.Sub ++ letter s) ≡ Some (named (family.Arithmetic (arithmetic.Two op.Sub)) (Some s))
unfolding stem condition_name known_name conditional_name exact_names sized_names conditions with_suffix suffixed plain_names frame_names
    extend_names string_names page_names control_names arithmetic_names shift_names move_names stack_names branch_names system_names
sized_Sub size.Byte = refl
sized_Sub size.Word = refl
sized_Sub size.Long = refl

pub sized_Xor : (s : Size) → known_name (stem op.Xor ++ letter s) ≡ Some (named (family.Arithmetic (arithmetic.Two op.Xor)) (Some s))
unfolding stem condition_name known_name conditional_name exact_names sized_names conditions with_suffix suffixed plain_names frame_names
    extend_names string_names page_names control_names arithmetic_names shift_names move_names stack_names branch_names system_names
sized_Xor size.Byte = refl
sized_Xor size.Word = refl
sized_Xor size.Long = refl

pub sized_Cmp : (s : Size) → known_name (stem op.Cmp ++ letter s) ≡ Some (named (family.Arithmetic (arithmetic.Two op.Cmp)) (Some s))
unfolding stem condition_name known_name conditional_name exact_names sized_names conditions with_suffix suffixed plain_names frame_names
    extend_names string_names page_names control_names arithmetic_names shift_names move_names stack_names branch_names system_names
sized_Cmp size.Byte = refl
sized_Cmp size.Word = refl
sized_Cmp size.Long = refl

pub sized_Not : (s : Size) → known_name (stem op.Not ++ letter s) ≡ Some (named (family.Arithmetic (arithmetic.One op.Not)) (Some s))
unfolding stem condition_name known_name conditional_name exact_names sized_names conditions with_suffix suffixed plain_names frame_names
    extend_names string_names page_names control_names arithmetic_names shift_names move_names stack_names branch_names system_names
sized_Not size.Byte = refl
sized_Not size.Word = refl
sized_Not size.Long = refl

pub sized_Neg : (s : Size) → known_name (stem op.Neg ++ letter s) ≡ Some (named (family.Arithmetic (arithmetic.One op.Neg)) (Some s))
unfolding stem condition_name known_name conditional_name exact_names sized_names conditions with_suffix suffixed plain_names frame_names
    extend_names string_names page_names control_names arithmetic_names shift_names move_names stack_names branch_names system_names
sized_Neg size.Byte = refl
sized_Neg size.Word = refl
sized_Neg size.Long = refl

pub sized_Mul : (s : Size) → known_name (stem op.Mul ++ letter s) ≡ Some (named (family.Arithmetic (arithmetic.One op.Mul)) (Some s))
unfolding stem condition_name known_name conditional_name exact_names sized_names conditions with_suffix suffixed plain_names frame_names
    extend_names string_names page_names control_names arithmetic_names shift_names move_names stack_names branch_names system_names
sized_Mul size.Byte = refl
sized_Mul size.Word = refl
sized_Mul size.Long = refl

pub sized_Div : (s : Size) → known_name (stem op.Div ++ letter s) ≡ Some (named (family.Arithmetic (arithmetic.One op.Div)) (Some s))
unfolding stem condition_name known_name conditional_name exact_names sized_names conditions with_suffix suffixed plain_names frame_names
    extend_names string_names page_names control_names arithmetic_names shift_names move_names stack_names branch_names system_names
sized_Div size.Byte = refl
sized_Div size.Word = refl
sized_Div size.Long = refl

pub sized_Idiv : (s : Size) → known_name (stem op.Idiv ++ letter s) ≡ Some (named (family.Arithmetic (arithmetic.One op.Idiv)) (Some s))
unfolding stem condition_name known_name conditional_name exact_names sized_names conditions with_suffix suffixed plain_names frame_names
    extend_names string_names page_names control_names arithmetic_names shift_names move_names stack_names branch_names system_names
sized_Idiv size.Byte = refl
sized_Idiv size.Word = refl
sized_Idiv size.Long = refl

pub sized_Inc : (s : Size) → known_name (stem op.Inc ++ letter s) ≡ Some (named (family.Arithmetic (arithmetic.One op.Inc)) (Some s))
unfolding stem condition_name known_name conditional_name exact_names sized_names conditions with_suffix suffixed plain_names frame_names
    extend_names string_names page_names control_names arithmetic_names shift_names move_names stack_names branch_names system_names
sized_Inc size.Byte = refl
sized_Inc size.Word = refl
sized_Inc size.Long = refl

pub sized_Dec : (s : Size) → known_name (stem op.Dec ++ letter s) ≡ Some (named (family.Arithmetic (arithmetic.One op.Dec)) (Some s))
unfolding stem condition_name known_name conditional_name exact_names sized_names conditions with_suffix suffixed plain_names frame_names
    extend_names string_names page_names control_names arithmetic_names shift_names move_names stack_names branch_names system_names
sized_Dec size.Byte = refl
sized_Dec size.Word = refl
sized_Dec size.Long = refl

pub sized_Rol : (s : Size) → known_name (stem op.Rol ++ letter s) ≡ Some (named (family.Shift op.Rol) (Some s))
unfolding stem condition_name known_name conditional_name exact_names sized_names conditions with_suffix suffixed plain_names frame_names
    extend_names string_names page_names control_names arithmetic_names shift_names move_names stack_names branch_names system_names
sized_Rol size.Byte = refl
sized_Rol size.Word = refl
sized_Rol size.Long = refl

pub sized_Ror : (s : Size) → known_name (stem op.Ror ++ letter s) ≡ Some (named (family.Shift op.Ror) (Some s))
unfolding stem condition_name known_name conditional_name exact_names sized_names conditions with_suffix suffixed plain_names frame_names
    extend_names string_names page_names control_names arithmetic_names shift_names move_names stack_names branch_names system_names
sized_Ror size.Byte = refl
sized_Ror size.Word = refl
sized_Ror size.Long = refl

pub sized_Shl : (s : Size) → known_name (stem op.Shl ++ letter s) ≡ Some (named (family.Shift op.Shl) (Some s))
unfolding stem condition_name known_name conditional_name exact_names sized_names conditions with_suffix suffixed plain_names frame_names
    extend_names string_names page_names control_names arithmetic_names shift_names move_names stack_names branch_names system_names
sized_Shl size.Byte = refl
sized_Shl size.Word = refl
sized_Shl size.Long = refl

pub sized_Shr : (s : Size) → known_name (stem op.Shr ++ letter s) ≡ Some (named (family.Shift op.Shr) (Some s))
unfolding stem condition_name known_name conditional_name exact_names sized_names conditions with_suffix suffixed plain_names frame_names
    extend_names string_names page_names control_names arithmetic_names shift_names move_names stack_names branch_names system_names
sized_Shr size.Byte = refl
sized_Shr size.Word = refl
sized_Shr size.Long = refl

pub sized_Sar : (s : Size) → known_name (stem op.Sar ++ letter s) ≡ Some (named (family.Shift op.Sar) (Some s))
unfolding stem condition_name known_name conditional_name exact_names sized_names conditions with_suffix suffixed plain_names frame_names
    extend_names string_names page_names control_names arithmetic_names shift_names move_names stack_names branch_names system_names
sized_Sar size.Byte = refl
sized_Sar size.Word = refl
sized_Sar size.Long = refl

pub sized_Test : (s : Size) → known_name (stem op.Test ++ letter s) ≡ Some (named (family.Arithmetic arithmetic.Test) (Some s))
unfolding stem condition_name known_name conditional_name exact_names sized_names conditions with_suffix suffixed plain_names frame_names
    extend_names string_names page_names control_names arithmetic_names shift_names move_names stack_names branch_names system_names
sized_Test size.Byte = refl
sized_Test size.Word = refl
sized_Test size.Long = refl

pub sized_Imul : (s : Size) → known_name (stem op.Imul ++ letter s) ≡ Some (named (family.Arithmetic arithmetic.Multiply) (Some s))
unfolding stem condition_name known_name conditional_name exact_names sized_names conditions with_suffix suffixed plain_names frame_names
    extend_names string_names page_names control_names arithmetic_names shift_names move_names stack_names branch_names system_names
sized_Imul size.Byte = refl
sized_Imul size.Word = refl
sized_Imul size.Long = refl

pub sized_ImulBy : (s : Size) → known_name (stem op.ImulBy ++ letter s) ≡ Some (named (family.Arithmetic arithmetic.Multiply) (Some s))
unfolding stem condition_name known_name conditional_name exact_names sized_names conditions with_suffix suffixed plain_names frame_names
    extend_names string_names page_names control_names arithmetic_names shift_names move_names stack_names branch_names system_names
sized_ImulBy size.Byte = refl
sized_ImulBy size.Word = refl
sized_ImulBy size.Long = refl

pub sized_Mov : (s : Size) → known_name (stem op.Mov ++ letter s) ≡ Some (named (family.Moves moves.Move) (Some s))
unfolding stem condition_name known_name conditional_name exact_names sized_names conditions with_suffix suffixed plain_names frame_names
    extend_names string_names page_names control_names arithmetic_names shift_names move_names stack_names branch_names system_names
sized_Mov size.Byte = refl
sized_Mov size.Word = refl
sized_Mov size.Long = refl

pub sized_Lea : (s : Size) → known_name (stem op.Lea ++ letter s) ≡ Some (named (family.Moves moves.Lea) (Some s))
unfolding stem condition_name known_name conditional_name exact_names sized_names conditions with_suffix suffixed plain_names frame_names
    extend_names string_names page_names control_names arithmetic_names shift_names move_names stack_names branch_names system_names
sized_Lea size.Byte = refl
sized_Lea size.Word = refl
sized_Lea size.Long = refl

pub sized_Xchg : (s : Size) → known_name (stem op.Xchg ++ letter s) ≡ Some (named (family.Moves moves.Exchange) (Some s))
unfolding stem condition_name known_name conditional_name exact_names sized_names conditions with_suffix suffixed plain_names frame_names
    extend_names string_names page_names control_names arithmetic_names shift_names move_names stack_names branch_names system_names
sized_Xchg size.Byte = refl
sized_Xchg size.Word = refl
sized_Xchg size.Long = refl

pub sized_Push : (s : Size) → known_name (stem op.Push ++ letter s) ≡ Some (named (family.Stack stack.Push) (Some s))
unfolding stem condition_name known_name conditional_name exact_names sized_names conditions with_suffix suffixed plain_names frame_names
    extend_names string_names page_names control_names arithmetic_names shift_names move_names stack_names branch_names system_names
sized_Push size.Byte = refl
sized_Push size.Word = refl
sized_Push size.Long = refl

pub sized_Pop : (s : Size) → known_name (stem op.Pop ++ letter s) ≡ Some (named (family.Stack stack.Pop) (Some s))
unfolding stem condition_name known_name conditional_name exact_names sized_names conditions with_suffix suffixed plain_names frame_names
    extend_names string_names page_names control_names arithmetic_names shift_names move_names stack_names branch_names system_names
sized_Pop size.Byte = refl
sized_Pop size.Word = refl
sized_Pop size.Long = refl

pub sized_PushSeg : (s : Size) → known_name (stem op.PushSeg ++ letter s) ≡ Some (named (family.Stack stack.Push) (Some s))
unfolding stem condition_name known_name conditional_name exact_names sized_names conditions with_suffix suffixed plain_names frame_names
    extend_names string_names page_names control_names arithmetic_names shift_names move_names stack_names branch_names system_names
sized_PushSeg size.Byte = refl
sized_PushSeg size.Word = refl
sized_PushSeg size.Long = refl

pub sized_PopSeg : (s : Size) → known_name (stem op.PopSeg ++ letter s) ≡ Some (named (family.Stack stack.Pop) (Some s))
unfolding stem condition_name known_name conditional_name exact_names sized_names conditions with_suffix suffixed plain_names frame_names
    extend_names string_names page_names control_names arithmetic_names shift_names move_names stack_names branch_names system_names
sized_PopSeg size.Byte = refl
sized_PopSeg size.Word = refl
sized_PopSeg size.Long = refl

pub sized_LoadGdt : (s : Size) → known_name (stem op.LoadGdt ++ letter s) ≡ Some (named (family.System (system.Memory op.LoadGdt)) (Some s))
unfolding stem condition_name known_name conditional_name exact_names sized_names conditions with_suffix suffixed plain_names frame_names
    extend_names string_names page_names control_names arithmetic_names shift_names move_names stack_names branch_names system_names
sized_LoadGdt size.Byte = refl
sized_LoadGdt size.Word = refl
sized_LoadGdt size.Long = refl

pub sized_LoadIdt : (s : Size) → known_name (stem op.LoadIdt ++ letter s) ≡ Some (named (family.System (system.Memory op.LoadIdt)) (Some s))
unfolding stem condition_name known_name conditional_name exact_names sized_names conditions with_suffix suffixed plain_names frame_names
    extend_names string_names page_names control_names arithmetic_names shift_names move_names stack_names branch_names system_names
sized_LoadIdt size.Byte = refl
sized_LoadIdt size.Word = refl
sized_LoadIdt size.Long = refl

pub sized_PortIn : (s : Size) → known_name (stem op.PortIn ++ letter s) ≡ Some (named (family.System system.In) (Some s))
unfolding stem condition_name known_name conditional_name exact_names sized_names conditions with_suffix suffixed plain_names frame_names
    extend_names string_names page_names control_names arithmetic_names shift_names move_names stack_names branch_names system_names
sized_PortIn size.Byte = refl
sized_PortIn size.Word = refl
sized_PortIn size.Long = refl

pub sized_PortOut : (s : Size) → known_name (stem op.PortOut ++ letter s) ≡ Some (named (family.System system.Out) (Some s))
unfolding stem condition_name known_name conditional_name exact_names sized_names conditions with_suffix suffixed plain_names frame_names
    extend_names string_names page_names control_names arithmetic_names shift_names move_names stack_names branch_names system_names
sized_PortOut size.Byte = refl
sized_PortOut size.Word = refl
sized_PortOut size.Long = refl

pub bare_Pusha : known_name (stem op.Pusha ++ []) ≡ Some (named (family.Plain op.Pusha) None)
unfolding stem condition_name known_name conditional_name exact_names sized_names conditions with_suffix suffixed plain_names frame_names
    extend_names string_names page_names control_names arithmetic_names shift_names move_names stack_names branch_names system_names
bare_Pusha = refl

pub bare_Popa : known_name (stem op.Popa ++ []) ≡ Some (named (family.Plain op.Popa) None)
unfolding stem condition_name known_name conditional_name exact_names sized_names conditions with_suffix suffixed plain_names frame_names
    extend_names string_names page_names control_names arithmetic_names shift_names move_names stack_names branch_names system_names
bare_Popa = refl

pub bare_Cwde : known_name (stem op.Cwde ++ []) ≡ Some (named (family.Plain op.Cwde) None)
unfolding stem condition_name known_name conditional_name exact_names sized_names conditions with_suffix suffixed plain_names frame_names
    extend_names string_names page_names control_names arithmetic_names shift_names move_names stack_names branch_names system_names
bare_Cwde = refl

pub bare_Cdq : known_name (stem op.Cdq ++ []) ≡ Some (named (family.Plain op.Cdq) None)
unfolding stem condition_name known_name conditional_name exact_names sized_names conditions with_suffix suffixed plain_names frame_names
    extend_names string_names page_names control_names arithmetic_names shift_names move_names stack_names branch_names system_names
bare_Cdq = refl

pub bare_Leave : known_name (stem op.Leave ++ []) ≡ Some (named (family.Plain op.Leave) None)
unfolding stem condition_name known_name conditional_name exact_names sized_names conditions with_suffix suffixed plain_names frame_names
    extend_names string_names page_names control_names arithmetic_names shift_names move_names stack_names branch_names system_names
bare_Leave = refl

pub bare_Nop : known_name (stem op.Nop ++ []) ≡ Some (named (family.Plain op.Nop) None)
unfolding stem condition_name known_name conditional_name exact_names sized_names conditions with_suffix suffixed plain_names frame_names
    extend_names string_names page_names control_names arithmetic_names shift_names move_names stack_names branch_names system_names
bare_Nop = refl

pub bare_Int3 : known_name (stem op.Int3 ++ []) ≡ Some (named (family.Plain op.Int3) None)
unfolding stem condition_name known_name conditional_name exact_names sized_names conditions with_suffix suffixed plain_names frame_names
    extend_names string_names page_names control_names arithmetic_names shift_names move_names stack_names branch_names system_names
bare_Int3 = refl

pub bare_Ud2 : known_name (stem op.Ud2 ++ []) ≡ Some (named (family.Plain op.Ud2) None)
unfolding stem condition_name known_name conditional_name exact_names sized_names conditions with_suffix suffixed plain_names frame_names
    extend_names string_names page_names control_names arithmetic_names shift_names move_names stack_names branch_names system_names
bare_Ud2 = refl

pub bare_Clc : known_name (stem op.Clc ++ []) ≡ Some (named (family.Plain op.Clc) None)
unfolding stem condition_name known_name conditional_name exact_names sized_names conditions with_suffix suffixed plain_names frame_names
    extend_names string_names page_names control_names arithmetic_names shift_names move_names stack_names branch_names system_names
bare_Clc = refl

pub bare_Stc : known_name (stem op.Stc ++ []) ≡ Some (named (family.Plain op.Stc) None)
unfolding stem condition_name known_name conditional_name exact_names sized_names conditions with_suffix suffixed plain_names frame_names
    extend_names string_names page_names control_names arithmetic_names shift_names move_names stack_names branch_names system_names
bare_Stc = refl

pub bare_Cld : known_name (stem op.Cld ++ []) ≡ Some (named (family.Plain op.Cld) None)
unfolding stem condition_name known_name conditional_name exact_names sized_names conditions with_suffix suffixed plain_names frame_names
    extend_names string_names page_names control_names arithmetic_names shift_names move_names stack_names branch_names system_names
bare_Cld = refl

pub bare_Std : known_name (stem op.Std ++ []) ≡ Some (named (family.Plain op.Std) None)
unfolding stem condition_name known_name conditional_name exact_names sized_names conditions with_suffix suffixed plain_names frame_names
    extend_names string_names page_names control_names arithmetic_names shift_names move_names stack_names branch_names system_names
bare_Std = refl

pub bare_Cli : known_name (stem op.Cli ++ []) ≡ Some (named (family.Plain op.Cli) None)
unfolding stem condition_name known_name conditional_name exact_names sized_names conditions with_suffix suffixed plain_names frame_names
    extend_names string_names page_names control_names arithmetic_names shift_names move_names stack_names branch_names system_names
bare_Cli = refl

pub bare_Sti : known_name (stem op.Sti ++ []) ≡ Some (named (family.Plain op.Sti) None)
unfolding stem condition_name known_name conditional_name exact_names sized_names conditions with_suffix suffixed plain_names frame_names
    extend_names string_names page_names control_names arithmetic_names shift_names move_names stack_names branch_names system_names
bare_Sti = refl

pub bare_Hlt : known_name (stem op.Hlt ++ []) ≡ Some (named (family.Plain op.Hlt) None)
unfolding stem condition_name known_name conditional_name exact_names sized_names conditions with_suffix suffixed plain_names frame_names
    extend_names string_names page_names control_names arithmetic_names shift_names move_names stack_names branch_names system_names
bare_Hlt = refl

pub bare_PushFlags : known_name (stem op.PushFlags ++ []) ≡ Some (named (family.Plain op.PushFlags) None)
unfolding stem condition_name known_name conditional_name exact_names sized_names conditions with_suffix suffixed plain_names frame_names
    extend_names string_names page_names control_names arithmetic_names shift_names move_names stack_names branch_names system_names
bare_PushFlags = refl

pub bare_PopFlags : known_name (stem op.PopFlags ++ []) ≡ Some (named (family.Plain op.PopFlags) None)
unfolding stem condition_name known_name conditional_name exact_names sized_names conditions with_suffix suffixed plain_names frame_names
    extend_names string_names page_names control_names arithmetic_names shift_names move_names stack_names branch_names system_names
bare_PopFlags = refl

pub bare_Iret : known_name (stem op.Iret ++ []) ≡ Some (named (family.Plain op.Iret) None)
unfolding stem condition_name known_name conditional_name exact_names sized_names conditions with_suffix suffixed plain_names frame_names
    extend_names string_names page_names control_names arithmetic_names shift_names move_names stack_names branch_names system_names
bare_Iret = refl

pub bare_ReadControl : known_name (stem op.ReadControl ++ []) ≡ Some (named (family.Moves moves.Move) None)
unfolding stem condition_name known_name conditional_name exact_names sized_names conditions with_suffix suffixed plain_names frame_names
    extend_names string_names page_names control_names arithmetic_names shift_names move_names stack_names branch_names system_names
bare_ReadControl = refl

pub bare_WriteControl : known_name (stem op.WriteControl ++ []) ≡ Some (named (family.Moves moves.Move) None)
unfolding stem condition_name known_name conditional_name exact_names sized_names conditions with_suffix suffixed plain_names frame_names
    extend_names string_names page_names control_names arithmetic_names shift_names move_names stack_names branch_names system_names
bare_WriteControl = refl

pub bare_ReadSeg : known_name (stem op.ReadSeg ++ []) ≡ Some (named (family.Moves moves.Move) None)
unfolding stem condition_name known_name conditional_name exact_names sized_names conditions with_suffix suffixed plain_names frame_names
    extend_names string_names page_names control_names arithmetic_names shift_names move_names stack_names branch_names system_names
bare_ReadSeg = refl

pub bare_LoadSeg : known_name (stem op.LoadSeg ++ []) ≡ Some (named (family.Moves moves.Move) None)
unfolding stem condition_name known_name conditional_name exact_names sized_names conditions with_suffix suffixed plain_names frame_names
    extend_names string_names page_names control_names arithmetic_names shift_names move_names stack_names branch_names system_names
bare_LoadSeg = refl

pub bare_DropPage : known_name (stem op.DropPage ++ []) ≡ Some (named (family.System (system.Memory op.DropPage)) None)
unfolding stem condition_name known_name conditional_name exact_names sized_names conditions with_suffix suffixed plain_names frame_names
    extend_names string_names page_names control_names arithmetic_names shift_names move_names stack_names branch_names system_names
bare_DropPage = refl

pub bare_LoadTask : known_name (stem op.LoadTask ++ []) ≡ Some (named (family.System system.LoadTask) None)
unfolding stem condition_name known_name conditional_name exact_names sized_names conditions with_suffix suffixed plain_names frame_names
    extend_names string_names page_names control_names arithmetic_names shift_names move_names stack_names branch_names system_names
bare_LoadTask = refl

pub bare_JumpTo : known_name (stem op.JumpTo ++ []) ≡ Some (named (family.Control (control.Branch op.Jmp op.JumpTo)) None)
unfolding stem condition_name known_name conditional_name exact_names sized_names conditions with_suffix suffixed plain_names frame_names
    extend_names string_names page_names control_names arithmetic_names shift_names move_names stack_names branch_names system_names
bare_JumpTo = refl

pub bare_CallTo : known_name (stem op.CallTo ++ []) ≡ Some (named (family.Control (control.Branch op.Call op.CallTo)) None)
unfolding stem condition_name known_name conditional_name exact_names sized_names conditions with_suffix suffixed plain_names frame_names
    extend_names string_names page_names control_names arithmetic_names shift_names move_names stack_names branch_names system_names
bare_CallTo = refl

pub bare_Int : known_name (stem op.Int ++ []) ≡ Some (named (family.Control control.Interrupt) None)
unfolding stem condition_name known_name conditional_name exact_names sized_names conditions with_suffix suffixed plain_names frame_names
    extend_names string_names page_names control_names arithmetic_names shift_names move_names stack_names branch_names system_names
bare_Int = refl

pub bare_Return : known_name (stem op.Return ++ []) ≡ Some (named (family.Control control.Return) None)
unfolding stem condition_name known_name conditional_name exact_names sized_names conditions with_suffix suffixed plain_names frame_names
    extend_names string_names page_names control_names arithmetic_names shift_names move_names stack_names branch_names system_names
bare_Return = refl

pub bare_FarJump : known_name (stem op.FarJump ++ []) ≡ Some (named (family.Control control.FarJump) None)
unfolding stem condition_name known_name conditional_name exact_names sized_names conditions with_suffix suffixed plain_names frame_names
    extend_names string_names page_names control_names arithmetic_names shift_names move_names stack_names branch_names system_names
bare_FarJump = refl

pub string_Movs_Byte : known_name (stem op.Movs ++ letter size.Byte) ≡ Some (named (family.Strings op.Movs size.Byte) None)
unfolding stem condition_name known_name conditional_name exact_names sized_names conditions with_suffix suffixed plain_names frame_names
    extend_names string_names page_names control_names arithmetic_names shift_names move_names stack_names branch_names system_names
string_Movs_Byte = refl

pub string_Movs_Long : known_name (stem op.Movs ++ letter size.Long) ≡ Some (named (family.Strings op.Movs size.Long) None)
unfolding stem condition_name known_name conditional_name exact_names sized_names conditions with_suffix suffixed plain_names frame_names
    extend_names string_names page_names control_names arithmetic_names shift_names move_names stack_names branch_names system_names
string_Movs_Long = refl

pub string_Stos_Byte : known_name (stem op.Stos ++ letter size.Byte) ≡ Some (named (family.Strings op.Stos size.Byte) None)
unfolding stem condition_name known_name conditional_name exact_names sized_names conditions with_suffix suffixed plain_names frame_names
    extend_names string_names page_names control_names arithmetic_names shift_names move_names stack_names branch_names system_names
string_Stos_Byte = refl

pub string_Stos_Long : known_name (stem op.Stos ++ letter size.Long) ≡ Some (named (family.Strings op.Stos size.Long) None)
unfolding stem condition_name known_name conditional_name exact_names sized_names conditions with_suffix suffixed plain_names frame_names
    extend_names string_names page_names control_names arithmetic_names shift_names move_names stack_names branch_names system_names
string_Stos_Long = refl

pub string_Lods_Byte : known_name (stem op.Lods ++ letter size.Byte) ≡ Some (named (family.Strings op.Lods size.Byte) None)
unfolding stem condition_name known_name conditional_name exact_names sized_names conditions with_suffix suffixed plain_names frame_names
    extend_names string_names page_names control_names arithmetic_names shift_names move_names stack_names branch_names system_names
string_Lods_Byte = refl

pub string_Lods_Long : known_name (stem op.Lods ++ letter size.Long) ≡ Some (named (family.Strings op.Lods size.Long) None)
unfolding stem condition_name known_name conditional_name exact_names sized_names conditions with_suffix suffixed plain_names frame_names
    extend_names string_names page_names control_names arithmetic_names shift_names move_names stack_names branch_names system_names
string_Lods_Long = refl

pub widened_Movzx_Byte : known_name (stem op.Movzx ++ (letter size.Byte ++ codes "l")) ≡ Some
    (named (family.Moves (moves.Extend op.Movzx size.Byte)) None)
unfolding stem condition_name known_name conditional_name exact_names sized_names conditions with_suffix suffixed plain_names frame_names
    extend_names string_names page_names control_names arithmetic_names shift_names move_names stack_names branch_names system_names
widened_Movzx_Byte = refl

pub widened_Movzx_Word : known_name (stem op.Movzx ++ (letter size.Word ++ codes "l")) ≡ Some
    (named (family.Moves (moves.Extend op.Movzx size.Word)) None)
unfolding stem condition_name known_name conditional_name exact_names sized_names conditions with_suffix suffixed plain_names frame_names
    extend_names string_names page_names control_names arithmetic_names shift_names move_names stack_names branch_names system_names
widened_Movzx_Word = refl

pub widened_Movsx_Byte : known_name (stem op.Movsx ++ (letter size.Byte ++ codes "l")) ≡ Some
    (named (family.Moves (moves.Extend op.Movsx size.Byte)) None)
unfolding stem condition_name known_name conditional_name exact_names sized_names conditions with_suffix suffixed plain_names frame_names
    extend_names string_names page_names control_names arithmetic_names shift_names move_names stack_names branch_names system_names
widened_Movsx_Byte = refl

pub widened_Movsx_Word : known_name (stem op.Movsx ++ (letter size.Word ++ codes "l")) ≡ Some
    (named (family.Moves (moves.Extend op.Movsx size.Word)) None)
unfolding stem condition_name known_name conditional_name exact_names sized_names conditions with_suffix suffixed plain_names frame_names
    extend_names string_names page_names control_names arithmetic_names shift_names move_names stack_names branch_names system_names
widened_Movsx_Word = refl

pub set_named : (c : ℕ) → c < 16 → known_name (stem op.Setcc ++ condition_name c) ≡ Some (named (family.Control (control.Set c)) None)
unfolding stem condition_name known_name conditional_name exact_names sized_names conditions with_suffix suffixed plain_names frame_names
    extend_names string_names page_names control_names arithmetic_names shift_names move_names stack_names branch_names system_names
set_named zero l = refl
set_named (suc zero) l = refl
set_named (suc (suc zero)) l = refl
set_named (suc (suc (suc zero))) l = refl
set_named (suc (suc (suc (suc zero)))) l = refl
set_named (suc (suc (suc (suc (suc zero))))) l = refl
set_named (suc (suc (suc (suc (suc (suc zero)))))) l = refl
set_named (suc (suc (suc (suc (suc (suc (suc zero))))))) l = refl
set_named (suc (suc (suc (suc (suc (suc (suc (suc zero)))))))) l = refl
set_named (suc (suc (suc (suc (suc (suc (suc (suc (suc zero))))))))) l = refl
set_named (suc (suc (suc (suc (suc (suc (suc (suc (suc (suc zero)))))))))) l = refl
set_named (suc (suc (suc (suc (suc (suc (suc (suc (suc (suc (suc zero))))))))))) l = refl
set_named (suc (suc (suc (suc (suc (suc (suc (suc (suc (suc (suc (suc zero)))))))))))) l = refl
set_named (suc (suc (suc (suc (suc (suc (suc (suc (suc (suc (suc (suc (suc zero))))))))))))) l = refl
set_named (suc (suc (suc (suc (suc (suc (suc (suc (suc (suc (suc (suc (suc (suc zero)))))))))))))) l = refl
set_named (suc (suc (suc (suc (suc (suc (suc (suc (suc (suc (suc (suc (suc (suc (suc zero))))))))))))))) l = refl
set_named (suc (suc (suc (suc (suc (suc (suc (suc (suc (suc (suc (suc (suc (suc (suc (suc c)))))))))))))))) l = absurd (omega arith)

pub jump_named : (c : ℕ) → c < 16 → known_name (stem op.Jcc ++ condition_name c) ≡ Some
    (named (family.Control (control.Conditional c)) None)
unfolding stem condition_name known_name conditional_name exact_names sized_names conditions with_suffix suffixed plain_names frame_names
    extend_names string_names page_names control_names arithmetic_names shift_names move_names stack_names branch_names system_names
jump_named zero l = refl
jump_named (suc zero) l = refl
jump_named (suc (suc zero)) l = refl
jump_named (suc (suc (suc zero))) l = refl
jump_named (suc (suc (suc (suc zero)))) l = refl
jump_named (suc (suc (suc (suc (suc zero))))) l = refl
jump_named (suc (suc (suc (suc (suc (suc zero)))))) l = refl
jump_named (suc (suc (suc (suc (suc (suc (suc zero))))))) l = refl
jump_named (suc (suc (suc (suc (suc (suc (suc (suc zero)))))))) l = refl
jump_named (suc (suc (suc (suc (suc (suc (suc (suc (suc zero))))))))) l = refl
jump_named (suc (suc (suc (suc (suc (suc (suc (suc (suc (suc zero)))))))))) l = refl
jump_named (suc (suc (suc (suc (suc (suc (suc (suc (suc (suc (suc zero))))))))))) l = refl
jump_named (suc (suc (suc (suc (suc (suc (suc (suc (suc (suc (suc (suc zero)))))))))))) l = refl
jump_named (suc (suc (suc (suc (suc (suc (suc (suc (suc (suc (suc (suc (suc zero))))))))))))) l = refl
jump_named (suc (suc (suc (suc (suc (suc (suc (suc (suc (suc (suc (suc (suc (suc zero)))))))))))))) l = refl
jump_named (suc (suc (suc (suc (suc (suc (suc (suc (suc (suc (suc (suc (suc (suc (suc zero))))))))))))))) l = refl
jump_named (suc (suc (suc (suc (suc (suc (suc (suc (suc (suc (suc (suc (suc (suc (suc (suc c)))))))))))))))) l = absurd (omega arith)

pub bare_Jmp : known_name (stem op.Jmp ++ []) ≡ Some (named (family.Control (control.Branch op.Jmp op.JumpTo)) None)
unfolding stem condition_name known_name conditional_name exact_names sized_names conditions with_suffix suffixed plain_names frame_names
    extend_names string_names page_names control_names arithmetic_names shift_names move_names stack_names branch_names system_names
bare_Jmp = refl

pub bare_Call : known_name (stem op.Call ++ []) ≡ Some (named (family.Control (control.Branch op.Call op.CallTo)) None)
unfolding stem condition_name known_name conditional_name exact_names sized_names conditions with_suffix suffixed plain_names frame_names
    extend_names string_names page_names control_names arithmetic_names shift_names move_names stack_names branch_names system_names
bare_Call = refl
