-- Each family's instruction of written operands.
use Rattle.std.proofs.Common.{◌≡◌, ℕ, ◌<◌, ◌≤◌, ◌^◌, Bool, false, Option, Some, None, refl, sym, ap, subst, ◌∙◌, arith}
use Rattle.std.specs.Prelude.{pos, min, max}
use Rattle.std.proofs.lemmas.Bool.{and_from, lt-ltb}
use Rattle.ia32_types.specs.declared.insn.Insn.{Insn}
use Rattle.ia32_types.specs.declared.insn.Op.{Op}
use Rattle.ia32_types.specs.declared.insn.Op.TheVariants as op
use Rattle.ia32_types.specs.declared.insn.Address.{Address}
use Rattle.ia32_types.specs.declared.insn.Operand.{Operand}
use Rattle.ia32_types.specs.declared.insn.Operand.TheVariants as operand
use Rattle.ia32_types.specs.declared.register.Seg.{Seg}
use Rattle.ia32_types.specs.declared.size.Size.{Size}
use Rattle.ia32_types.specs.declared.size.Size.TheVariants as size
use Rattle.asm_instruction.specs.declared.argument.Given.TheVariants as given
use Rattle.asm_instruction.specs.declared.argument.Operands.TheVariants as taken
use Rattle.asm_instruction.specs.declared.draft.Draft.{Draft}
use Rattle.asm_instruction.specs.declared.arithmetic.Arithmetic.TheVariants as arithmetic
use Rattle.asm_instruction.specs.declared.moves.Moves.TheVariants as moves
use Rattle.asm_instruction.specs.declared.stack.Stack.TheVariants as stack
use Rattle.asm_instruction.specs.declared.control.Control.TheVariants as control
use Rattle.asm_instruction.specs.declared.system.System.TheVariants as system
use Rattle.asm_instruction.specs.Names.{◌>>=◌}
use Rattle.asm_instruction.specs.Field.{field, fits_field}
use Rattle.asm_instruction.specs.Sizes.{agreed}
use Rattle.asm_instruction.specs.Draft.{of_operand, nothing, register_operand, paired, instruction, with_number, unary, alone}
use Rattle.asm_instruction.specs.Arithmetic.{of_pair, memory_first, of_two, of_one, one, to_register, arithmetic_draft}
use Rattle.asm_instruction.specs.Shift.{by_register, shift_draft}
use Rattle.asm_instruction.specs.Moves.{special, from_special, to_special, moved, extended, effective, move_draft}
use Rattle.asm_instruction.specs.Stack.{of_segment, pushed, popped, stack_draft}
use Rattle.asm_instruction.specs.Control.{with_selector, far, set, control_draft}
use Rattle.asm_instruction.specs.Strings.{string_draft}
use Rattle.asm_instruction.specs.Flags.{plain_draft}
use Rattle.asm_instruction.specs.System.{through, ported, task, system_draft}
use Rattle.ia32_text.specs.Operands.{as_written}
use Rattle.ia32_text.proofs.Reading.{plain_at, given_of}
use Rattle.ia32_text.proofs.Drafting.{made, IsOperand, numbered, Drafts, DraftsTo, drafts_to, pair_drafts, number_drafts, agreed_one, agreed_first, agreed_last, agreed_all, TwoKinds, IsTwo, first_given, second_given, two_drafts, PlaceKind, one_drafts, to_register_drafts}

-- an option that is followed by what always answers
then_drafts : (i j : Insn) (x : Option Draft) (f : Draft → Draft) → DraftsTo i x → ((d : Draft) → Drafts i d → Drafts j (f d))
    → DraftsTo j (x >>= λ d. Some (f d))
then_drafts i j x f h g =
    drafts_to j (x >>= λ d. Some (f d)) (f h.draft) (ap (λ (y : Option Draft). y >>= λ d. Some (f d)) h.is) (g h.draft h.drafts)

-- ---- arithmetic

pub arithmetic_two : (o : Op) (s : Size) (a b : Operand) (imm : ℕ) → IsTwo s a b imm
    → DraftsTo (made o s a b imm 0 false)
    (arithmetic_draft (arithmetic.Two o) (Some s) (taken.Two (first_given s imm b) (second_given s imm a)))
unfolding arithmetic_draft
arithmetic_two o s a b imm h = two_drafts o s a b imm h

-- never from memory
abbrev pub TestKinds : Operand → Operand → Type 0
TestKinds (operand.Register n) (operand.Memory a) = ⊥
TestKinds _ _ = Unit {0}

test_as : (s : Size) (a b : Operand) (imm : ℕ) → TwoKinds a b → TestKinds a b
    → of_two (λ s p. Some (memory_first op.Test s p)) (Some s) (first_given s imm b) (second_given s imm a)
    ≡ of_two (λ s p. Some (of_pair op.Test s p)) (Some s) (first_given s imm b) (second_given s imm a)
unfolding of_two paired
test_as s (operand.Register n) operand.Absent imm k t = refl
test_as s (operand.Memory x) operand.Absent imm k t = refl
test_as s (operand.Register n) (operand.Register m) imm k t = refl
test_as s (operand.Memory x) (operand.Register m) imm k t = refl
test_as s (operand.Register n) (operand.Memory x) imm k t = absurd t
test_as s _ _ imm k t = absurd k

pub test_drafts : (s : Size) (a b : Operand) (imm : ℕ) → IsTwo s a b imm → TestKinds a b
    → DraftsTo (made op.Test s a b imm 0 false)
    (arithmetic_draft arithmetic.Test (Some s) (taken.Two (first_given s imm b) (second_given s imm a)))
unfolding arithmetic_draft
test_drafts s a b imm h t =
    subst (DraftsTo (made op.Test s a b imm 0 false)) (sym (test_as s a b imm h.kinds t)) (two_drafts op.Test s a b imm h)

pub arithmetic_one : (o : Op) (s : Size) (a : Operand) (imm : ℕ) → IsOperand a → PlaceKind a
    → DraftsTo (made o s a operand.Absent 0 0 false) (arithmetic_draft (arithmetic.One o) (Some s) (taken.One (first_given s imm a)))
unfolding arithmetic_draft
arithmetic_one o s a imm h p = one_drafts o s s None (Some s) a imm 0 (agreed_first s) (agreed_one s) h p

pub product_one : (s : Size) (a : Operand) (imm : ℕ) → IsOperand a → PlaceKind a
    → DraftsTo (made op.Imul s a operand.Absent 0 0 false) (arithmetic_draft arithmetic.Multiply (Some s) (taken.One (first_given s imm a)))
unfolding arithmetic_draft
product_one s a imm h p = one_drafts op.Imul s s None (Some s) a imm 0 (agreed_first s) (agreed_one s) h p

pub product_two : (s : Size) (n : ℕ) (b : Operand) (imm : ℕ) → n < 8 → IsOperand b → PlaceKind b
    → DraftsTo (made op.Imul s (operand.Register n) b 0 0 false)
    (arithmetic_draft arithmetic.Multiply (Some s) (taken.Two (first_given s imm b) (given.Register s n)))
unfolding arithmetic_draft
product_two s n b imm l h p = to_register_drafts op.Imul s n b imm 0 1 l h p

pub product_three : (s : Size) (n : ℕ) (b : Operand) (imm : ℕ) → n < 8 → IsOperand b → PlaceKind b → imm < 2 ^ 32
    → DraftsTo (made op.ImulBy s (operand.Register n) b imm 0 false)
    (arithmetic_draft arithmetic.Multiply (Some s)
    (taken.Three (given.Immediate (plain_at (pos imm) 0)) (given_of (as_written s imm b) 1) (given.Register s n)))
unfolding arithmetic_draft
product_three s n b imm l h p small =
    then_drafts (made op.ImulBy s (operand.Register n) b 0 0 false) _
    (to_register op.ImulBy (Some s) (given_of (as_written s imm b) 1) (given.Register s n))
    (λ d. with_number d size.Long (plain_at (pos imm) 0))
    (to_register_drafts op.ImulBy s n b imm 1 2 l h p) (λ d g. number_drafts _ d size.Long imm 0 g small)

-- ---- shifts

pub shift_number : (o : Op) (s : Size) (a : Operand) (imm : ℕ) → IsOperand a → PlaceKind a → imm < 256
    → DraftsTo (made o s a operand.Absent imm 0 false)
    (shift_draft o (Some s) (taken.Two (given.Immediate (plain_at (pos imm) 0)) (second_given s imm a)))
unfolding shift_draft
shift_number o s a imm h p l =
    then_drafts (made o s a operand.Absent 0 0 false) _ (one o (Some s) (second_given s imm a))
    (λ d. with_number d size.Byte (plain_at (pos imm) 0))
    (one_drafts o s s None (Some s) a imm 1 (agreed_first s) (agreed_one s) h p) (λ d g. number_drafts _ d size.Byte imm 0 g l)

pub shift_register : (o : Op) (s : Size) (a : Operand) (imm : ℕ) → IsOperand a → PlaceKind a
    → DraftsTo (made o s a (operand.Register 1) 0 0 false)
    (shift_draft o (Some s) (taken.Two (given.Register size.Byte 1) (second_given s imm a)))
unfolding shift_draft by_register
shift_register o s (operand.Register n) imm h p =
    drafts_to _ _ (instruction o s (register_operand n) (register_operand 1)) (rw (agreed_first s) refl)
    (pair_drafts o s (operand.Register n) (operand.Register 1) 1 0 h (omega arith))
shift_register o s (operand.Memory x) imm h p =
    drafts_to _ _ (instruction o s (numbered (operand.Memory x) 1) (register_operand 1)) (rw (agreed_one s) refl)
    (pair_drafts o s (operand.Memory x) (operand.Register 1) 1 0 h (omega arith))
shift_register o s _ imm h p = absurd p

-- ---- moves

mov_as : (s : Size) (a b : Operand) (imm : ℕ) → TwoKinds a b
    → move_draft moves.Move (Some s) (taken.Two (first_given s imm b) (second_given s imm a)) ≡ of_two (λ s p. Some (of_pair op.Mov s p))
    (Some s) (first_given s imm b) (second_given s imm a)
unfolding move_draft moved
mov_as s (operand.Register n) operand.Absent imm k = refl
mov_as s (operand.Memory x) operand.Absent imm k = refl
mov_as s (operand.Register n) (operand.Register m) imm k = refl
mov_as s (operand.Memory x) (operand.Register m) imm k = refl
mov_as s (operand.Register n) (operand.Memory x) imm k = refl
mov_as s _ _ imm k = absurd k

pub mov_drafts : (s : Size) (a b : Operand) (imm : ℕ) → IsTwo s a b imm
    → DraftsTo (made op.Mov s a b imm 0 false) (move_draft moves.Move (Some s) (taken.Two (first_given s imm b) (second_given s imm a)))
mov_drafts s a b imm h = subst (DraftsTo (made op.Mov s a b imm 0 false)) (sym (mov_as s a b imm h.kinds)) (two_drafts op.Mov s a b imm h)

pub lea_drafts : (s : Size) (n : ℕ) (x : Address) (imm : ℕ) → n < 8 → IsOperand (operand.Memory x)
    → DraftsTo (made op.Lea s (operand.Register n) (operand.Memory x) 0 0 false)
    (move_draft moves.Lea (Some s) (taken.Two (first_given s imm (operand.Memory x)) (given.Register s n)))
unfolding move_draft effective
lea_drafts s n x imm l h = to_register_drafts op.Lea s n (operand.Memory x) imm 0 1 l h tt

pub extend_drafts : (o : Op) (s : Size) (n : ℕ) (b : Operand) (imm : ℕ) → n < 8 → IsOperand b → PlaceKind b
    → DraftsTo (made o s (operand.Register n) b 0 0 false)
    (move_draft (moves.Extend o s) None (taken.Two (first_given s imm b) (given.Register size.Long n)))
unfolding move_draft extended
extend_drafts o s n (operand.Register m) imm l h p =
    drafts_to _ _ (instruction o s (register_operand n) (register_operand m)) (rw (agreed_first s) refl)
    (pair_drafts o s (operand.Register n) (operand.Register m) 1 0 l h)
extend_drafts o s n (operand.Memory x) imm l h p =
    drafts_to _ _ (instruction o s (register_operand n) (numbered (operand.Memory x) 0)) (rw (agreed_one s) refl)
    (pair_drafts o s (operand.Register n) (operand.Memory x) 1 0 l h)
extend_drafts o s n _ imm l h p = absurd p

pub exchange_registers : (s : Size) (m n : ℕ) (imm : ℕ) → m ≤ n → m < 8 → n < 8
    → DraftsTo (made op.Xchg s (operand.Register m) (operand.Register n) 0 0 false)
    (move_draft moves.Exchange (Some s) (taken.Two (given.Register s n) (given.Register s m)))
unfolding move_draft of_two paired
exchange_registers s m n imm le l k =
    let low : min n m ≡ m = omega arith in
    let high : max n m ≡ n = omega arith in
    drafts_to _ _ (instruction op.Xchg s (register_operand m) (register_operand n)) (rw (agreed_all s, low, high) refl)
    (pair_drafts op.Xchg s (operand.Register m) (operand.Register n) 1 0 l k)

pub exchange_memory : (s : Size) (x : Address) (n : ℕ) (imm : ℕ) → IsOperand (operand.Memory x) → n < 8
    → DraftsTo (made op.Xchg s (operand.Memory x) (operand.Register n) 0 0 false)
    (move_draft moves.Exchange (Some s) (taken.Two (given.Register s n) (second_given s imm (operand.Memory x))))
unfolding move_draft of_two paired
exchange_memory s x n imm h l =
    drafts_to _ _ (instruction op.Xchg s (numbered (operand.Memory x) 1) (register_operand n)) (rw (agreed_first s) refl)
    (pair_drafts op.Xchg s (operand.Memory x) (operand.Register n) 1 0 h l)

-- ---- moves of segment and control registers

abbrev pub IsSpecial : Operand → Type 0
IsSpecial (operand.Segment g) = Unit {0}
IsSpecial (operand.Control n) = Unit {0}
IsSpecial _ = ⊥

abbrev pub read_op : Operand → Op
read_op (operand.Segment g) = op.ReadSeg
read_op _ = op.ReadControl

abbrev pub load_op : Operand → Op
load_op (operand.Segment g) = op.LoadSeg
load_op _ = op.WriteControl

pub from_special_drafts : (a b : Operand) (imm : ℕ) → IsOperand a → PlaceKind a → IsOperand b → IsSpecial b
    → DraftsTo (made (read_op b) size.Long a b 0 0 false)
    (move_draft moves.Move None (taken.Two (first_given size.Long imm b) (second_given size.Long imm a)))
unfolding move_draft moved from_special special agreed
from_special_drafts (operand.Register n) (operand.Segment g) imm h p i t =
    drafts_to _ _ (instruction op.ReadSeg size.Long (register_operand n) (of_operand (operand.Segment g))) refl
    (pair_drafts op.ReadSeg size.Long (operand.Register n) (operand.Segment g) 1 0 h i)
from_special_drafts (operand.Memory x) (operand.Segment g) imm h p i t =
    drafts_to _ _ (instruction op.ReadSeg size.Long (numbered (operand.Memory x) 1) (of_operand (operand.Segment g))) refl
    (pair_drafts op.ReadSeg size.Long (operand.Memory x) (operand.Segment g) 1 0 h i)
from_special_drafts (operand.Register n) (operand.Control c) imm h p i t =
    drafts_to _ _ (instruction op.ReadControl size.Long (register_operand n) (of_operand (operand.Control c))) refl
    (pair_drafts op.ReadControl size.Long (operand.Register n) (operand.Control c) 1 0 h i)
from_special_drafts (operand.Memory x) (operand.Control c) imm h p i t =
    drafts_to _ _ (instruction op.ReadControl size.Long (numbered (operand.Memory x) 1) (of_operand (operand.Control c))) refl
    (pair_drafts op.ReadControl size.Long (operand.Memory x) (operand.Control c) 1 0 h i)
from_special_drafts _ (operand.Segment g) imm h p i t = absurd p
from_special_drafts _ (operand.Control c) imm h p i t = absurd p
from_special_drafts a _ imm h p i t = absurd t

pub to_special_drafts : (a b : Operand) (imm : ℕ) → IsOperand a → IsSpecial a → IsOperand b → PlaceKind b
    → DraftsTo (made (load_op a) size.Long a b 0 0 false)
    (move_draft moves.Move None (taken.Two (first_given size.Long imm b) (second_given size.Long imm a)))
unfolding move_draft moved to_special special agreed
to_special_drafts (operand.Segment g) (operand.Register n) imm h t i p =
    drafts_to _ _ (instruction op.LoadSeg size.Long (of_operand (operand.Segment g)) (register_operand n)) refl
    (pair_drafts op.LoadSeg size.Long (operand.Segment g) (operand.Register n) 1 0 h i)
to_special_drafts (operand.Segment g) (operand.Memory x) imm h t i p =
    drafts_to _ _ (instruction op.LoadSeg size.Long (of_operand (operand.Segment g)) (numbered (operand.Memory x) 0)) refl
    (pair_drafts op.LoadSeg size.Long (operand.Segment g) (operand.Memory x) 1 0 h i)
to_special_drafts (operand.Control c) (operand.Register n) imm h t i p =
    drafts_to _ _ (instruction op.WriteControl size.Long (of_operand (operand.Control c)) (register_operand n)) refl
    (pair_drafts op.WriteControl size.Long (operand.Control c) (operand.Register n) 1 0 h i)
to_special_drafts (operand.Control c) (operand.Memory x) imm h t i p =
    drafts_to _ _ (instruction op.WriteControl size.Long (of_operand (operand.Control c)) (numbered (operand.Memory x) 0)) refl
    (pair_drafts op.WriteControl size.Long (operand.Control c) (operand.Memory x) 1 0 h i)
to_special_drafts (operand.Segment g) _ imm h t i p = absurd p
to_special_drafts (operand.Control c) _ imm h t i p = absurd p
to_special_drafts _ b imm h t i p = absurd t

-- ---- the stack

alone_drafts : (o : Op) → Drafts (made o size.Long operand.Absent operand.Absent 0 0 false) (alone o)
alone_drafts o = pair_drafts o size.Long operand.Absent operand.Absent 0 0 tt tt

pub push_number : (imm : ℕ) → imm < 2 ^ 32
    → DraftsTo (made op.Push size.Long operand.Absent operand.Absent imm 0 false)
    (stack_draft stack.Push (Some size.Long) (taken.One (given.Immediate (plain_at (pos imm) 0))))
unfolding stack_draft pushed agreed
push_number imm l = drafts_to _ _ (with_number (alone op.Push) size.Long (plain_at (pos imm) 0)) refl
    (number_drafts _ _ size.Long imm 0 (alone_drafts op.Push) l)

push_as : (a : Operand) (imm : ℕ) → PlaceKind a → stack_draft stack.Push (Some size.Long) (taken.One (first_given size.Long imm a)) ≡ of_one
    (Some size.Long) op.Push (Some size.Long) (first_given size.Long imm a)
unfolding stack_draft pushed
push_as (operand.Register n) imm p = refl
push_as (operand.Memory x) imm p = refl
push_as _ imm p = absurd p

pub push_place : (a : Operand) (imm : ℕ) → IsOperand a → PlaceKind a
    → DraftsTo (made op.Push size.Long a operand.Absent 0 0 false)
    (stack_draft stack.Push (Some size.Long) (taken.One (first_given size.Long imm a)))
push_place a imm h p = subst (DraftsTo _) (sym (push_as a imm p))
    (one_drafts op.Push size.Long size.Long (Some size.Long) (Some size.Long) a imm 0 (agreed_all size.Long) (agreed_last size.Long) h p)

pop_as : (a : Operand) (imm : ℕ) → PlaceKind a → stack_draft stack.Pop (Some size.Long) (taken.One (first_given size.Long imm a)) ≡ of_one
    (Some size.Long) op.Pop (Some size.Long) (first_given size.Long imm a)
unfolding stack_draft popped
pop_as (operand.Register n) imm p = refl
pop_as (operand.Memory x) imm p = refl
pop_as _ imm p = absurd p

pub pop_place : (a : Operand) (imm : ℕ) → IsOperand a → PlaceKind a
    → DraftsTo (made op.Pop size.Long a operand.Absent 0 0 false)
    (stack_draft stack.Pop (Some size.Long) (taken.One (first_given size.Long imm a)))
pop_place a imm h p = subst (DraftsTo _) (sym (pop_as a imm p))
    (one_drafts op.Pop size.Long size.Long (Some size.Long) (Some size.Long) a imm 0 (agreed_all size.Long) (agreed_last size.Long) h p)

pub push_segment : (g : Seg) → DraftsTo (made op.PushSeg size.Long (operand.Segment g) operand.Absent 0 0 false)
    (stack_draft stack.Push (Some size.Long) (taken.One (given.Segment g)))
unfolding stack_draft pushed of_segment agreed
push_segment g = drafts_to _ _ (unary op.PushSeg size.Long (of_operand (operand.Segment g))) refl
    (pair_drafts op.PushSeg size.Long (operand.Segment g) operand.Absent 0 0 tt tt)

pub pop_segment : (g : Seg) → DraftsTo (made op.PopSeg size.Long (operand.Segment g) operand.Absent 0 0 false)
    (stack_draft stack.Pop (Some size.Long) (taken.One (given.Segment g)))
unfolding stack_draft popped of_segment agreed
pop_segment g = drafts_to _ _ (unary op.PopSeg size.Long (of_operand (operand.Segment g))) refl
    (pair_drafts op.PopSeg size.Long (operand.Segment g) operand.Absent 0 0 tt tt)

-- ---- control

pub starred_drafts : (o i : Op) (a : Operand) (imm : ℕ) → IsOperand a → PlaceKind a
    → DraftsTo (made i size.Long a operand.Absent 0 0 false)
    (control_draft (control.Branch o i) None (taken.Starred (first_given size.Long imm a)))
unfolding control_draft agreed
starred_drafts o i a imm h p = one_drafts i size.Long size.Long (Some size.Long) None a imm 0 refl refl h p

select_drafts : (i : Insn) (d : Draft) (c : ℕ) → Drafts i d → Drafts (record i { sel = c }) (record d { insn = record d.insn { sel = c } })
select_drafts i d c h = record { same = ap (λ (x : Insn). record x { sel = c }) h.same; fits = h.fits }

pub set_drafts : (c : ℕ) (a : Operand) (imm : ℕ) → IsOperand a → PlaceKind a
    → DraftsTo (made op.Setcc size.Byte a operand.Absent 0 c false)
    (control_draft (control.Set c) None (taken.One (first_given size.Byte imm a)))
unfolding control_draft set
set_drafts c a imm h p =
    then_drafts (made op.Setcc size.Byte a operand.Absent 0 0 false) _ (one op.Setcc (Some size.Byte) (first_given size.Byte imm a))
    (λ d. record d { insn = record d.insn { sel = c } })
    (one_drafts op.Setcc size.Byte size.Byte None (Some size.Byte) a imm 0 (agreed_first size.Byte) (agreed_one size.Byte) h p)
    (λ d g. select_drafts _ d c g)

pub interrupt_drafts : (imm : ℕ) → imm < 256
    → DraftsTo (made op.Int size.Long operand.Absent operand.Absent imm 0 false)
    (control_draft control.Interrupt None (taken.One (given.Immediate (plain_at (pos imm) 0))))
unfolding control_draft
interrupt_drafts imm l = drafts_to _ _ (with_number (alone op.Int) size.Byte (plain_at (pos imm) 0)) refl
    (number_drafts _ _ size.Byte imm 0 (alone_drafts op.Int) l)

pub return_drafts : DraftsTo (made op.Return size.Long operand.Absent operand.Absent 0 0 false)
    (control_draft control.Return None taken.Nothing)
unfolding control_draft agreed
return_drafts = drafts_to _ _ (alone op.Return) refl (alone_drafts op.Return)

pub return_number : (imm : ℕ) → imm < 65536
    → DraftsTo (made op.Return size.Long operand.Absent operand.Absent imm 0 false)
    (control_draft control.Return None (taken.One (given.Immediate (plain_at (pos imm) 0))))
unfolding control_draft agreed
return_number imm l = drafts_to _ _ (with_number (alone op.Return) size.Word (plain_at (pos imm) 0)) refl
    (number_drafts _ _ size.Word imm 0 (alone_drafts op.Return) l)

select_number : (i : Insn) (d : Draft) (n : ℕ) → Drafts i d → n < 65536
    → Drafts (record i { sel = n }) (with_selector d (plain_at (pos n) 0))
select_number i d n h l = let e : field size.Word (pos n) ≡ n = omega arith in record {
  same = ap (λ (x : Insn). record x { sel = field size.Word (pos n) }) h.same ∙ ap (λ m. record i { sel = m }) e;
  fits = and_from d.fits (fits_field size.Word (pos n)) h.fits (lt-ltb n _ l);
}

pub far_drafts : (imm sel : ℕ) → imm < 2 ^ 32 → sel < 65536
    → DraftsTo (made op.FarJump size.Long operand.Absent operand.Absent imm sel false)
    (control_draft control.FarJump None (taken.Two (given.Immediate (plain_at (pos sel) 0)) (given.Immediate (plain_at (pos imm) 1))))
unfolding control_draft far
far_drafts imm sel l k =
    drafts_to _ _ (with_selector (with_number (alone op.FarJump) size.Long (plain_at (pos imm) 1)) (plain_at (pos sel) 0)) refl
    (select_number _ _ sel (number_drafts _ _ size.Long imm 1 (alone_drafts op.FarJump) l) k)

-- ---- ports and system instructions

pub memory_drafts : (o : Op) (suffix : Option Size) (x : Address) (imm : ℕ) → agreed suffix (Some size.Long) None ≡ Some size.Long
    → IsOperand (operand.Memory x)
    → DraftsTo (made o size.Long (operand.Memory x) operand.Absent 0 0 false)
    (system_draft (system.Memory o) suffix (taken.One (first_given size.Long imm (operand.Memory x))))
unfolding system_draft
memory_drafts o suffix x imm e h =
    drafts_to _ _ (unary o size.Long (numbered (operand.Memory x) 0)) (rw e refl)
    (pair_drafts o size.Long (operand.Memory x) operand.Absent 0 0 h tt)

pub task_drafts : (a : Operand) (imm : ℕ) → IsOperand a → PlaceKind a
    → DraftsTo (made op.LoadTask size.Long a operand.Absent 0 0 false)
    (system_draft system.LoadTask None (taken.One (first_given size.Word imm a)))
unfolding system_draft task agreed
task_drafts (operand.Register n) imm h p = drafts_to _ _ (unary op.LoadTask size.Long (register_operand n)) refl
    (pair_drafts op.LoadTask size.Long (operand.Register n) operand.Absent 0 0 h tt)
task_drafts (operand.Memory x) imm h p = drafts_to _ _ (unary op.LoadTask size.Long (numbered (operand.Memory x) 0)) refl
    (pair_drafts op.LoadTask size.Long (operand.Memory x) operand.Absent 0 0 h tt)
task_drafts _ imm h p = absurd p

pub in_number : (s : Size) (imm : ℕ) → imm < 256
    → DraftsTo (made op.PortIn s operand.Absent operand.Absent imm 0 false)
    (system_draft system.In (Some s) (taken.Two (given.Immediate (plain_at (pos imm) 0)) (given.Register s 0)))
unfolding system_draft ported through
in_number s imm l =
    drafts_to _ _ (with_number (instruction op.PortIn s nothing nothing) size.Byte (plain_at (pos imm) 0)) (rw (agreed_first s) refl)
    (number_drafts _ _ size.Byte imm 0 (pair_drafts op.PortIn s operand.Absent operand.Absent 0 0 tt tt) l)

pub in_port : (s : Size) → DraftsTo (made op.PortIn s operand.Absent (operand.Register 2) 0 0 false)
    (system_draft system.In (Some s) (taken.Two given.Port (given.Register s 0)))
unfolding system_draft ported through
in_port s = drafts_to _ _ (instruction op.PortIn s nothing (register_operand 2)) (rw (agreed_first s) refl)
    (pair_drafts op.PortIn s operand.Absent (operand.Register 2) 0 0 tt (omega arith))

pub out_number : (s : Size) (imm : ℕ) → imm < 256
    → DraftsTo (made op.PortOut s operand.Absent operand.Absent imm 0 false)
    (system_draft system.Out (Some s) (taken.Two (given.Register s 0) (given.Immediate (plain_at (pos imm) 1))))
unfolding system_draft ported through
out_number s imm l =
    drafts_to _ _ (with_number (instruction op.PortOut s nothing nothing) size.Byte (plain_at (pos imm) 1)) (rw (agreed_first s) refl)
    (number_drafts _ _ size.Byte imm 1 (pair_drafts op.PortOut s operand.Absent operand.Absent 0 0 tt tt) l)

pub out_port : (s : Size) → DraftsTo (made op.PortOut s operand.Absent (operand.Register 2) 0 0 false)
    (system_draft system.Out (Some s) (taken.Two (given.Register s 0) given.Port))
unfolding system_draft ported through
out_port s = drafts_to _ _ (instruction op.PortOut s nothing (register_operand 2)) (rw (agreed_first s) refl)
    (pair_drafts op.PortOut s operand.Absent (operand.Register 2) 0 0 tt (omega arith))

-- ---- without operands

pub plain_drafts : (o : Op) → DraftsTo (made o size.Long operand.Absent operand.Absent 0 0 false) (plain_draft o None taken.Nothing)
unfolding plain_draft agreed
plain_drafts o = drafts_to _ _ (alone o) refl (alone_drafts o)

pub string_drafts : (rep : Bool) (o : Op) (s : Size) → DraftsTo (made o s operand.Absent operand.Absent 0 0 rep)
    (string_draft rep o s taken.Nothing)
unfolding string_draft instruction
string_drafts rep o s =
    drafts_to _ _ (record (alone o) { insn = record (alone o).insn { size = s; rep = rep } }) refl (record { same = refl; fits = refl })
