-- Statements that mean no direct branch.
use Rattle.std.proofs.Common.{◌≡◌, ℕ, Bool, true, false, cond, Option, Some, None, refl, inl, inr, ◌⊎◌}
use Rattle.std.specs.Prelude.{◌==◌}
use Rattle.ia32_types.specs.Branches.{is_direct_branch}
use Rattle.ia32_types.specs.declared.insn.Op.{Op}
use Rattle.ia32_types.specs.declared.insn.Op.TheVariants as op
use Rattle.ia32_types.specs.declared.insn.Operand.{Operand}
use Rattle.ia32_types.specs.declared.insn.Operand.TheVariants as operand
use Rattle.ia32_types.specs.declared.register.Seg.{Seg}
use Rattle.ia32_types.specs.declared.size.Size.{Size}
use Rattle.ia32_types.specs.declared.size.Size.TheVariants as size
use Rattle.asm_instruction.specs.declared.argument.Number.{Number}
use Rattle.asm_instruction.specs.declared.argument.Given.{Given}
use Rattle.asm_instruction.specs.declared.argument.Given.TheVariants as given
use Rattle.asm_instruction.specs.declared.argument.Operands.{Operands}
use Rattle.asm_instruction.specs.declared.argument.Operands.TheVariants as operands
use Rattle.asm_instruction.specs.declared.draft.Draft.{Draft}
use Rattle.asm_instruction.specs.declared.draft.NumberedOperand.{NumberedOperand}
use Rattle.asm_instruction.specs.declared.draft.Pair.{Pair}
use Rattle.asm_instruction.specs.declared.draft.Pair.TheVariants as pair
use Rattle.asm_instruction.specs.declared.arithmetic.Arithmetic.{Arithmetic}
use Rattle.asm_instruction.specs.declared.arithmetic.Arithmetic.TheVariants as arithmetic
use Rattle.asm_instruction.specs.declared.moves.Moves.{Moves}
use Rattle.asm_instruction.specs.declared.moves.Moves.TheVariants as moves
use Rattle.asm_instruction.specs.declared.stack.Stack.{Stack}
use Rattle.asm_instruction.specs.declared.stack.Stack.TheVariants as stack
use Rattle.asm_instruction.specs.declared.system.System.{System}
use Rattle.asm_instruction.specs.declared.system.System.TheVariants as system
use Rattle.asm_instruction.specs.Names.{◌>>=◌}
use Rattle.asm_instruction.specs.Sizes.{agreed}
use Rattle.asm_instruction.specs.Draft.{register_operand, register_or_memory, said, paired, instruction, with_number, nothing, of_operand, memory}
use Rattle.asm_instruction.specs.Arithmetic.{of_pair, memory_first, of_two, two, of_one, one, to_register, arithmetic_draft}
use Rattle.asm_instruction.specs.Shift.{by_register, shift_draft}
use Rattle.asm_instruction.specs.Moves.{special, from_special, to_special, moved, extended, effective, with_register, exchange, move_draft}
use Rattle.asm_instruction.specs.Stack.{of_segment, pushed, popped, stack_draft}
use Rattle.asm_instruction.specs.Strings.{string_draft}
use Rattle.asm_instruction.specs.Flags.{plain_draft}
use Rattle.asm_instruction.specs.System.{through, ported, task, system_draft}

-- ---- what is drafted is no branch

abbrev pub IsQuiet : Option Draft → Type 0
IsQuiet None = Unit {0}
IsQuiet (Some d) = is_direct_branch d.insn.op ≡ false

pub bound : {A : Type 0} (o : Option A) (f : A → Option Draft) → ((a : A) → IsQuiet (f a)) → IsQuiet (o >>= f)
bound (Some a) f h = h a
bound None f h = tt

pub quiet_instruction : (o : Op) (s : Size) (a b : NumberedOperand) → is_direct_branch o ≡ false → IsQuiet (Some (instruction o s a b))
unfolding instruction
quiet_instruction o s a b e = e

pub quiet_number : (o : Op) (s : Size) (a b : NumberedOperand) (t : Size) (n : Number) → is_direct_branch o ≡ false
    → IsQuiet (Some (with_number (instruction o s a b) t n))
unfolding instruction with_number
quiet_number o s a b t n e = e

quiet_pair : (o : Op) (s : Size) (p : Pair) → is_direct_branch o ≡ false → IsQuiet (Some (of_pair o s p))
quiet_pair o s (pair.Immediate n place) e = quiet_number o s place nothing s n e
quiet_pair o s (pair.FromRegister n place) e = quiet_instruction o s place (register_operand n) e
quiet_pair o s (pair.FromMemory place n) e = quiet_instruction o s (register_operand n) place e

quiet_memory : (s : Size) (p : Pair) → IsQuiet (Some (memory_first op.Test s p))
quiet_memory s (pair.Immediate n place) = quiet_number op.Test s place nothing s n refl
quiet_memory s (pair.FromRegister n place) = quiet_instruction op.Test s place (register_operand n) refl
quiet_memory s (pair.FromMemory place n) = quiet_instruction op.Test s place (register_operand n) refl

-- ---- arithmetic

pub quiet_of_one : (own : Option Size) (o : Op) (t : Option Size) (g : Given) → is_direct_branch o ≡ false → IsQuiet (of_one own o t g)
unfolding of_one
quiet_of_one own o t g e =
    bound (register_or_memory g) _ (λ place. bound (agreed t (said g) own) _ (λ s. quiet_instruction o s place nothing e))

pub quiet_one : (o : Op) (t : Option Size) (g : Given) → is_direct_branch o ≡ false → IsQuiet (one o t g)
quiet_one o t g e = quiet_of_one None o t g e

quiet_to : (o : Op) (t : Option Size) (a b : Given) → is_direct_branch o ≡ false → IsQuiet (to_register o t a b)
unfolding to_register
quiet_to o t a (given.Register u n) e =
    bound (register_or_memory a) _ (λ place. bound (agreed t (said a) (Some u)) _ (λ s. quiet_instruction o s (register_operand n) place e))
quiet_to o t a _ e = tt

quiet_with : (d : Option Draft) (t : Size) (n : Number) → IsQuiet d → IsQuiet (d >>= λ x. Some (with_number x t n))
unfolding with_number
quiet_with None t n h = tt
quiet_with (Some d) t n h = h

pub quiet_arithmetic : (k : Arithmetic) (t : Option Size) (os : Operands)
    → (arithmetic_ok : (o : Op) → (k ≡ arithmetic.Two o) ⊎ (k ≡ arithmetic.One o) → is_direct_branch o ≡ false)
    → IsQuiet (arithmetic_draft k t os)
unfolding arithmetic_draft of_two
quiet_arithmetic (arithmetic.Two o) t (operands.Two a b) h =
    bound (paired a b) _ (λ p. bound (agreed t (said a) (said b)) _ (λ s. quiet_pair o s p (h o (inl refl))))
quiet_arithmetic arithmetic.Test t (operands.Two a b) h =
    bound (paired a b) _ (λ p. bound (agreed t (said a) (said b)) _ (λ s. quiet_memory s p))
quiet_arithmetic (arithmetic.One o) t (operands.One g) h = quiet_one o t g (h o (inr refl))
quiet_arithmetic arithmetic.Multiply t (operands.One g) h = quiet_one op.Imul t g refl
quiet_arithmetic arithmetic.Multiply t (operands.Two a b) h = quiet_to op.Imul t a b refl
quiet_arithmetic arithmetic.Multiply t (operands.Three (given.Immediate n) a b) h =
    quiet_with (to_register op.ImulBy t a b) size.Long n (quiet_to op.ImulBy t a b refl)
quiet_arithmetic arithmetic.Multiply t (operands.Three (given.Register x y) a b) h = tt
quiet_arithmetic arithmetic.Multiply t (operands.Three (given.Segment x) a b) h = tt
quiet_arithmetic arithmetic.Multiply t (operands.Three (given.Control x) a b) h = tt
quiet_arithmetic arithmetic.Multiply t (operands.Three (given.Memory x) a b) h = tt
quiet_arithmetic arithmetic.Multiply t (operands.Three given.Port a b) h = tt
quiet_arithmetic arithmetic.Multiply t operands.Nothing h = tt
quiet_arithmetic arithmetic.Multiply t (operands.Starred g) h = tt
quiet_arithmetic _ t _ h = tt

-- ---- shifts

quiet_count : (d : Option Draft) → IsQuiet d → IsQuiet (d >>= λ x. Some (record x { insn = record x.insn { imm = 1 } }))
quiet_count None h = tt
quiet_count (Some d) h = h

pub quiet_shift : (o : Op) (t : Option Size) (os : Operands) → is_direct_branch o ≡ false → IsQuiet (shift_draft o t os)
unfolding shift_draft by_register instruction
quiet_shift o t (operands.One g) e = quiet_count (one o t g) (quiet_one o t g e)
quiet_shift o t (operands.Two (given.Immediate n) g) e = quiet_with (one o t g) size.Byte n (quiet_one o t g e)
quiet_shift o t (operands.Two (given.Register size.Byte n) g) e =
    chosen (n == 1) (bound (register_or_memory g) _
    (λ place. bound (agreed t (said g) None) _ (λ s. quiet_instruction o s place (register_operand 1) e))) where
      chosen : (b : Bool) → IsQuiet (by_register o t g) → IsQuiet (cond b (by_register o t g) None)
      chosen true h = h
      chosen false h = tt
quiet_shift o t (operands.Two (given.Register size.Word n) g) e = tt
quiet_shift o t (operands.Two (given.Register size.Long n) g) e = tt
quiet_shift o t (operands.Two (given.Segment n) g) e = tt
quiet_shift o t (operands.Two (given.Control n) g) e = tt
quiet_shift o t (operands.Two (given.Memory n) g) e = tt
quiet_shift o t (operands.Two given.Port g) e = tt
quiet_shift o t operands.Nothing e = tt
quiet_shift o t (operands.Starred g) e = tt
quiet_shift o t (operands.Three a b c) e = tt

-- ---- moves

quiet_special : (o : Op) (t : Option Size) (g : Given) (a b : NumberedOperand) → is_direct_branch o ≡ false → IsQuiet (special o t g a b)
unfolding special
quiet_special o t g a b e = bound (agreed t (said g) (Some size.Long)) _ (λ s. quiet_instruction o s a b e)

quiet_general : (t : Option Size) (a b : Given) → IsQuiet (two op.Mov t a b)
unfolding of_two
quiet_general t a b = bound (paired a b) _ (λ p. bound (agreed t (said a) (said b)) _ (λ s. quiet_pair op.Mov s p refl))

quiet_to_special : (t : Option Size) (a b : Given) → IsQuiet (moved t a b)
unfolding moved from_special to_special
quiet_to_special t (given.Segment x) b =
    bound (register_or_memory b) _ (λ to. quiet_special op.ReadSeg t b to (of_operand (operand.Segment x)) refl)
quiet_to_special t (given.Control x) b =
    bound (register_or_memory b) _ (λ to. quiet_special op.ReadControl t b to (of_operand (operand.Control x)) refl)
quiet_to_special t a (given.Segment x) =
    bound (register_or_memory a) _ (λ from. quiet_special op.LoadSeg t a (of_operand (operand.Segment x)) from refl)
quiet_to_special t a (given.Control x) =
    bound (register_or_memory a) _ (λ from. quiet_special op.WriteControl t a (of_operand (operand.Control x)) from refl)
quiet_to_special t a b = quiet_general t a b

quiet_extended : (o : Op) (s : Size) (a b : Given) → is_direct_branch o ≡ false → IsQuiet (extended o s a b)
unfolding extended
quiet_extended o s a (given.Register size.Long n) e = bound (register_or_memory a) _
    (λ from. bound (agreed (Some s) (said a) None) _ (λ t. quiet_instruction o t (register_operand n) from e))
quiet_extended o s a _ e = tt

quiet_effective : (t : Option Size) (a b : Given) → IsQuiet (effective t a b)
unfolding effective
quiet_effective t (given.Memory m) b = quiet_to op.Lea t (given.Memory m) b refl
quiet_effective t (given.Register x y) b = tt
quiet_effective t (given.Segment x) b = tt
quiet_effective t (given.Control x) b = tt
quiet_effective t (given.Immediate x) b = tt
quiet_effective t given.Port b = tt

quiet_with_register : (s : Size) (n : ℕ) (other : NumberedOperand) (x : Operand) → IsQuiet (Some (with_register s n other x))
quiet_with_register s n other (operand.Register m) = quiet_instruction op.Xchg s _ _ refl
quiet_with_register s n other operand.Absent = quiet_instruction op.Xchg s other (register_operand n) refl
quiet_with_register s n other (operand.Memory m) = quiet_instruction op.Xchg s other (register_operand n) refl
quiet_with_register s n other (operand.Segment m) = quiet_instruction op.Xchg s other (register_operand n) refl
quiet_with_register s n other (operand.Control m) = quiet_instruction op.Xchg s other (register_operand n) refl

quiet_exchange : (s : Size) (p : Pair) → IsQuiet (exchange s p)
quiet_exchange s (pair.Immediate n place) = tt
quiet_exchange s (pair.FromRegister n place) = quiet_with_register s n place place.operand
quiet_exchange s (pair.FromMemory place n) = quiet_instruction op.Xchg s place (register_operand n) refl

quiet_exchanged : (t : Option Size) (a b : Given) → IsQuiet (of_two exchange t a b)
unfolding of_two
quiet_exchanged t a b = bound (paired a b) _ (λ p. bound (agreed t (said a) (said b)) _ (λ s. quiet_exchange s p))

pub quiet_moves : (k : Moves) (t : Option Size) (os : Operands) → ((o : Op) (s : Size) → k ≡ moves.Extend o s → is_direct_branch o ≡ false)
    → IsQuiet (move_draft k t os)
unfolding move_draft
quiet_moves moves.Move t (operands.Two a b) h = quiet_to_special t a b
quiet_moves (moves.Extend o s) t (operands.Two a b) h = quiet_extended o s a b (h o s refl)
quiet_moves moves.Lea t (operands.Two a b) h = quiet_effective t a b
quiet_moves moves.Exchange t (operands.Two a b) h = quiet_exchanged t a b
quiet_moves _ t _ h = tt

-- ---- the stack

quiet_of_segment : (o : Op) (t : Option Size) (x : Seg) → is_direct_branch o ≡ false → IsQuiet (of_segment o t x)
unfolding of_segment
quiet_of_segment o t x e = bound (agreed t None (Some size.Long)) _ (λ s. quiet_instruction o s (of_operand (operand.Segment x)) nothing e)

quiet_pushed : (t : Option Size) (g : Given) → IsQuiet (pushed t g)
unfolding pushed
quiet_pushed t (given.Immediate n) = bound (agreed t (Some size.Long) None) _ (λ s. quiet_number op.Push size.Long nothing nothing s n refl)
quiet_pushed t (given.Segment x) = quiet_of_segment op.PushSeg t x refl
quiet_pushed t g = quiet_of_one (Some size.Long) op.Push t g refl

quiet_popped : (t : Option Size) (g : Given) → IsQuiet (popped t g)
unfolding popped
quiet_popped t (given.Segment x) = quiet_of_segment op.PopSeg t x refl
quiet_popped t g = quiet_of_one (Some size.Long) op.Pop t g refl

pub quiet_stack : (k : Stack) (t : Option Size) (os : Operands) → IsQuiet (stack_draft k t os)
unfolding stack_draft
quiet_stack stack.Push t (operands.One g) = quiet_pushed t g
quiet_stack stack.Pop t (operands.One g) = quiet_popped t g
quiet_stack _ t _ = tt

-- ---- strings, flags, system

pub quiet_string : (rep : Bool) (o : Op) (s : Size) (os : Operands) → is_direct_branch o ≡ false → IsQuiet (string_draft rep o s os)
unfolding string_draft instruction
quiet_string rep o s operands.Nothing e = e
quiet_string rep o s (operands.One a) e = tt
quiet_string rep o s (operands.Starred a) e = tt
quiet_string rep o s (operands.Two a b) e = tt
quiet_string rep o s (operands.Three a b c) e = tt

pub quiet_plain : (o : Op) (t : Option Size) (os : Operands) → is_direct_branch o ≡ false → IsQuiet (plain_draft o t os)
unfolding plain_draft
quiet_plain o t operands.Nothing e = bound (agreed t (Some size.Long) None) _ (λ s. quiet_instruction o size.Long nothing nothing e)
quiet_plain o t _ e = tt

quiet_if : (b : Bool) (d : Option Draft) → IsQuiet d → IsQuiet (cond b d None)
quiet_if true d h = h
quiet_if false d h = tt

quiet_through : (o : Op) (s : Size) (g : Given) → is_direct_branch o ≡ false → IsQuiet (through o s g)
unfolding through
quiet_through o s (given.Immediate n) e = quiet_number o s nothing nothing size.Byte n e
quiet_through o s given.Port e = quiet_instruction o s nothing (register_operand 2) e
quiet_through o s (given.Register size.Word n) e =
    quiet_if (n == 2) (Some (instruction o s nothing (register_operand 2))) (quiet_instruction o s nothing (register_operand 2) e)
quiet_through o s (given.Register size.Byte n) e = tt
quiet_through o s (given.Register size.Long n) e = tt
quiet_through o s (given.Segment n) e = tt
quiet_through o s (given.Control n) e = tt
quiet_through o s (given.Memory n) e = tt

quiet_ported : (o : Op) (t : Option Size) (p g : Given) → is_direct_branch o ≡ false → IsQuiet (ported o t p g)
unfolding ported
quiet_ported o t p (given.Register u n) e =
    quiet_if (n == 0) (agreed t (Some u) None >>= λ s. through o s p) (bound (agreed t (Some u) None) _ (λ s. quiet_through o s p e))
quiet_ported o t p _ e = tt

quiet_task : (t : Option Size) (g : Given) → IsQuiet (task t g)
unfolding task
quiet_task t g = bound (register_or_memory g) _
    (λ place. bound (agreed t (said g) (Some size.Word)) _ (λ s. quiet_instruction op.LoadTask size.Long place nothing refl))

pub quiet_system : (k : System) (t : Option Size) (os : Operands) → ((o : Op) → k ≡ system.Memory o → is_direct_branch o ≡ false)
    → IsQuiet (system_draft k t os)
unfolding system_draft
quiet_system system.In t (operands.Two p to) h = quiet_ported op.PortIn t p to refl
quiet_system system.Out t (operands.Two from p) h = quiet_ported op.PortOut t p from refl
quiet_system (system.Memory o) t (operands.One (given.Memory m)) h =
    bound (agreed t (Some size.Long) None) _ (λ s. quiet_instruction o s (memory m) nothing (h o refl))
quiet_system system.LoadTask t (operands.One g) h = quiet_task t g
quiet_system _ t _ h = tt
