-- The numbers of what a statement means fit their fields exactly where those of its operands do.
use Rattle.std.proofs.Common.{◌≡◌, ℕ, ◌++◌, Bool, true, false, [], ◌∷◌, Option, Some, None, refl, ap, subst, ◌∙◌}
use Rattle.std.specs.Prelude.{◌==◌, ◌&&◌}
use Rattle.ia32_types.specs.declared.insn.Op.{Op}
use Rattle.ia32_types.specs.declared.insn.Op.TheVariants as op
use Rattle.ia32_types.specs.declared.size.Size.{Size}
use Rattle.ia32_types.specs.declared.size.Size.TheVariants as size
use Rattle.asm_instruction.specs.Names.{◌>>=◌}
use Rattle.asm_instruction.specs.declared.argument.Number.{Number}
use Rattle.asm_instruction.specs.declared.argument.Memory.{Memory}
use Rattle.asm_instruction.specs.declared.argument.Given.{Given}
use Rattle.asm_instruction.specs.declared.argument.Given.TheVariants as given
use Rattle.asm_instruction.specs.declared.argument.Operands.{Operands}
use Rattle.asm_instruction.specs.declared.argument.Operands.TheVariants as operands
use Rattle.asm_instruction.specs.declared.control.Control.{Control}
use Rattle.asm_instruction.specs.declared.control.Control.TheVariants as control
use Rattle.asm_instruction.specs.declared.system.System.{System}
use Rattle.asm_instruction.specs.declared.system.System.TheVariants as system
use Rattle.asm_instruction.specs.declared.draft.Draft.{Draft}
use Rattle.asm_instruction.specs.declared.mnemonic.Family.{Family}
use Rattle.asm_instruction.specs.declared.mnemonic.Family.TheVariants as family
use Rattle.asm_instruction.specs.declared.mnemonic.Mnemonic.{Mnemonic}
use Rattle.asm_instruction.specs.Field.{fits_field}
use Rattle.asm_instruction.specs.Sizes.{agreed}
use Rattle.asm_instruction.specs.Draft.{nothing, register_operand, memory, register_or_memory, said, instruction, with_number, alone}
use Rattle.asm_instruction.specs.Arithmetic.{one}
use Rattle.asm_instruction.specs.Control.{to_symbol, is_symbol, direct, return_of, with_selector, far, set, control_draft}
use Rattle.asm_instruction.specs.Strings.{string_draft}
use Rattle.asm_instruction.specs.Flags.{plain_draft}
use Rattle.asm_instruction.specs.System.{through, ported, task, system_draft}
use Rattle.asm_instruction.specs.Mnemonic.{by_family, repeated, drafted}
use Rattle.asm_instruction.specs.Refusals.{field_of, first_field_of, numbers_in, numbers}
use Rattle.asm_instruction.proofs.Goods.{When, bind_from, bind_any, choice}
use Rattle.asm_instruction.proofs.Fitting.{all_fit, and_true, none_more, FitTo, PlaceFit, rom_fit, One, unary_fit, Two, Same, Byte, FamilyFit, Fit}
use Rattle.asm_instruction.proofs.MovesFit.{of_one_fit, one_fit, arithmetic_fit, shift_fit, move_fit, stack_fit}

-- ---- jumps, calls, returns, interrupts and conditions

symbol_fit : (o : Op) (c : ℕ) (m : Memory) → FitTo (One Same (given.Memory m)) (to_symbol o c m)
unfolding to_symbol instruction
symbol_fit o c m = and_true (fits_field size.Long m.displacement.value)

direct_fit : (o : Op) (c : ℕ) (f : Option Size) (g : Given) → When (FitTo (One Same g)) (direct o c f g)
unfolding direct
direct_fit o c f (given.Memory m) =
    choice (FitTo (One Same (given.Memory m))) (is_symbol m) (agreed f (Some size.Long) None >>= λ z. Some (to_symbol o c m)) None
    (bind_any (FitTo (One Same (given.Memory m))) (agreed f (Some size.Long) None) _ (λ z. symbol_fit o c m)) tt
direct_fit o c f _ = tt

number_fit : (o : Op) (s : Size) (n : Number) → FitTo (λ z. (s, n.value) ∷ []) (with_number (alone o) s n)
unfolding instruction with_number
number_fit o s n = and_true (fits_field s n.value)

return_fit : (os : Operands) → Fit (family.Control control.Return) os (return_of os)
unfolding numbers field_of first_field_of instruction
return_fit operands.Nothing = refl
return_fit (operands.One (given.Immediate n)) = number_fit op.Return size.Word n
return_fit (operands.One (given.Register z n)) = tt
return_fit (operands.One (given.Segment z)) = tt
return_fit (operands.One (given.Control n)) = tt
return_fit (operands.One (given.Memory m)) = tt
return_fit (operands.One given.Port) = tt
return_fit (operands.Starred g) = tt
return_fit (operands.Two s d) = tt
return_fit (operands.Three s d g) = tt

selected_fit : (n k : Number) → FitTo (λ z. (size.Long, k.value) ∷ [] ++ (size.Word, n.value) ∷ [])
    (with_selector (with_number (alone op.FarJump) size.Long k) n)
unfolding instruction with_number
selected_fit n k = ap (λ (b : Bool). fits_field size.Long k.value && b) (and_true (fits_field size.Word n.value))

far_fit : (n k : Number) → When (FitTo (λ z. (size.Long, k.value) ∷ [] ++ (size.Word, n.value) ∷ [])) (far n k)
unfolding far
far_fit n k = choice (FitTo (λ z. (size.Long, k.value) ∷ [] ++ (size.Word, n.value) ∷ [])) n.named None _ tt (selected_fit n k)

set_fit : (c : ℕ) (g : Given) → When (FitTo (One Same g)) (set c g)
unfolding set
set_fit c g = bind_from (FitTo (One Same g)) (FitTo (One Same g)) (one op.Setcc (Some size.Byte) g) _
    (one_fit Same op.Setcc (Some size.Byte) g) (λ x h. h)

control_fit : (k : Control) (f : Option Size) (os : Operands) → Fit (family.Control k) os (control_draft k f os)
unfolding control_draft numbers field_of first_field_of
control_fit (control.Branch x y) f operands.Nothing = tt
control_fit (control.Branch x y) f (operands.One g) = direct_fit x 0 f g
control_fit (control.Branch x y) f (operands.Starred g) = of_one_fit Same (Some size.Long) y f g
control_fit (control.Branch x y) f (operands.Two s d) = tt
control_fit (control.Branch x y) f (operands.Three s d g) = tt
control_fit (control.Conditional c) f operands.Nothing = tt
control_fit (control.Conditional c) f (operands.One g) = direct_fit op.Jcc c f g
control_fit (control.Conditional c) f (operands.Starred g) = tt
control_fit (control.Conditional c) f (operands.Two s d) = tt
control_fit (control.Conditional c) f (operands.Three s d g) = tt
control_fit (control.Set c) f operands.Nothing = tt
control_fit (control.Set c) f (operands.One g) = set_fit c g
control_fit (control.Set c) f (operands.Starred g) = tt
control_fit (control.Set c) f (operands.Two s d) = tt
control_fit (control.Set c) f (operands.Three s d g) = tt
control_fit control.Interrupt f operands.Nothing = tt
control_fit control.Interrupt f (operands.One (given.Register z n)) = tt
control_fit control.Interrupt f (operands.One (given.Segment z)) = tt
control_fit control.Interrupt f (operands.One (given.Control n)) = tt
control_fit control.Interrupt f (operands.One (given.Memory m)) = tt
control_fit control.Interrupt f (operands.One (given.Immediate n)) = number_fit op.Int size.Byte n
control_fit control.Interrupt f (operands.One given.Port) = tt
control_fit control.Interrupt f (operands.Starred g) = tt
control_fit control.Interrupt f (operands.Two s d) = tt
control_fit control.Interrupt f (operands.Three s d g) = tt
control_fit control.Return f os =
    bind_any (FamilyFit (family.Control control.Return) os) (agreed f (Some size.Long) None) _ (λ z. return_fit os)
control_fit control.FarJump f operands.Nothing = tt
control_fit control.FarJump f (operands.One g) = tt
control_fit control.FarJump f (operands.Starred g) = tt
control_fit control.FarJump f (operands.Two (given.Register z n) d) = tt
control_fit control.FarJump f (operands.Two (given.Segment z) d) = tt
control_fit control.FarJump f (operands.Two (given.Control n) d) = tt
control_fit control.FarJump f (operands.Two (given.Memory m) d) = tt
control_fit control.FarJump f (operands.Two (given.Immediate n1) (given.Register z2 n2)) = tt
control_fit control.FarJump f (operands.Two (given.Immediate n1) (given.Segment z2)) = tt
control_fit control.FarJump f (operands.Two (given.Immediate n1) (given.Control n2)) = tt
control_fit control.FarJump f (operands.Two (given.Immediate n1) (given.Memory m2)) = tt
control_fit control.FarJump f (operands.Two (given.Immediate n1) (given.Immediate n2)) = far_fit n1 n2
control_fit control.FarJump f (operands.Two (given.Immediate n1) given.Port) = tt
control_fit control.FarJump f (operands.Two given.Port d) = tt
control_fit control.FarJump f (operands.Three s d g) = tt

-- ---- the others

string_fit : (k : Family) (r : Bool) (o : Op) (s : Size) (os : Operands) → Fit k os (string_draft r o s os)
unfolding string_draft numbers instruction
string_fit k r o s operands.Nothing = refl
string_fit k r o s (operands.One g) = tt
string_fit k r o s (operands.Starred g) = tt
string_fit k r o s (operands.Two x d) = tt
string_fit k r o s (operands.Three x d g) = tt

plain_fit : (k : Family) (o : Op) (f : Option Size) (os : Operands) → Fit k os (plain_draft o f os)
unfolding plain_draft numbers instruction
plain_fit k o f operands.Nothing = bind_any (FamilyFit k operands.Nothing) (agreed f (Some size.Long) None) _ (λ z. refl)
plain_fit k o f _ = tt

through_fit : (o : Op) (s : Size) (g : Given) → When (FitTo (One Byte g)) (through o s g)
unfolding through instruction with_number
through_fit o s (given.Immediate n) = and_true (fits_field size.Byte n.value)
through_fit o s given.Port = refl
through_fit o s (given.Register size.Word n) =
    choice (FitTo (One Byte (given.Register size.Word n))) (n == 2) (Some (instruction o s nothing (register_operand 2))) None refl tt
through_fit o s (given.Register size.Byte n) = tt
through_fit o s (given.Register size.Long n) = tt
through_fit o s (given.Memory m) = tt
through_fit o s (given.Segment m) = tt
through_fit o s (given.Control m) = tt

widen : (p : Given) (d : Draft) → FitTo (One Byte p) d → FitTo (λ z. One Byte p z ++ []) d
widen p d h = h ∙ none_more (numbers_in size.Byte p)

widened : (p : Given) (o : Option Draft) → When (FitTo (One Byte p)) o → When (FitTo (λ z. One Byte p z ++ [])) o
widened p None h = tt
widened p (Some d) h = widen p d h

ported_in_fit : (f : Option Size) (p g : Given) → When (FitTo (Two Byte Byte p g)) (ported op.PortIn f p g)
unfolding ported
ported_in_fit f p (given.Register t n) =
    choice (FitTo (One Byte p)) (n == 0) (agreed f (Some t) None >>= λ z. through op.PortIn z p) None
    (bind_any (FitTo (One Byte p)) (agreed f (Some t) None) _ (λ z. through_fit op.PortIn z p)) tt
ported_in_fit f p _ = tt

ported_out_fit : (f : Option Size) (p g : Given) → When (FitTo (Two Byte Byte g p)) (ported op.PortOut f p g)
unfolding ported
ported_out_fit f p (given.Register t n) =
    choice (FitTo (λ z. One Byte p z ++ [])) (n == 0) (agreed f (Some t) None >>= λ z. through op.PortOut z p) None
    (bind_any (FitTo (λ z. One Byte p z ++ [])) (agreed f (Some t) None) _
    (λ z. widened p (through op.PortOut z p) (through_fit op.PortOut z p))) tt
ported_out_fit f p _ = tt

of_memory_fit : (o : Op) (f : Option Size) (g : Given) → When (FitTo (One Byte g)) (system_draft (system.Memory o) f (operands.One g))
unfolding system_draft
of_memory_fit o f (given.Memory m) =
    bind_any (FitTo (One Byte (given.Memory m))) (agreed f (Some size.Long) None) _
    (λ z. unary_fit Byte (given.Memory m) o z (memory m) (λ z. and_true (fits_field size.Long m.displacement.value)))
of_memory_fit o f _ = tt

task_fit : (f : Option Size) (g : Given) → When (FitTo (One Byte g)) (task f g)
unfolding task
task_fit f g = bind_from (PlaceFit g) (FitTo (One Byte g)) (register_or_memory g) _ (rom_fit g)
    (λ x h. bind_any (FitTo (One Byte g)) (agreed f (said g) (Some size.Word)) _ (λ z. unary_fit Byte g op.LoadTask size.Long x h))

system_fit : (k : System) (f : Option Size) (os : Operands) → Fit (family.System k) os (system_draft k f os)
unfolding system_draft numbers field_of first_field_of
system_fit system.In f operands.Nothing = tt
system_fit system.In f (operands.One g) = tt
system_fit system.In f (operands.Starred g) = tt
system_fit system.In f (operands.Two s d) = ported_in_fit f s d
system_fit system.In f (operands.Three s d g) = tt
system_fit system.Out f operands.Nothing = tt
system_fit system.Out f (operands.One g) = tt
system_fit system.Out f (operands.Starred g) = tt
system_fit system.Out f (operands.Two s d) = ported_out_fit f d s
system_fit system.Out f (operands.Three s d g) = tt
system_fit (system.Memory o) f operands.Nothing = tt
system_fit (system.Memory o) f (operands.One g) = of_memory_fit o f g
system_fit (system.Memory o) f (operands.Starred g) = tt
system_fit (system.Memory o) f (operands.Two s d) = tt
system_fit (system.Memory o) f (operands.Three s d g) = tt
system_fit system.LoadTask f operands.Nothing = tt
system_fit system.LoadTask f (operands.One g) = task_fit f g
system_fit system.LoadTask f (operands.Starred g) = tt
system_fit system.LoadTask f (operands.Two s d) = tt
system_fit system.LoadTask f (operands.Three s d g) = tt

family_fit : (k : Family) (f : Option Size) (os : Operands) → Fit k os (by_family k f os)
family_fit (family.Arithmetic k) f os = arithmetic_fit k f os
family_fit (family.Shift o) f os = shift_fit o f os
family_fit (family.Moves k) f os = move_fit k f os
family_fit (family.Stack k) f os = stack_fit k f os
family_fit (family.Control k) f os = control_fit k f os
family_fit (family.Strings o s) f os = string_fit (family.Strings o s) false o s os
family_fit (family.Plain o) f os = plain_fit (family.Plain o) o f os
family_fit (family.System k) f os = system_fit k f os

repeated_fit : (k : Family) (os : Operands) → Fit k os (repeated k os)
repeated_fit (family.Strings o s) os = string_fit (family.Strings o s) true o s os
repeated_fit (family.Arithmetic k) os = tt
repeated_fit (family.Shift o) os = tt
repeated_fit (family.Moves k) os = tt
repeated_fit (family.Stack k) os = tt
repeated_fit (family.Control k) os = tt
repeated_fit (family.Plain o) os = tt
repeated_fit (family.System k) os = tt

drafted_when : (rep : Bool) (m : Mnemonic) (os : Operands) → Fit m.family os (drafted rep m os)
unfolding drafted
drafted_when rep m os = choice (FamilyFit m.family os) rep (repeated m.family os) (by_family m.family m.suffix os)
    (repeated_fit m.family os) (family_fit m.family m.suffix os)

pub drafted_fit : (rep : Bool) (m : Mnemonic) (os : Operands) (d : Draft) → drafted rep m os ≡ Some d
    → d.fits ≡ all_fit (numbers m.family d.insn.size os)
drafted_fit rep m os d e = subst (When (FamilyFit m.family os)) e (drafted_when rep m os)
