-- What an instruction accesses, and what it does: one row for each.
use Rattle.std.specs.Prelude.{ℕ, ◌/◌, true, false, if◌then◌else◌, Option, Some, None, slice_index}
use Rattle.std.specs.Option.{option_or}
use Rattle.ia32_types.specs.declared.size.Size.TheVariants.{Byte, Word, Long}
use Rattle.ia32_types.specs.declared.register.Seg.{Seg}
use Rattle.ia32_types.specs.declared.register.Seg.TheVariants.{Es, Ss, Ds}
use Rattle.ia32_types.specs.declared.flags.Regs.{Regs}
use Rattle.ia32_types.specs.declared.stop.Stop.TheVariants.{Unsupported}
use Rattle.ia32_types.specs.declared.insn.Insn.{Insn}
use Rattle.ia32_types.specs.declared.insn.Op.{Op}
use Rattle.ia32_types.specs.declared.insn.Op.TheVariants.{Add, Or, Adc, Sbb, And, Sub, Xor, Cmp, Test, Not, Neg, Mul, Imul, ImulBy, Div, Idiv, Inc, Dec, Rol, Ror, Shl, Shr, Sar, Mov, Movzx, Movsx, Lea, Xchg, Push, Pop, Pusha, Popa, Cwde, Cdq, Leave, Nop, Jcc, Setcc, Jmp, Call, Ud2, Movs, Stos, Lods, Clc, Stc, Cld, Std, PushFlags, PopFlags, ReadSeg, PushSeg, Return, JumpTo, CallTo}
use Rattle.ia32_types.specs.Size.{width}
use Rattle.ia32_types.specs.declared.flags.TheConstants.{CARRY_AT, DIRECTION_AT}
use Rattle.ia32_exec.specs.declared.outcome.Outcome.{Outcome}
use Rattle.ia32_exec.specs.declared.outcome.Outcome.TheVariants.{Done, Raise, Stop}
use Rattle.ia32_exec.specs.declared.outcome.Stores.TheVariants.{Nothing}
use Rattle.ia32_exec.specs.declared.access.Range.{Range}
use Rattle.ia32_exec.specs.declared.access.Ranges.{Ranges}
use Rattle.ia32_exec.specs.Ranges.{operand_range}
use Rattle.ia32_exec.specs.Registers.{eip_past, with_whole}
use Rattle.ia32_exec.specs.Arithmetic.{arithmetic, tested, shifted, multiplied, signed_multiplied, multiplied_by, divided}
use Rattle.ia32_exec.specs.Moves.{moved, moved_with_zeros, moved_with_sign, loaded_address, exchanged, widened, sign_spread}
use Rattle.ia32_exec.specs.Stack.{stack_of, esp_below, esp_above, pushed, popped, all_pushed, all_popped, frame_left, called, flags_pushed, flags_popped}
use Rattle.ia32_exec.specs.Control.{jump, branched, set_by, flag_made}
use Rattle.ia32_exec.specs.Strings.{is_over, string}

-- the rows of the instructions
abbrev pub row : Op → Insn → ℕ → Regs → (ℕ → ℕ) → Outcome
row Add i len r b = arithmetic i len r b
row Or i len r b = arithmetic i len r b
row Adc i len r b = arithmetic i len r b
row Sbb i len r b = arithmetic i len r b
row And i len r b = arithmetic i len r b
row Sub i len r b = arithmetic i len r b
row Xor i len r b = arithmetic i len r b
row Not i len r b = arithmetic i len r b
row Neg i len r b = arithmetic i len r b
row Inc i len r b = arithmetic i len r b
row Dec i len r b = arithmetic i len r b
row Cmp i len r b = tested i len r b
row Test i len r b = tested i len r b
row Rol i len r b = shifted i len r b
row Ror i len r b = shifted i len r b
row Shl i len r b = shifted i len r b
row Shr i len r b = shifted i len r b
row Sar i len r b = shifted i len r b
row Mul i len r b = multiplied false i len r b
row Imul i len r b = signed_multiplied i len r b
row ImulBy i len r b = multiplied_by i len r b
row Div i len r b = divided false i len r b
row Idiv i len r b = divided true i len r b
row Mov i len r b = moved i len r b
row Movzx i len r b = moved_with_zeros i len r b
row Movsx i len r b = moved_with_sign i len r b
row Lea i len r b = loaded_address i len r b
row Xchg i len r b = exchanged i len r b
row Push i len r b = pushed i len r b
row Pop i len r b = popped i len r b
row Pusha i len r b = all_pushed len r
row Popa i len r b = all_popped len r b
row Cwde i len r b = widened len r
row Cdq i len r b = sign_spread len r
row Leave i len r b = frame_left len r b
row Nop i len r b = Done (eip_past len r) Nothing
row Jcc i len r b = branched i len r
row Setcc i len r b = set_by i len r
row Jmp i len r b = jump i len r
row Call i len r b = called i len r
row Ud2 i len r b = Raise 6 0
row Movs i len r b = string Movs i len r b
row Stos i len r b = string Stos i len r b
row Lods i len r b = string Lods i len r b
row Clc i len r b = flag_made CARRY_AT false len r
row Stc i len r b = flag_made CARRY_AT true len r
row Cld i len r b = flag_made DIRECTION_AT false len r
row Std i len r b = flag_made DIRECTION_AT true len r
row PushFlags i len r b = flags_pushed len r
row PopFlags i len r b = flags_popped len r b
row _ i len r b = Stop Unsupported

-- the outcome of an instruction, from its length, the registers and the bytes of memory
unfoldable pub effect : Insn → ℕ → Regs → (ℕ → ℕ) → Outcome
effect i len r b = row i.op i len r b

-- the stack, n bytes from an address
abbrev pub on_stack : ℕ → ℕ → Option Range
on_stack at n = Some (record { at = at; len = n; seg = Ss })

abbrev pub reads : Option Range → Ranges
reads x = record { read = x; write = None }

abbrev pub writes : Option Range → Ranges
writes x = record { read = None; write = x }

-- a source is read and a destination written; a destination that is read too counts as written (profile)
abbrev pub source_and_target : Insn → Regs → Ranges
source_and_target i r = record { read = operand_range i.b i.size r; write = operand_range i.a i.size r }

abbrev pub both_read : Insn → Regs → Ranges
both_read i r = reads (option_or (operand_range i.a i.size r) (operand_range i.b i.size r))

-- one element at ESI or EDI
abbrev pub element : Seg → ℕ → Insn → Regs → Option Range
element g n i r = Some (record { at = slice_index r.r n; len = width i.size / 8; seg = g })

abbrev pub unless_over : Insn → Regs → Option Range → Option Range
unless_over i r x = if is_over i r then None else x

-- the ranges of the instructions
abbrev pub ranges_row : Op → Insn → Regs → Ranges
ranges_row Add i r = source_and_target i r
ranges_row Or i r = source_and_target i r
ranges_row Adc i r = source_and_target i r
ranges_row Sbb i r = source_and_target i r
ranges_row And i r = source_and_target i r
ranges_row Sub i r = source_and_target i r
ranges_row Xor i r = source_and_target i r
ranges_row Not i r = source_and_target i r
ranges_row Neg i r = source_and_target i r
ranges_row Inc i r = source_and_target i r
ranges_row Dec i r = source_and_target i r
ranges_row Cmp i r = both_read i r
ranges_row Test i r = both_read i r
ranges_row Rol i r = writes (operand_range i.a i.size r)
ranges_row Ror i r = writes (operand_range i.a i.size r)
ranges_row Shl i r = writes (operand_range i.a i.size r)
ranges_row Shr i r = writes (operand_range i.a i.size r)
ranges_row Sar i r = writes (operand_range i.a i.size r)
ranges_row Mul i r = reads (operand_range i.a i.size r)
ranges_row Imul i r = both_read i r
ranges_row ImulBy i r = reads (operand_range i.b i.size r)
ranges_row Div i r = reads (operand_range i.a i.size r)
ranges_row Idiv i r = reads (operand_range i.a i.size r)
ranges_row Mov i r = source_and_target i r
ranges_row Movzx i r = reads (operand_range i.b i.size r)
ranges_row Movsx i r = reads (operand_range i.b i.size r)
ranges_row Xchg i r = source_and_target i r
ranges_row Push i r = record { read = operand_range i.a Long r; write = on_stack (esp_below 4 r) 4 }
ranges_row Pop i r = record { read = on_stack (stack_of r) 4; write = operand_range i.a Long (with_whole 4 (esp_above 4 r) r) }
ranges_row Pusha i r = writes (on_stack (esp_below 32 r) 32)
ranges_row Popa i r = reads (on_stack (stack_of r) 32)
ranges_row Leave i r = reads (on_stack (slice_index r.r 5) 4)
ranges_row Setcc i r = writes (operand_range i.a Byte r)
ranges_row Call i r = writes (on_stack (esp_below 4 r) 4)
ranges_row Movs i r = record { read = unless_over i r (element Ds 6 i r); write = unless_over i r (element Es 7 i r) }
ranges_row Stos i r = writes (unless_over i r (element Es 7 i r))
ranges_row Lods i r = reads (unless_over i r (element Ds 6 i r))
ranges_row PushFlags i r = writes (on_stack (esp_below 4 r) 4)
ranges_row PopFlags i r = reads (on_stack (stack_of r) 4)
ranges_row ReadSeg i r = writes (operand_range i.a Word r)
ranges_row PushSeg i r = writes (on_stack (esp_below 4 r) 4)
ranges_row Return i r = reads (on_stack (stack_of r) 4)
ranges_row JumpTo i r = reads (operand_range i.a Long r)
ranges_row CallTo i r = record { read = operand_range i.a Long r; write = on_stack (esp_below 4 r) 4 }
ranges_row _ i r = record { read = None; write = None }

unfoldable pub ranges_of : Insn → Regs → Ranges
ranges_of i r = ranges_row i.op i r
