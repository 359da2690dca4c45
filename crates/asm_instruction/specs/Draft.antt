-- An instruction that is put together from its operands.
use Rattle.std.specs.Prelude.{ℕ, ◌&&◌, Bool, true, false, Option, Some, None}
use Rattle.std.specs.Option.{option_or, option_map}
use Rattle.ia32_types.specs.declared.insn.Op.{Op}
use Rattle.ia32_types.specs.declared.insn.Operand.{Operand}
use Rattle.ia32_types.specs.declared.insn.Operand.TheVariants as operand
use Rattle.ia32_types.specs.declared.size.Size.{Size}
use Rattle.ia32_types.specs.declared.size.Size.TheVariants as size
use Rattle.asm_instruction.specs.declared.argument.Number.{Number}
use Rattle.asm_instruction.specs.declared.argument.Memory.{Memory}
use Rattle.asm_instruction.specs.declared.argument.Given.{Given}
use Rattle.asm_instruction.specs.declared.argument.Given.TheVariants as given
use Rattle.asm_instruction.specs.declared.draft.NumberedOperand.{NumberedOperand}
use Rattle.asm_instruction.specs.declared.draft.Pair.{Pair}
use Rattle.asm_instruction.specs.declared.draft.Pair.TheVariants as pair
use Rattle.asm_instruction.specs.declared.draft.Draft.{Draft}
use Rattle.asm_instruction.specs.Names.{◌>>=◌}
use Rattle.asm_instruction.specs.Field.{field, fits_field}

-- ---- operands

abbrev pub of_operand : Operand → NumberedOperand
of_operand o = record { operand = o; displacement = None }

abbrev pub nothing : NumberedOperand
nothing = of_operand operand.Absent

abbrev pub register_operand : ℕ → NumberedOperand
register_operand n = of_operand (operand.Register n)

abbrev pub memory : Memory → NumberedOperand
memory m = record { operand = operand.Memory m.address; displacement = Some m.displacement }

abbrev pub register_or_memory : Given → Option NumberedOperand
register_or_memory (given.Register s n) = Some (register_operand n)
register_or_memory (given.Memory m) = Some (memory m)
register_or_memory _ = None

-- the size of a register
abbrev pub said : Given → Option Size
said (given.Register s n) = Some s
said _ = None

-- ---- source and destination, of which at most one is in memory

unfoldable pub paired : Given → Given → Option Pair
paired (given.Immediate n) destination = register_or_memory destination >>= λ p. Some (pair.Immediate n p)
paired (given.Register s n) destination = register_or_memory destination >>= λ p. Some (pair.FromRegister n p)
paired (given.Memory m) (given.Register s n) = Some (pair.FromMemory (memory m) n)
paired _ destination = None

-- ---- instructions

abbrev pub displaced : NumberedOperand → NumberedOperand → Option Number
displaced a b = option_or a.displacement b.displacement

abbrev pub fits_displacement : Option Number → Bool
fits_displacement (Some n) = fits_field size.Long n.value
fits_displacement None = true

unfoldable pub instruction : Op → Size → NumberedOperand → NumberedOperand → Draft
instruction o s a b = record {
  insn = record { op = o; size = s; a = a.operand; b = b.operand; imm = 0; sel = 0; rep = false };
  disp = option_map (λ (n : Number). n.argument) (displaced a b);
  imm = None;
  relative = false;
  fits = fits_displacement (displaced a b);
}

-- with an immediate in a field of this size
unfoldable pub with_number : Draft → Size → Number → Draft
with_number d s n = record d {
  insn = record d.insn { imm = field s n.value };
  imm = Some n.argument;
  fits = d.fits && fits_field s n.value;
}

abbrev pub unary : Op → Size → NumberedOperand → Draft
unary o s a = instruction o s a nothing

abbrev pub alone : Op → Draft
alone o = instruction o size.Long nothing nothing
