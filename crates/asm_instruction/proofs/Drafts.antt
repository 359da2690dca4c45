-- The same of the others, and of every family.
use Rattle.std.proofs.Common.{◌≡◌, Bool, true, false, List, Option, Some, None, refl, ap, ◌∙◌}
use Rattle.std.specs.Prelude.{◌==◌}
use Rattle.std.proofs.lemmas.Bool.{both_ways}
use Rattle.ia32_types.specs.declared.insn.Op.{Op}
use Rattle.ia32_types.specs.declared.insn.Op.TheVariants as op
use Rattle.ia32_types.specs.declared.size.Size.{Size}
use Rattle.ia32_types.specs.declared.size.Size.TheVariants as size
use Rattle.ia32_types.specs.Branches.{is_direct_branch}
use Rattle.asm_source.specs.declared.tree.Argument.{Argument}
use Rattle.asm_instruction.specs.Names.{◌>>=◌}
use Rattle.asm_instruction.specs.declared.argument.Given.{Given}
use Rattle.asm_instruction.specs.declared.argument.Given.TheVariants as given
use Rattle.asm_instruction.specs.declared.argument.Operands.{Operands}
use Rattle.asm_instruction.specs.declared.argument.Operands.TheVariants as operands
use Rattle.asm_instruction.specs.declared.system.System.{System}
use Rattle.asm_instruction.specs.declared.system.System.TheVariants as system
use Rattle.asm_instruction.specs.declared.draft.Draft.{Draft}
use Rattle.asm_instruction.specs.declared.mnemonic.Family.{Family}
use Rattle.asm_instruction.specs.declared.mnemonic.Family.TheVariants as family
use Rattle.asm_instruction.specs.declared.mnemonic.Mnemonic.{Mnemonic}
use Rattle.asm_instruction.specs.Sizes.{agreed}
use Rattle.asm_instruction.specs.Draft.{nothing, register_operand, memory, register_or_memory, said, instruction, alone}
use Rattle.asm_instruction.specs.Strings.{string_draft}
use Rattle.asm_instruction.specs.Flags.{plain_draft}
use Rattle.asm_instruction.specs.System.{through, ported, task, system_draft}
use Rattle.asm_instruction.specs.Mnemonic.{by_family, repeated, drafted}
use Rattle.asm_instruction.proofs.Goods.{When, bind_from, bind_any, choice, PlaceGood, GivenGood, OperandsGood, DraftGood, family_good, not_direct, Good, instruction_good, instruction_op, instruction_numbered, rom_good, arithmetic_good, shift_good}
use Rattle.asm_instruction.proofs.MovesGood.{move_good, stack_good}
use Rattle.asm_instruction.proofs.ControlGood.{control_good}

module _ (args : List Argument) where
  pub repeated_good : (d : Draft) (s : Size) (r : Bool) → is_direct_branch d.insn.op ≡ false → DraftGood args d
      → DraftGood args (record d { insn = record d.insn { size = s; rep = r } })
  repeated_good d s r e g = record {
    bounded = record { a = g.bounded.a; b = g.bounded.b; imm = g.bounded.imm; sel = g.bounded.sel };
    direct = λ t. absurd (both_ways (is_direct_branch d.insn.op) e t);
    relative = g.relative;
  }

  pub string_good : (r : Bool) (o : Op) (s : Size) (os : Operands) → is_direct_branch o ≡ false → Good args (string_draft r o s os)
  unfolding string_draft
  string_good r o s operands.Nothing e =
      repeated_good (alone o) s r (ap is_direct_branch (instruction_op args o size.Long nothing nothing) ∙ e)
      (instruction_good args o size.Long nothing nothing e tt tt)
  string_good r o s (operands.One g) e = tt
  string_good r o s (operands.Starred g) e = tt
  string_good r o s (operands.Two x d) e = tt
  string_good r o s (operands.Three x d g) e = tt

  pub plain_good : (o : Op) (f : Option Size) (os : Operands) → is_direct_branch o ≡ false → Good args (plain_draft o f os)
  unfolding plain_draft
  plain_good o f operands.Nothing e =
      bind_any (DraftGood args) (agreed f (Some size.Long) None) _ (λ z. instruction_good args o size.Long nothing nothing e tt tt)
  plain_good o f _ e = tt

  pub through_good : (o : Op) (s : Size) (g : Given) → is_direct_branch o ≡ false → Good args (through o s g)
  unfolding through
  through_good o s (given.Immediate n) e = instruction_numbered args o s size.Byte nothing nothing n e tt tt
  through_good o s given.Port e = instruction_good args o s nothing (register_operand 2) e tt tt
  through_good o s (given.Register size.Word n) e = choice (DraftGood args) (n == 2) (Some (instruction o s nothing (register_operand 2)))
      None (instruction_good args o s nothing (register_operand 2) e tt tt) tt
  through_good o s (given.Register size.Byte n) e = tt
  through_good o s (given.Register size.Long n) e = tt
  through_good o s (given.Memory m) e = tt
  through_good o s (given.Segment m) e = tt
  through_good o s (given.Control m) e = tt

  pub ported_good : (o : Op) (f : Option Size) (p g : Given) → is_direct_branch o ≡ false → Good args (ported o f p g)
  unfolding ported
  ported_good o f p (given.Register t n) e =
      choice (DraftGood args) (n == 0) (agreed f (Some t) None >>= λ z. through o z p) None
      (bind_any (DraftGood args) (agreed f (Some t) None) _ (λ z. through_good o z p e)) tt
  ported_good o f p _ e = tt

  pub of_memory_good : (o : Op) (f : Option Size) (g : Given) → is_direct_branch o ≡ false → GivenGood args g
      → Good args (system_draft (system.Memory o) f (operands.One g))
  unfolding system_draft
  of_memory_good o f (given.Memory m) e h =
      bind_any (DraftGood args) (agreed f (Some size.Long) None) _ (λ z. instruction_good args o z (memory m) nothing e h.below tt)
  of_memory_good o f _ e h = tt

  pub task_good : (f : Option Size) (g : Given) → GivenGood args g → Good args (task f g)
  unfolding task
  task_good f g p = bind_from PlaceGood (DraftGood args) (register_or_memory g) _ (rom_good args g p)
      (λ x h. bind_any (DraftGood args) (agreed f (said g) (Some size.Word)) _
      (λ z. instruction_good args op.LoadTask size.Long x nothing refl h tt))

  pub system_good : (k : System) (f : Option Size) (os : Operands) → family_good (family.System k) ≡ true → OperandsGood args os
      → Good args (system_draft k f os)
  unfolding system_draft
  system_good system.In f operands.Nothing e h = tt
  system_good system.In f (operands.One g) e h = tt
  system_good system.In f (operands.Starred g) e h = tt
  system_good system.In f (operands.Two s d) e h = ported_good op.PortIn f s d refl
  system_good system.In f (operands.Three s d g) e h = tt
  system_good system.Out f operands.Nothing e h = tt
  system_good system.Out f (operands.One g) e h = tt
  system_good system.Out f (operands.Starred g) e h = tt
  system_good system.Out f (operands.Two s d) e h = ported_good op.PortOut f d s refl
  system_good system.Out f (operands.Three s d g) e h = tt
  system_good (system.Memory o) f operands.Nothing e h = tt
  system_good (system.Memory o) f (operands.One g) e h = of_memory_good o f g (not_direct o e) h
  system_good (system.Memory o) f (operands.Starred g) e h = tt
  system_good (system.Memory o) f (operands.Two s d) e h = tt
  system_good (system.Memory o) f (operands.Three s d g) e h = tt
  system_good system.LoadTask f operands.Nothing e h = tt
  system_good system.LoadTask f (operands.One g) e h = task_good f g h
  system_good system.LoadTask f (operands.Starred g) e h = tt
  system_good system.LoadTask f (operands.Two s d) e h = tt
  system_good system.LoadTask f (operands.Three s d g) e h = tt

  pub by_family_good : (k : Family) (f : Option Size) (os : Operands) → family_good k ≡ true → OperandsGood args os
      → Good args (by_family k f os)
  by_family_good (family.Arithmetic k) f os e h = arithmetic_good args k f os e h
  by_family_good (family.Shift o) f os e h = shift_good args o f os (not_direct o e) h
  by_family_good (family.Moves k) f os e h = move_good args k f os e h
  by_family_good (family.Stack k) f os e h = stack_good args k f os h
  by_family_good (family.Control k) f os e h = control_good args k f os e h
  by_family_good (family.Strings o s) f os e h = string_good false o s os (not_direct o e)
  by_family_good (family.Plain o) f os e h = plain_good o f os (not_direct o e)
  by_family_good (family.System k) f os e h = system_good k f os e h

  pub repeated_family : (k : Family) (os : Operands) → family_good k ≡ true → Good args (repeated k os)
  repeated_family (family.Strings o s) os e = string_good true o s os (not_direct o e)
  repeated_family (family.Arithmetic k) os e = tt
  repeated_family (family.Shift o) os e = tt
  repeated_family (family.Moves k) os e = tt
  repeated_family (family.Stack k) os e = tt
  repeated_family (family.Control k) os e = tt
  repeated_family (family.Plain o) os e = tt
  repeated_family (family.System k) os e = tt

  pub drafted_good : (rep : Bool) (m : Mnemonic) (os : Operands) → family_good m.family ≡ true → OperandsGood args os
      → When (DraftGood args) (drafted rep m os)
  unfolding drafted
  drafted_good rep m os e h = choice (DraftGood args) rep (repeated m.family os) (by_family m.family m.suffix os)
      (repeated_family m.family os e) (by_family_good m.family m.suffix os e h)
