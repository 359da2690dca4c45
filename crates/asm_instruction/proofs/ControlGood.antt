-- The same of jumps, calls and returns.
use Rattle.std.proofs.Common.{◌≡◌, ℕ, ◌<◌, Bool, true, false, List, Option, Some, None, refl, ap, ◌∙◌, arith}
use Rattle.std.specs.Prelude.{◌&&◌, is_none, if◌then◌else◌}
use Rattle.std.proofs.lemmas.Bool.{ltb-true, both_ways, and_parts}
use Rattle.ia32_types.specs.declared.insn.Op.{Op}
use Rattle.ia32_types.specs.declared.insn.Op.TheVariants as op
use Rattle.ia32_types.specs.declared.size.Size.{Size}
use Rattle.ia32_types.specs.declared.size.Size.TheVariants as size
use Rattle.ia32_types.specs.Branches.{is_direct_branch}
use Rattle.asm_source.specs.declared.tree.Argument.{Argument}
use Rattle.asm_instruction.specs.Names.{◌>>=◌}
use Rattle.asm_instruction.specs.declared.argument.Number.{Number}
use Rattle.asm_instruction.specs.declared.argument.Memory.{Memory}
use Rattle.asm_instruction.specs.declared.argument.Given.{Given}
use Rattle.asm_instruction.specs.declared.argument.Given.TheVariants as given
use Rattle.asm_instruction.specs.declared.argument.Operands.{Operands}
use Rattle.asm_instruction.specs.declared.argument.Operands.TheVariants as operands
use Rattle.asm_instruction.specs.declared.control.Control.{Control}
use Rattle.asm_instruction.specs.declared.control.Control.TheVariants as control
use Rattle.asm_instruction.specs.declared.draft.Draft.{Draft}
use Rattle.asm_instruction.specs.declared.mnemonic.Family.TheVariants as family
use Rattle.asm_instruction.specs.Sizes.{agreed}
use Rattle.asm_instruction.specs.Draft.{nothing, instruction, with_number, alone}
use Rattle.asm_instruction.specs.Arithmetic.{one}
use Rattle.asm_instruction.specs.Control.{distance, to_symbol, is_symbol, direct, return_of, with_selector, far, set, control_draft}
use Rattle.asm_instruction.proofs.Goods.{bind_from, bind_any, choice, word_below, distance_below, MemoryGood, GivenGood, OperandsGood, DraftGood, family_good, branch_direct, branch_indirect, Good, of_one_good, one_plain, instruction_good, instruction_op, instruction_numbered, Plain}

module _ (args : List Argument) where
  pub both_true_first : (a b : Bool) → (a && b) ≡ true → a ≡ true
  both_true_first true b h = refl
  both_true_first false b h = h

  pub symbol_good : (o : Op) (c : ℕ) (m : Memory) → is_direct_branch o ≡ true → c < 16 → is_symbol m ≡ true → MemoryGood args m
      → DraftGood args (to_symbol o c m)
  unfolding to_symbol instruction
  symbol_good o c m e lt s h =
      let named = and_parts (m.displacement.named) (is_none m.address.base)
      (and_parts (m.displacement.named && is_none m.address.base) (is_none m.address.index) s).0 in
      record {
        bounded = record { a = tt; b = tt; imm = distance_below m.address.disp; sel = omega arith };
        direct = λ t. record {
          argument = m.displacement.argument;
          is = refl;
          named = h.named named.0;
          relative = refl;
          constant = ap distance h.constant;
        };
        relative = λ t. e;
      }

  pub direct_if : (o : Op) (c : ℕ) (f : Option Size) (m : Memory) (b : Bool) → is_symbol m ≡ b → is_direct_branch o ≡ true
      → c < 16 → MemoryGood args m
      → Good args (if b then (agreed f (Some size.Long) None >>= λ z. Some (to_symbol o c m)) else None)
  direct_if o c f m true s e lt h = bind_any (DraftGood args) (agreed f (Some size.Long) None) _ (λ z. symbol_good o c m e lt s h)
  direct_if o c f m false s e lt h = tt

  pub direct_good : (o : Op) (c : ℕ) (f : Option Size) (g : Given) → is_direct_branch o ≡ true → c < 16 → GivenGood args g
      → Good args (direct o c f g)
  unfolding direct
  direct_good o c f (given.Memory m) e lt h = direct_if o c f m (is_symbol m) refl e lt h
  direct_good o c f _ e lt h = tt

  pub return_good : (os : Operands) → Good args (return_of os)
  return_good operands.Nothing = instruction_good args op.Return size.Long nothing nothing refl tt tt
  return_good (operands.One (given.Immediate n)) = instruction_numbered args op.Return size.Long size.Word nothing nothing n refl tt tt
  return_good (operands.One (given.Register z n)) = tt
  return_good (operands.One (given.Segment z)) = tt
  return_good (operands.One (given.Control n)) = tt
  return_good (operands.One (given.Memory m)) = tt
  return_good (operands.One given.Port) = tt
  return_good (operands.Starred g) = tt
  return_good (operands.Two s d) = tt
  return_good (operands.Three s d g) = tt

  pub selector_good : (d : Draft) (n : Number) → is_direct_branch d.insn.op ≡ false → DraftGood args d → DraftGood args (with_selector d n)
  selector_good d n e g = record {
    bounded = record { a = g.bounded.a; b = g.bounded.b; imm = g.bounded.imm; sel = word_below n.value };
    direct = λ t. absurd (both_ways (is_direct_branch d.insn.op) e t);
    relative = g.relative;
  }

  pub numbered_op : (d : Draft) (s : Size) (n : Number) → (with_number d s n).insn.op ≡ d.insn.op
  unfolding with_number
  numbered_op d s n = refl

  pub far_good : (n k : Number) → Good args (far n k)
  unfolding far
  far_good n k = choice (DraftGood args) n.named None _ tt (selector_good (with_number (alone op.FarJump) size.Long k) n
      (ap is_direct_branch (numbered_op (alone op.FarJump) size.Long k ∙ instruction_op args op.FarJump size.Long nothing nothing))
      (instruction_numbered args op.FarJump size.Long size.Long nothing nothing k refl tt tt))

  pub condition_good : (d : Draft) (c : ℕ) → c < 16 → is_direct_branch d.insn.op ≡ false → DraftGood args d
      → DraftGood args (record d { insn = record d.insn { sel = c } })
  condition_good d c lt e g = record {
    bounded = record { a = g.bounded.a; b = g.bounded.b; imm = g.bounded.imm; sel = omega arith };
    direct = λ t. absurd (both_ways (is_direct_branch d.insn.op) e t);
    relative = g.relative;
  }

  pub set_good : (c : ℕ) (g : Given) → c < 16 → GivenGood args g → Good args (set c g)
  unfolding set
  set_good c g lt p = bind_from (Plain args) (DraftGood args) (one op.Setcc (Some size.Byte) g) _
      (one_plain args op.Setcc (Some size.Byte) g refl p) (λ x h. condition_good x c lt h.1 h.0)

  pub control_good : (k : Control) (f : Option Size) (os : Operands) → family_good (family.Control k) ≡ true → OperandsGood args os
      → Good args (control_draft k f os)
  unfolding control_draft
  control_good (control.Branch x y) f operands.Nothing e h = tt
  control_good (control.Branch x y) f (operands.One g) e h = direct_good x 0 f g (branch_direct x y e) (omega arith) h
  control_good (control.Branch x y) f (operands.Starred g) e h = of_one_good args (Some size.Long) y f g (branch_indirect x y e) h
  control_good (control.Branch x y) f (operands.Two s d) e h = tt
  control_good (control.Branch x y) f (operands.Three s d g) e h = tt
  control_good (control.Conditional c) f operands.Nothing e h = tt
  control_good (control.Conditional c) f (operands.One g) e h = direct_good op.Jcc c f g refl (ltb-true c 16 e) h
  control_good (control.Conditional c) f (operands.Starred g) e h = tt
  control_good (control.Conditional c) f (operands.Two s d) e h = tt
  control_good (control.Conditional c) f (operands.Three s d g) e h = tt
  control_good (control.Set c) f operands.Nothing e h = tt
  control_good (control.Set c) f (operands.One g) e h = set_good c g (ltb-true c 16 e) h
  control_good (control.Set c) f (operands.Starred g) e h = tt
  control_good (control.Set c) f (operands.Two s d) e h = tt
  control_good (control.Set c) f (operands.Three s d g) e h = tt
  control_good control.Interrupt f operands.Nothing e h = tt
  control_good control.Interrupt f (operands.One (given.Register z n)) e h = tt
  control_good control.Interrupt f (operands.One (given.Segment z)) e h = tt
  control_good control.Interrupt f (operands.One (given.Control n)) e h = tt
  control_good control.Interrupt f (operands.One (given.Memory m)) e h = tt
  control_good control.Interrupt f (operands.One (given.Immediate n)) e h =
      instruction_numbered args op.Int size.Long size.Byte nothing nothing n refl tt tt
  control_good control.Interrupt f (operands.One given.Port) e h = tt
  control_good control.Interrupt f (operands.Starred g) e h = tt
  control_good control.Interrupt f (operands.Two s d) e h = tt
  control_good control.Interrupt f (operands.Three s d g) e h = tt
  control_good control.Return f os e h = bind_any (DraftGood args) (agreed f (Some size.Long) None) _ (λ z. return_good os)
  control_good control.FarJump f operands.Nothing e h = tt
  control_good control.FarJump f (operands.One g) e h = tt
  control_good control.FarJump f (operands.Starred g) e h = tt
  control_good control.FarJump f (operands.Two (given.Register z n) d) e h = tt
  control_good control.FarJump f (operands.Two (given.Segment z) d) e h = tt
  control_good control.FarJump f (operands.Two (given.Control n) d) e h = tt
  control_good control.FarJump f (operands.Two (given.Memory m) d) e h = tt
  control_good control.FarJump f (operands.Two (given.Immediate n1) (given.Register z2 n2)) e h = tt
  control_good control.FarJump f (operands.Two (given.Immediate n1) (given.Segment z2)) e h = tt
  control_good control.FarJump f (operands.Two (given.Immediate n1) (given.Control n2)) e h = tt
  control_good control.FarJump f (operands.Two (given.Immediate n1) (given.Memory m2)) e h = tt
  control_good control.FarJump f (operands.Two (given.Immediate n1) (given.Immediate n2)) e h = far_good n1 n2
  control_good control.FarJump f (operands.Two (given.Immediate n1) given.Port) e h = tt
  control_good control.FarJump f (operands.Two given.Port d) e h = tt
  control_good control.FarJump f (operands.Three s d g) e h = tt
