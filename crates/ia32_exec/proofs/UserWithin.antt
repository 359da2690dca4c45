-- What an instruction writes at CPL 3 lies in its write range.
use Rattle.std.proofs.Common.{◌≡◌, ℕ, Bool, true, false, refl, sym, subst}
use Rattle.std.specs.Prelude.{if◌then◌else◌}
use Rattle.ia32_types.specs.declared.size.Size.TheVariants.{Word}
use Rattle.ia32_types.specs.declared.flags.Regs.{Regs}
use Rattle.ia32_types.specs.declared.stop.Stop.TheVariants.{Unsupported}
use Rattle.ia32_types.specs.declared.insn.Insn.{Insn}
use Rattle.ia32_types.specs.declared.insn.Op.{Op}
use Rattle.ia32_types.specs.declared.insn.Op.TheVariants.{ReadSeg, PushSeg, Return, JumpTo, CallTo}
use Rattle.ia32_types.specs.declared.insn.Operand.{Operand}
use Rattle.ia32_types.specs.declared.insn.Operand.TheVariants.{Absent, Register, Memory, Segment, Control}
use Rattle.ia32_exec.specs.declared.outcome.Outcome.{Outcome}
use Rattle.ia32_exec.specs.declared.outcome.Outcome.TheVariants.{Done, Stop}
use Rattle.ia32_exec.specs.declared.outcome.Stores.{Stores}
use Rattle.ia32_exec.specs.declared.outcome.Stores.TheVariants.{Nothing}
use Rattle.ia32_exec.specs.declared.selectors.Selectors.{Selectors}
use Rattle.ia32_exec.specs.Registers.{address_of, eip_past}
use Rattle.ia32_exec.specs.Ranges.{operand_range}
use Rattle.ia32_exec.specs.Readable.{Covers}
use Rattle.ia32_exec.specs.Effect.{ranges_row, ranges_of, effect}
use Rattle.ia32_exec.specs.Outcomes.{AreStored, stores_of}
use Rattle.ia32_exec.specs.Stack.{pushed_number}
use Rattle.ia32_types.specs.Places.{is_place}
use Rattle.ia32_exec.specs.UserTransfers.{returned, jumped_through, called_through}
use Rattle.ia32_exec.specs.Selectors.{selector_to, read_from, pushed_from, selector_read, selector_pushed}
use Rattle.ia32_exec.specs.UserEffect.{user_row, user_effect}
use Rattle.ia32_exec.proofs.Within.{within_row}

module _ (P : ℕ → Type 0) where
  of_place : (c : Bool) (r : Regs) (ws : Stores) → AreStored P ws → AreStored P (stores_of (if c then (Done r ws) else (Stop Unsupported)))
  of_place true r ws h = h
  of_place false r ws h = tt

  of_selector : (o : Operand) (v len : ℕ) (r : Regs) → Covers P (operand_range o Word r) → AreStored P (stores_of (selector_to o v len r))
  unfolding address_of
  of_selector Absent v len r h = tt
  of_selector (Register n) v len r h = tt
  of_selector (Memory a) v len r h = h
  of_selector (Segment s) v len r h = tt
  of_selector (Control n) v len r h = tt

  of_read : (g : Selectors) (from to : Operand) (len : ℕ) (r : Regs) → Covers P (operand_range to Word r)
      → AreStored P (stores_of (read_from g from to len r))
  of_read g (Segment s) to len r h = of_selector to _ len r h
  of_read g Absent to len r h = tt
  of_read g (Register n) to len r h = tt
  of_read g (Memory a) to len r h = tt
  of_read g (Control n) to len r h = tt

  of_pushed : (g : Selectors) (from : Operand) (len : ℕ) (i : Insn) (r : Regs) → Covers P (ranges_row PushSeg i r).write
      → AreStored P (stores_of (pushed_from g from (eip_past len r)))
  unfolding pushed_number
  of_pushed g (Segment s) len i r h = h
  of_pushed g Absent len i r h = tt
  of_pushed g (Register n) len i r h = tt
  of_pushed g (Memory a) len i r h = tt
  of_pushed g (Control n) len i r h = tt

  user_row_within : (op : Op) (g : Selectors) (i : Insn) (len : ℕ) (r : Regs) (b : ℕ → ℕ) → i.op ≡ op → Covers P (ranges_row op i r).write
      → AreStored P (stores_of (user_row op g i len r b))
  unfolding returned jumped_through called_through selector_read selector_pushed
  user_row_within Return g i len r b e h = tt
  user_row_within JumpTo g i len r b e h = of_place (is_place i.a) _ Nothing tt
  user_row_within CallTo g i len r b e h = of_place (is_place i.a) _ _ h
  user_row_within ReadSeg g i len r b e h = of_read g i.b i.a len r h
  user_row_within PushSeg g i len r b e h = of_pushed g i.a len i r h
  user_row_within op g i len r b e h =
      unfold effect in within_row P i.op i len r b (subst (λ (o : Op). Covers P (ranges_row o i r).write) (sym e) h)

-- the same of what `user_effect` is
pub within_user : (P : ℕ → Type 0) (g : Selectors) (i : Insn) (len : ℕ) (r : Regs) (b : ℕ → ℕ) (o : Outcome) → o ≡ user_effect g i len r b
    → Covers P (ranges_of i r).write → AreStored P (stores_of o)
unfolding user_effect ranges_of
within_user P g i len r b o e h = subst (λ (x : Outcome). AreStored P (stores_of x)) (sym e) (user_row_within P i.op g i len r b refl h)
