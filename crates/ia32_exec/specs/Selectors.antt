-- Segment registers read and pushed. Intel SDM volume 2, MOV and PUSH. The upper half of a register, and of what is
-- pushed, becomes 0 (profile: the SDM leaves the choice to the processor).
use Rattle.std.specs.Prelude.{ℕ}
use Rattle.ia32_types.specs.declared.size.Size.TheVariants.{Word}
use Rattle.ia32_types.specs.declared.register.Seg.{Seg}
use Rattle.ia32_types.specs.declared.register.Seg.TheVariants.{Es, Cs, Ss, Ds}
use Rattle.ia32_types.specs.declared.flags.Regs.{Regs}
use Rattle.ia32_types.specs.declared.stop.Stop.TheVariants.{Unsupported}
use Rattle.ia32_types.specs.declared.insn.Insn.{Insn}
use Rattle.ia32_types.specs.declared.insn.Operand.{Operand}
use Rattle.ia32_types.specs.declared.insn.Operand.TheVariants.{Register, Memory, Segment}
use Rattle.ia32_exec.specs.declared.outcome.Outcome.{Outcome}
use Rattle.ia32_exec.specs.declared.outcome.Outcome.TheVariants.{Done, Stop}
use Rattle.ia32_exec.specs.declared.outcome.Stores.TheVariants.{Nothing, One}
use Rattle.ia32_exec.specs.declared.selectors.Selectors.{Selectors}
use Rattle.ia32_exec.specs.Memory.{store}
use Rattle.ia32_exec.specs.Registers.{address_of, with_whole, eip_past}
use Rattle.ia32_exec.specs.Stack.{pushed_number}

abbrev pub selector_of : Selectors → Seg → ℕ
selector_of g Es = g.es
selector_of g Cs = g.cs
selector_of g Ss = g.ss
selector_of g Ds = g.ds

-- a selector goes to a whole register, or to two bytes of memory
abbrev pub selector_to : Operand → (selector len : ℕ) → Regs → Outcome
selector_to (Register n) v len r = Done (eip_past len (with_whole n v r)) Nothing
selector_to (Memory a) v len r = Done (eip_past len r) (One (store (address_of a r) Word v))
selector_to _ v len r = Stop Unsupported

abbrev pub read_from : Selectors → (from to : Operand) → ℕ → Regs → Outcome
read_from g (Segment seg) to len r = selector_to to (selector_of g seg) len r
read_from g _ to len r = Stop Unsupported

-- MOV from a segment register
unfoldable pub selector_read : Selectors → Insn → ℕ → Regs → Outcome
selector_read g i len r = read_from g i.b i.a len r

abbrev pub pushed_from : Selectors → Operand → Regs → Outcome
pushed_from g (Segment seg) r = pushed_number (selector_of g seg) r
pushed_from g _ r = Stop Unsupported

-- PUSH of a segment register
unfoldable pub selector_pushed : Selectors → Insn → ℕ → Regs → Outcome
selector_pushed g i len r = pushed_from g i.a (eip_past len r)
