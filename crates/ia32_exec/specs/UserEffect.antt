-- The outcome of an instruction at CPL 3 and IOPL 0, where nothing but registers, selectors and memory decide: the
-- insensitive rows, PUSHF and POPF, and those of the sites that a user's code does by itself.
use Rattle.std.specs.Prelude.{ℕ}
use Rattle.ia32_types.specs.declared.flags.Regs.{Regs}
use Rattle.ia32_types.specs.declared.insn.Insn.{Insn}
use Rattle.ia32_types.specs.declared.insn.Op.{Op}
use Rattle.ia32_types.specs.declared.insn.Op.TheVariants.{ReadSeg, PushSeg, Return, JumpTo, CallTo}
use Rattle.ia32_types.specs.Shape.{IsDone}
use Rattle.ia32_exec.specs.declared.outcome.Outcome.{Outcome}
use Rattle.ia32_exec.specs.declared.selectors.Selectors.{Selectors}
use Rattle.ia32_exec.specs.Effect.{effect}
use Rattle.ia32_exec.specs.UserTransfers.{returned, jumped_through, called_through}
use Rattle.ia32_exec.specs.Selectors.{selector_read, selector_pushed}

abbrev pub user_row : Op → Selectors → Insn → ℕ → Regs → (ℕ → ℕ) → Outcome
user_row Return g i len r b = returned i r b
user_row JumpTo g i len r b = jumped_through i r b
user_row CallTo g i len r b = called_through i len r b
user_row ReadSeg g i len r b = selector_read g i len r
user_row PushSeg g i len r b = selector_pushed g i len r
user_row _ g i len r b = effect i len r b

unfoldable pub user_effect : Selectors → Insn → ℕ → Regs → (ℕ → ℕ) → Outcome
user_effect g i len r b = user_row i.op g i len r b

-- the instructions that this is meant for
abbrev pub IsUserDone : Op → Type 0
IsUserDone Return = Unit {0}
IsUserDone JumpTo = Unit {0}
IsUserDone CallTo = Unit {0}
IsUserDone ReadSeg = Unit {0}
IsUserDone PushSeg = Unit {0}
IsUserDone o = IsDone o
