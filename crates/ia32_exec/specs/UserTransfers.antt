-- RET, and jumps and calls through an operand, as a user's code does them: each reads its target by itself. Intel SDM
-- volume 2, RET, JMP and CALL.
use Rattle.std.specs.Prelude.{ℕ, if◌then◌else◌}
use Rattle.ia32_types.specs.declared.size.Size.TheVariants.{Long}
use Rattle.ia32_types.specs.declared.flags.Regs.{Regs}
use Rattle.ia32_types.specs.declared.stop.Stop.TheVariants.{Unsupported}
use Rattle.ia32_types.specs.declared.insn.Insn.{Insn}
use Rattle.ia32_types.specs.Places.{is_place}
use Rattle.ia32_exec.specs.declared.outcome.Outcome.{Outcome}
use Rattle.ia32_exec.specs.declared.outcome.Outcome.TheVariants.{Done, Stop}
use Rattle.ia32_exec.specs.declared.outcome.Stores.TheVariants.{Nothing, One}
use Rattle.ia32_exec.specs.Memory.{store}
use Rattle.ia32_exec.specs.Operands.{value_of}
use Rattle.ia32_exec.specs.Stack.{esp_below, top_of_stack}
use Rattle.ia32_exec.specs.Transfers.{gone_to, ret, call, return_address}

-- RET
unfoldable pub returned : Insn → Regs → (ℕ → ℕ) → Outcome
returned i r b = Done (ret (top_of_stack r b) i.imm r) Nothing

-- JMP through an operand
unfoldable pub jumped_through : Insn → Regs → (ℕ → ℕ) → Outcome
jumped_through i r b = if is_place i.a then (Done (gone_to (value_of i.a Long r b) r) Nothing) else (Stop Unsupported)

-- CALL through an operand
unfoldable pub called_through : Insn → ℕ → Regs → (ℕ → ℕ) → Outcome
called_through i len r b =
    if is_place i.a then (Done (call (value_of i.a Long r b) r) (One (store (esp_below 4 r) Long (return_address len r))))
    else (Stop Unsupported)
