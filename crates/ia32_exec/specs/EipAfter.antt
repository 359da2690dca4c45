-- Where EIP is after an instruction.
use Rattle.std.specs.Prelude.{◌≡◌, ◌⊎◌, ℕ, ◌+◌, ◌%◌, ◌^◌, true}
use Rattle.ia32_types.specs.declared.flags.Regs.{Regs}
use Rattle.ia32_types.specs.declared.insn.Insn.{Insn}
use Rattle.ia32_types.specs.declared.insn.Op.{Op}
use Rattle.ia32_types.specs.declared.insn.Op.TheVariants as op
use Rattle.ia32_exec.specs.declared.outcome.Outcome.{Outcome}
use Rattle.ia32_exec.specs.declared.outcome.Outcome.TheVariants.{Done, Raise, Stop}
use Rattle.ia32_exec.specs.Readable.{IsString}
use Rattle.ia32_exec.specs.Effect.{effect}

-- a direct branch
abbrev pub IsBranch : Op → Type 0
IsBranch op.Jmp = Unit {0}
IsBranch op.Call = Unit {0}
IsBranch op.Jcc = Unit {0}
IsBranch _ = ⊥

-- a repeated string instruction
abbrev pub IsRepeated : Op → Insn → Type 0
IsRepeated o i = IsString o × (i.rep ≡ true)

-- past the instruction, at a direct branch further by its distance, or at a repeated string instruction where it was
abbrev pub IsEipAfter : Op → Insn → ℕ → Regs → ℕ → Type 0
IsEipAfter o i len r eip =
    (eip ≡ (r.eip + len) % 2 ^ 32) ⊎ ((IsBranch o × (eip ≡ ((r.eip + len) % 2 ^ 32 + i.imm) % 2 ^ 32)) ⊎ (IsRepeated o i × (eip ≡ r.eip)))

abbrev pub Leads : Op → Insn → ℕ → Regs → Outcome → Type 0
Leads o i len r (Done after stores) = IsEipAfter o i len r after.eip
Leads o i len r (Raise vector code) = Unit {0}
Leads o i len r (Stop stop) = Unit {0}

abbrev pub EipGoesOn : Type 0
EipGoesOn = (i : Insn) (len : ℕ) (r : Regs) (b : ℕ → ℕ) → Leads i.op i len r (effect i len r b)
