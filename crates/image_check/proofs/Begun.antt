-- An instruction has a byte.
use Rattle.std.proofs.Common.{◌≡◌, ℕ, zero, suc, ◌+◌, ◌≤◌, List, [], ◌∷◌, ◌++◌, length, ap, arith}
use Rattle.std.proofs.lemmas.List.{length-append}
use Rattle.ia32_types.specs.declared.insn.Insn.{Insn}
use Rattle.ia32_rows.specs.Spells.{Spells}
use Rattle.ia32_rows.proofs.Pieces.{in_pieces}
use Rattle.ia32_decode.specs.Answer.{Begins}

spelled_has_byte : (insn : Insn) → Spells [] insn → ⊥
spelled_has_byte insn s =
    let laid = (in_pieces s.row s.listed s.parts []).0 s.by_row.read in
    let e : length {A = ℕ} [] ≡ length (laid.lead ++ (s.parts.code ∷ (laid.address ++ laid.immediate))) = ap length laid.together in
    absurd (omega (arith, e, length-append laid.lead (s.parts.code ∷ (laid.address ++ laid.immediate))))

pub begun_has_byte : (bytes : List ℕ) (insn : Insn) (n : ℕ) → Begins bytes insn n → 1 ≤ n
begun_has_byte bytes insn zero h = absurd (spelled_has_byte insn h.front)
begun_has_byte bytes insn (suc n) h = omega arith

-- within the text
pub begun_within : (len at : ℕ) (left : List ℕ) (insn : Insn) (n : ℕ) → length left + at ≤ len → Begins left insn n
    → (1 ≤ n) × (at + n ≤ len)
begun_within len at left insn n room h = (begun_has_byte left insn n h, let few = h.within in omega (arith, few))
