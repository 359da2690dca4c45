-- An instruction that begins some bytes is spelled by a front of them.
use Rattle.std.proofs.Common.{◌≡◌, ℕ, List, take, refl}
use Rattle.std.specs.Prelude.{◌↔◌}
use Rattle.ia32_types.specs.declared.insn.Insn.{Insn}
use Rattle.ia32_decode.specs.declared.answer.Decoded.{Decoded}
use Rattle.ia32_decode.specs.declared.answer.Decoded.TheVariants as begins
use Rattle.ia32_decode.specs.Answer.{Begins}
use Rattle.ia32_decode.specs.Spelled.{IsSpelled}

pub spelled_by : (bytes : List ℕ) (d : Decoded) → ((insn : Insn) (n : ℕ) → (d ≡ begins.Insn insn n) ↔ Begins bytes insn n) → IsSpelled d
spelled_by bytes (begins.Insn insn len) h = (take len bytes, ((h insn len).0 refl).front)
spelled_by bytes begins.Short h = tt
spelled_by bytes begins.Outside h = tt
