-- What a decoder's answer says of the bytes that it was given.
use Rattle.std.specs.Prelude.{ℕ, List}
use Rattle.ia32_decode.specs.declared.answer.Decoded.{Decoded}
use Rattle.ia32_decode.specs.declared.answer.Decoded.TheVariants as begins
use Rattle.ia32_rows.specs.Spells.{Spells}

-- some bytes spell the instruction
abbrev pub IsSpelled : Decoded → Type 0
IsSpelled (begins.Insn insn len) = (bytes : List ℕ) × Spells bytes insn
IsSpelled begins.Short = Unit {0}
IsSpelled begins.Outside = Unit {0}
