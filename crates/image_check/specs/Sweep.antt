-- The sweep of a text: the instructions that stand in it, one directly after the other.
use Rattle.std.specs.Prelude.{ℕ, zero, suc, ◌+◌, List, [], ◌∷◌, length, drop, map, Result, Ok, Err}
use Rattle.std.specs.Result.{result_unwrap_or}
use Rattle.ia32_types.specs.declared.insn.Insn.{Insn}
use Rattle.ia32_decode.specs.Decoding.{decoded}
use Rattle.ia32_decode.specs.declared.answer.Decoded.{Decoded}
use Rattle.ia32_decode.specs.declared.answer.Decoded.TheVariants as answer
use Rattle.elf_form.specs.Faults.{◌>>=◌}

-- an instruction, the offset at which it stands, and the length of its spelling
pub record Swept : Type 0 where
  pub at : ℕ
  pub len : ℕ
  pub insn : Insn

-- The instructions of the text, or the offset at which the sweep stops. Each has a byte, so
-- there are no more of them than bytes.
abbrev pub swept_at : ℕ → Decoded → Result Swept ℕ
swept_at at (answer.Insn insn len) = Ok (record { at = at; len = len; insn = insn })
swept_at at _ = Err at

unfoldable pub sweep_from : ℕ → ℕ → List ℕ → Result (List Swept) ℕ
sweep_from zero at bytes = Ok []
sweep_from (suc n) at [] = Ok []
sweep_from (suc n) at (b ∷ bytes) = do
  s ← swept_at at (decoded (b ∷ bytes))
  swept ← sweep_from n (at + s.len) (drop s.len (b ∷ bytes))
  Ok (s ∷ swept)

unfoldable pub sweep : List ℕ → Result (List Swept) ℕ
sweep text = sweep_from (length text) 0 text

abbrev pub swept_or_none : Result (List Swept) ℕ → List Swept
swept_or_none swept = result_unwrap_or swept []

-- the offsets at which the instructions of a text stand
unfoldable pub starts_of : List ℕ → List ℕ
starts_of text = map (λ (s : Swept). s.at) (swept_or_none (sweep text))
