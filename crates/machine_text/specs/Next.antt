-- The next instruction as text.
use Rattle.std.specs.Prelude.{ℕ, List, ◌++◌, codes, min, Option, Some, None}
use Rattle.run_trace.specs.Text.{hex8}
use Rattle.ia32_types.specs.declared.insn.Insn.{Insn}
use Rattle.ia32_decode.specs.declared.answer.Decoded.{Decoded}
use Rattle.ia32_decode.specs.declared.answer.Decoded.TheVariants as begins
use Rattle.ia32_encode.specs.Short.{plain}
use Rattle.ia32_text.specs.declared.style.Style.{Style}
use Rattle.ia32_text.specs.declared.style.Target.TheVariants as to
use Rattle.ia32_text.specs.Text.{instruction_text}
use Rattle.linear_view.specs.View.{View}
use Rattle.linear_view.specs.Instruction.{instruction_at}
use Rattle.machine_text.specs.Below.{below}
use Rattle.machine_text.specs.Mapped.{byte_now}
use Rattle.machine_text.specs.Dump.{digits, address}

-- numbers as they are, and the target of a direct branch by its address
abbrev pub by_address : Style
by_address = record { target = to.Address; named = plain }

-- so many bytes at an address; no instruction has more than 11
abbrev pub bytes_at : View → ℕ → ℕ → List ℕ
bytes_at v at len = below (λ i. digits (byte_now v (address at i))) (min len 11)

abbrev pub instruction_line : View → ℕ → Insn → ℕ → List ℕ
instruction_line v at insn len = bytes_at v at len ++ codes " " ++ instruction_text by_address insn at len

abbrev pub read_text : View → ℕ → Option Decoded → List ℕ
read_text v at None = codes " not mapped"
read_text v at (Some (begins.Insn insn len)) = instruction_line v at insn len
read_text v at (Some begins.Outside) = codes " no instruction"
read_text v at (Some begins.Short) = codes " no instruction"

-- the instruction at an address, with its bytes; or that a page of them isn't mapped, or that there is none
unfoldable pub next_text : View → ℕ → List ℕ
next_text v at = codes "next    " ++ hex8 at ++ read_text v at (instruction_at v at) ++ codes "\n"
