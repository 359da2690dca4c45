-- The instruction that stands at an address.
use Rattle.std.specs.Prelude.{ℕ, List, ◌++◌, Option, Some, None}
use Rattle.ia32_decode.specs.declared.answer.Decoded.{Decoded}
use Rattle.ia32_decode.specs.declared.answer.Decoded.TheVariants as begins
use Rattle.ia32_decode.specs.Decoding.{decoded}
use Rattle.ia32_decode.specs.Front.{longest, front_len}
use Rattle.linear_view.specs.View.{View, page_bytes, next_bytes}

abbrev pub joined : List ℕ → Option (List ℕ) → Option Decoded
joined front None = None
joined front (Some more) = Some (decoded (front ++ more))

-- the next page is needed exactly where the bytes of the first are a proper prefix of a spelling
abbrev pub by_front : View → ℕ → List ℕ → Decoded → Option Decoded
by_front v at front begins.Short = joined front (next_bytes v at longest)
by_front v at front (begins.Insn insn len) = Some (begins.Insn insn len)
by_front v at front begins.Outside = Some begins.Outside

abbrev pub by_page : View → ℕ → Option (List ℕ) → Option Decoded
by_page v at None = None
by_page v at (Some front) = by_front v at front (decoded front)

-- what the bytes there begin with; nothing where a page has no translation
unfoldable pub instruction_at : View → ℕ → Option Decoded
instruction_at v at = by_page v at (page_bytes v at (front_len at))
