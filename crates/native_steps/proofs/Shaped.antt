-- What is decoded has the shape of instructions.
use Rattle.std.proofs.Common.{◌≡◌, ℕ, List, [], ◌∷◌, Ok, Err, refl, subst}
use Rattle.ia32_types.specs.declared.insn.Insn.{Insn}
use Rattle.ia32_types.specs.Shape.{IsShaped}
use Rattle.ia32_rows.specs.declared.row.Miss.TheVariants.{Short, Outside}
use Rattle.ia32_rows.specs.declared.row.Row.{Row}
use Rattle.ia32_rows.specs.declared.row.Parts.{Parts}
use Rattle.ia32_rows.specs.Reader.{Reading}
use Rattle.ia32_rows.specs.Spelling.{parts_at, insn_of}
use Rattle.ia32_rows.specs.Rows.{rows}
use Rattle.ia32_rows.proofs.ShapeLaws.{parts_located, row_shaped}
use Rattle.ia32_decode.specs.declared.answer.Decoded.{Decoded}
use Rattle.ia32_decode.specs.declared.answer.Decoded.TheVariants as answer
use Rattle.ia32_decode.specs.Decoding.{by_row, answer_from, decoded}

by_reading : (row : Row) (bytes : List ℕ) (others : Decoded) (insn : Insn) (len : ℕ) (reading : Reading Parts)
    → parts_at row.form bytes ≡ reading → (others ≡ answer.Insn insn len → IsShaped insn)
    → by_row row bytes others reading ≡ answer.Insn insn len → IsShaped insn
by_reading row bytes others insn len (Ok read) is later e =
    let same : insn_of row read.0 ≡ insn = cc in
    subst IsShaped same (row_shaped row read.0 (parts_located row.form bytes read.0 read.1 is))
by_reading row bytes others insn len (Err Short) is later e = absurd cc
by_reading row bytes others insn len (Err Outside) is later e = later e

from_table : (table : List Row) (bytes : List ℕ) (insn : Insn) (len : ℕ) → answer_from table bytes ≡ answer.Insn insn len → IsShaped insn
unfolding answer_from
from_table [] bytes insn len e = absurd cc
from_table (row ∷ table) bytes insn len e =
    by_reading row bytes (answer_from table bytes) insn len (parts_at row.form bytes) refl (from_table table bytes insn len) e

pub decoded_shaped : (bytes : List ℕ) (insn : Insn) (len : ℕ) → decoded bytes ≡ answer.Insn insn len → IsShaped insn
unfolding decoded
decoded_shaped bytes insn len e = from_table rows bytes insn len e
