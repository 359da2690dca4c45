-- The chosen spelling of an instruction, and where there is none.
use Rattle.std.specs.Prelude.{ℕ, ◌==◌, ◌||◌, ◌&&◌, not, Bool, List, [], ◌∷◌, Option, Some, None, if◌then◌else◌}
use Rattle.ia32_types.specs.declared.insn.Insn.{Insn}
use Rattle.ia32_rows.specs.declared.row.Row.{Row}
use Rattle.ia32_rows.specs.Fields.{imm_len}
use Rattle.ia32_rows.specs.Spelling.{insn_of}
use Rattle.ia32_rows.specs.Rows.{rows}
use Rattle.ia32_encode.specs.declared.bytes.ArrayBytes.{ArrayBytes}
use Rattle.ia32_encode.specs.declared.choose.Wide.{Wide}
use Rattle.ia32_encode.specs.Parts.{parts_for, form_fits}
use Rattle.ia32_encode.specs.Text.{laid_out}
use Rattle.ia32_encode.specs.Same.{same_insn}

abbrev pub widths_fit : Wide → ℕ → ℕ → Bool
widths_fit wide disp imm = (not wide.disp || disp == 4) && (not wide.imm || imm == 4)

-- ---- the same as a function

abbrev pub does_suit : Row → Wide → Insn → Bool
does_suit row wide insn =
    same_insn (insn_of row (parts_for row wide.disp insn)) insn && form_fits row.form (parts_for row wide.disp insn)
    && widths_fit wide (parts_for row wide.disp insn).disp_len (imm_len row.form.immediate)

-- the spelling by the first row that suits
unfoldable pub chosen_from : List Row → Wide → Insn → Option ArrayBytes
chosen_from [] wide insn = None
chosen_from (row ∷ table) wide insn =
    if does_suit row wide insn then Some (laid_out row.form (parts_for row wide.disp insn)) else chosen_from table wide insn

unfoldable pub chosen : Wide → Insn → Option ArrayBytes
chosen wide insn = chosen_from rows wide insn
