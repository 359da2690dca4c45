-- What the conditions on an image ask of its instructions.
use Rattle.std.specs.Prelude.{ℕ, ◌+◌, ◌%◌, ◌^◌, Bool, true, false, List, [], drop, map, Option, Result, is_ok, ◌==◌, if◌then◌else◌}
use Rattle.std.specs.List.{list_any}
use Rattle.std.specs.Option.{option_map_or}
use Rattle.std.specs.Result.{result_map_both, result_unwrap_or}
use Rattle.ia32_types.specs.Branches.{is_direct_branch}
use Rattle.ia32_types.specs.declared.insn.Insn.{Insn}
use Rattle.ia32_types.specs.declared.insn.Op.{Op}
use Rattle.ia32_types.specs.declared.insn.Op.TheVariants as op
use Rattle.ia32_types.specs.declared.site.SiteKind.{SiteKind}
use Rattle.ia32_types.specs.Site.{sensitive_kind}
use Rattle.ia32_rows.specs.declared.row.RefusedRow.{RefusedRow}
use Rattle.ia32_rows.specs.Spelling.{parts_at}
use Rattle.ia32_rows.specs.Rows.{refused_rows}
use Rattle.image_check.specs.declared.fault.CheckCause.{CheckCause}
use Rattle.image_check.specs.declared.fault.CheckCause.TheVariants.{RefusedCode, BadCode}
use Rattle.image_check.specs.declared.piece.Role.{Role}
use Rattle.image_check.specs.declared.piece.Role.TheVariants as role
use Rattle.image_check.specs.declared.piece.Piece.{Piece}
use Rattle.image_check.specs.Refusals.{Refusal, Wrong}
use Rattle.image_check.specs.Sweep.{Swept, sweep}

abbrev pub is_nop : Op → Bool
is_nop op.Nop = true
is_nop _ = false

-- the offset to which a direct branch leads, by the distance from the next instruction
abbrev pub target_of : ℕ → ℕ → Insn → ℕ
target_of at len insn = (at + len + insn.imm) % 2 ^ 32

abbrev pub site_role : Option SiteKind → Role
site_role kind = option_map_or role.Site kind role.Plain

abbrev pub role_of : ℕ → ℕ → Insn → Role
role_of at len insn = if is_direct_branch insn.op then role.Branch (target_of at len insn) else if is_nop insn.op then role.Nop
    else site_role (sensitive_kind insn)

abbrev pub piece_of : Swept → Piece
piece_of s = record { at = s.at; len = s.len; role = role_of s.at s.len s.insn }

-- whether an instruction that is refused by its name begins the bytes
unfoldable pub is_refused : List ℕ → Bool
is_refused bytes = list_any (λ (row : RefusedRow). is_ok (parts_at row.form bytes)) refused_rows

-- why the sweep stops at these bytes
abbrev pub stop_cause : List ℕ → CheckCause
stop_cause rest = if is_refused rest then RefusedCode else BadCode

abbrev pub pieces_of : List ℕ → Result (List Swept) ℕ → Result (List Piece) Refusal
pieces_of text swept = result_map_both (map piece_of) (λ at. Wrong at (stop_cause (drop at text))) swept

-- the instructions of a text, or why there are none
unfoldable pub pieces_in : List ℕ → Result (List Piece) Refusal
pieces_in text = pieces_of text (sweep text)

-- the instructions of a text, none where the sweep stops
unfoldable pub all_pieces : List ℕ → List Piece
all_pieces text = result_unwrap_or (pieces_in text) []

-- whether an instruction stands at an offset
abbrev pub is_piece_start : List Piece → ℕ → Bool
is_piece_start pieces at = list_any (λ (p : Piece). at == p.at) pieces
