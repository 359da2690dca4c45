-- Which labels the instructions of a listing name.
use Rattle.std.specs.Prelude.{ℕ, ◌+◌, ◌==◌, ◌||◌, Bool, false, length, Option, Some, None, if◌then◌else◌}
use Rattle.std.specs.List.{list_any}
use Rattle.ia32_types.specs.Branches.{is_direct_branch}
use Rattle.ia32_encode.specs.declared.choose.Wide.{Wide}
use Rattle.image_check.specs.Image.{Image}
use Rattle.image_check.specs.Sweep.{Swept}
use Rattle.image_check.specs.Pieces.{target_of}
use Rattle.image_check.specs.Standing.{swept_of}
use Rattle.pv_look.specs.Spelling.{named_fields}
use Rattle.pv_look.specs.Here.{bytes_of}

-- a number is written by the label of the text's first byte
abbrev pub first_named : Option Wide → Option ℕ
first_named None = None
first_named (Some w) = if w.disp || w.imm then Some 0 else None

-- the offset whose label an instruction names: where a direct branch leads, or the text's first byte; the last instruction isn't written
abbrev pub named_by : Image → Swept → Option ℕ
named_by image s =
    if s.at + s.len == length image.text then None
    else if is_direct_branch s.insn.op then Some (target_of s.at s.len s.insn)
    else first_named (named_fields s.insn (bytes_of image.text s))

abbrev pub is_at : ℕ → Option ℕ → Bool
is_at at None = false
is_at at (Some to) = to == at

abbrev pub names : Image → ℕ → Swept → Bool
names image at s = is_at at (named_by image s)

-- whether an instruction names the label of this offset
unfoldable pub is_named : Image → ℕ → Bool
is_named image at = list_any (names image at) (swept_of image.text)
