-- What a listing says of one instruction.
use Rattle.std.specs.Prelude.{ℕ, ◌-◌, ◌==◌, ◌||◌, Bool, List, [], ◌++◌, codes, length, replicate, Option, Some, None, if◌then◌else◌}
use Rattle.std.specs.List.{flat_map}
use Rattle.run_trace.specs.Text.{hex2, hex8}
use Rattle.ia32_encode.specs.declared.choose.Wide.{Wide}
use Rattle.ia32_encode.specs.Short.{plain}
use Rattle.ia32_text.specs.declared.style.Style.{Style}
use Rattle.ia32_text.specs.declared.style.Target.TheVariants as to
use Rattle.ia32_text.specs.Arguments.{label_of}
use Rattle.ia32_text.specs.Text.{instruction_text}
use Rattle.sites.specs.declared.site.Site.{Site}
use Rattle.sites.specs.Patched.{patch_bytes}
use Rattle.image_check.specs.Image.{Image}
use Rattle.image_check.specs.Places.{linear}
use Rattle.image_check.specs.Sweep.{Swept}
use Rattle.pv_look.specs.declared.part.Part.{Part}
use Rattle.pv_look.specs.declared.part.Part.TheVariants as part
use Rattle.pv_look.specs.SiteNames.{site_name}
use Rattle.pv_look.specs.Spelling.{named_fields}
use Rattle.pv_look.specs.Here.{bytes_of}
use Rattle.pv_look.specs.Parts.{part_of, is_kept_apart}
use Rattle.pv_look.specs.Labels.{is_named}

-- ---- labels, each on a line of its own

abbrev pub entry_label : Image → ℕ → List ℕ
entry_label image at = if linear at == image.entry then codes "_start:\n" else []

abbrev pub place_label : Bool → ℕ → List ℕ
place_label labelled at = if labelled then label_of (linear at) ++ codes ":\n" else []

abbrev pub labels_text : Image → Bool → Swept → List ℕ
labels_text image labelled s = entry_label image s.at ++ place_label (labelled || is_kept_apart image s) s.at

-- ---- the instruction

abbrev pub fields_or_none : Option Wide → Wide
fields_or_none None = plain
fields_or_none (Some w) = w

abbrev pub style_of : Option Wide → Style
style_of fields = record { target = to.Label; named = fields_or_none fields }

abbrev pub written : Option Wide → Swept → List ℕ
written fields s = codes "    " ++ instruction_text (style_of fields) s.insn (linear s.at) s.len

-- nothing stands before the comment of what `burn` and `link` add
abbrev pub statement_text : Part → Option Wide → Swept → List ℕ
statement_text part.End fields s = []
statement_text part.Padding fields s = []
statement_text (part.Site site) fields s = written fields s
statement_text part.Alone fields s = written fields s

-- blanks up to the column of the comments
abbrev pub in_column : List ℕ → List ℕ
in_column text = text ++ replicate (40 - length text) 32

-- ---- the comment

unfoldable pub bytes_text : List ℕ → List ℕ
bytes_text bytes = flat_map (λ b. codes " " ++ hex2 b) bytes

-- the address and the bytes
abbrev pub place_text : ℕ → List ℕ → List ℕ
place_text at bytes = codes " # " ++ hex8 (linear at) ++ bytes_text bytes

-- no source is assembled to these bytes
abbrev pub spelling_text : Option Wide → List ℕ
spelling_text None = codes " other spelling"
spelling_text (Some w) = []

abbrev pub site_text : Site → List ℕ
site_text s = codes " site " ++ site_name s.kind ++ codes " patched" ++ bytes_text (patch_bytes s.total)

abbrev pub note_text : Part → Option Wide → List ℕ
note_text part.End fields = codes " end"
note_text part.Padding fields = codes " padding"
note_text (part.Site site) fields = spelling_text fields ++ site_text site
note_text part.Alone fields = spelling_text fields

-- ---- all of it

abbrev pub line_with : Image → Swept → Option Wide → List ℕ
line_with image s fields =
    in_column (statement_text (part_of image s) fields s) ++ place_text s.at (bytes_of image.text s)
    ++ note_text (part_of image s) fields ++ codes "\n"

unfoldable pub lines_with : Image → Bool → Swept → List ℕ
lines_with image labelled s = labels_text image labelled s ++ line_with image s (named_fields s.insn (bytes_of image.text s))

abbrev pub lines_of : Image → Swept → List ℕ
lines_of image s = lines_with image (is_named image s.at) s
