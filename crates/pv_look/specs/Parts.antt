-- What an instruction is to a listing.
use Rattle.std.specs.Prelude.{ℕ, ◌+◌, ◌-◌, ◌==◌, ◌&&◌, Bool, true, false, length, nat_le, if◌then◌else◌}
use Rattle.ia32_types.specs.declared.insn.Op.{Op}
use Rattle.ia32_types.specs.declared.insn.Op.TheVariants as op
use Rattle.ia32_types.specs.declared.site.SiteKind.{SiteKind}
use Rattle.ia32_types.specs.declared.site.SiteKind.TheVariants as kind
use Rattle.sites.specs.declared.site.Site.{Site}
use Rattle.image_check.specs.declared.place.AtOffset.{AtOffset}
use Rattle.image_check.specs.declared.place.AtOffset.TheVariants.{NotAStart, Outside, Inside}
use Rattle.image_check.specs.Image.{Image}
use Rattle.image_check.specs.Sweep.{Swept}
use Rattle.image_check.specs.Standing.{place_of}
use Rattle.pv_look.specs.declared.part.Part.{Part}
use Rattle.pv_look.specs.declared.part.Part.TheVariants as part

-- in a site: its first instruction, a NOP of its padding, or the HLT of a pair
abbrev pub part_inside : ℕ → Site → Part
part_inside at s = if at == s.at then part.Site s else if nat_le (s.at + s.len) at then part.Padding else part.Alone

abbrev pub part_at : ℕ → AtOffset → Part
part_at at (Inside s) = part_inside at s
part_at at Outside = part.Alone
part_at at NotAStart = part.Alone

-- the last instruction is the jump to itself that `link` adds
abbrev pub part_of : Image → Swept → Part
part_of image s = if s.at + s.len == length image.text then part.End else part_at s.at (place_of image s.at)

-- HLT directly after the site of an STI alone. A source that wrote it with no label between would make one site of both.
abbrev pub is_hlt : Op → Bool
is_hlt op.Hlt = true
is_hlt _ = false

abbrev pub is_sti_kind : SiteKind → Bool
is_sti_kind kind.Sti = true
is_sti_kind _ = false

abbrev pub is_sti_at : AtOffset → Bool
is_sti_at (Inside s) = is_sti_kind s.kind
is_sti_at Outside = false
is_sti_at NotAStart = false

abbrev pub is_kept_apart : Image → Swept → Bool
is_kept_apart image s = is_hlt s.insn.op && is_sti_at (place_of image (s.at - 1))
