-- Where control may come in.
use Rattle.std.specs.Prelude.{◌≡◌, ℕ, ◌+◌, true, Some, length}
use Rattle.ia32_types.specs.declared.insn.Op.TheVariants as op
use Rattle.sites.specs.declared.site.Site.{Site}
use Rattle.image_check.specs.Image.{Image}
use Rattle.image_check.specs.Sweep.{Swept}
use Rattle.image_check.specs.Pieces.{target_of}
use Rattle.image_check.specs.Places.{is_start}
use Rattle.image_check.specs.Standing.{site_at}

-- An instruction of the text begins there; and if it is in a site, it is the site's first.
pub record IsWayIn (image : Image) (at : ℕ) : Type 0 where
  pub start : is_start image.text at ≡ true
  pub first : (site : Site) → site_at image.sites at ≡ Some site → site.at ≡ at

-- The text ends with a jump to itself.
pub record IsLast (image : Image) (s : Swept) : Type 0 where
  pub end : s.at + s.len ≡ length image.text
  pub jump : s.insn.op ≡ op.Jmp
  pub itself : target_of s.at s.len s.insn ≡ s.at
