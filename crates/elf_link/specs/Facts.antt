-- What is known of a plan and of a linked image.
use Rattle.std.specs.Prelude.{◌≡◌, ◌+◌, ◌≤◌, ◌<◌, List, length, All}
use Rattle.ia32_types.specs.declared.addresses.TheConstants.{DATA_ADDRESS, TEXT_ADDRESS}
use Rattle.elf_form.specs.ObjectParts.{ObjectParts}
use Rattle.elf_form.specs.ImageParts.{ImageParts}
use Rattle.sites.specs.declared.site.Site.{Site}
use Rattle.sites.specs.declared.limits.TheConstants.{TEXT_LIMIT, SHORT_TEXT, INIT_LIMIT, SITE_LIMIT}
use Rattle.sites.specs.Spelling.{spelling}
use Rattle.sites.specs.Form.{IsInForm, AreGapped}
use Rattle.sites.specs.Limits.{in_text}
use Rattle.elf_link.specs.declared.relocations.Plan.{Plan}
use Rattle.elf_link.specs.Layout.{bases, text_end}
use Rattle.elf_link.specs.Sites.{linked_sites}
use Rattle.elf_link.specs.Steps.{IsWithin, AreBelow, totals}
use Rattle.elf_link.specs.Symbols.{globals}

-- What is known when each object passed its tests: the sums, and the sites of all, which lie below the end of the text.
pub record IsGathered (os : List ObjectParts) (sites : List Site) : Type 0 where
  pub within : IsWithin (totals os)
  pub fits : text_end os + 2 ≤ TEXT_LIMIT
  pub moved : sites ≡ linked_sites os
  pub below : AreBelow (text_end os) sites
  pub count : length sites ≤ SITE_LIMIT
  pub gaps : SHORT_TEXT < text_end os + 2 → AreGapped 0 sites

pub record IsPlan (os : List ObjectParts) (plan : Plan) : Type 0 where
  pub bases : plan.bases.items ≡ bases os
  pub globals : plan.globals ≡ globals os

-- The parts are at their places and within their limits, and the annotations are those of sites in the text, in the
-- format for so long a text.
pub record IsLaidOut (image : ImageParts) : Type 0 where
  pub text_at : image.text_at ≡ TEXT_ADDRESS
  pub init_at : image.init_at ≡ DATA_ADDRESS
  pub text : (2 ≤ length image.text) × (length image.text ≤ TEXT_LIMIT)
  pub room : length image.init + image.bss ≤ INIT_LIMIT
  pub sites : List Site
  pub annotated : image.sites ≡ spelling (in_text (length image.text) sites)
  pub form : IsInForm (in_text (length image.text) sites)
  pub inside : All (λ s. s.at + s.total ≤ length image.text) sites
