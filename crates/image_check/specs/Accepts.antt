-- Which images are accepted, in words that name no order of tests.
use Rattle.ia32_types.specs.declared.addresses.TheConstants.{DATA_ADDRESS, TEXT_ADDRESS}
use Rattle.ia32_types.specs.Branches.{is_direct_branch}
use Rattle.std.specs.Prelude.{◌≡◌, ℕ, ◌+◌, ◌-◌, ◌≤◌, ◌<◌, true, false, Bool, List, length, map, slice_index_or, Option, Some, None, Ok}
use Rattle.std.specs.List.{Contains}
use Rattle.guest_ram.specs.Among.{is_among}
use Rattle.ia32_rows.specs.Spells.{AreBytes}
use Rattle.elf_form.specs.ImageParts.{ImageParts}
use Rattle.elf_form.specs.Accepted.{ImageAs}
use Rattle.sites.specs.declared.site.Site.{Site}
use Rattle.sites.specs.declared.limits.TheConstants.{TEXT_LIMIT, INIT_LIMIT}
use Rattle.sites.specs.Formats.{sites_in}
use Rattle.image_check.specs.declared.piece.Piece.{Piece}
use Rattle.image_check.specs.Image.{Image}
use Rattle.image_check.specs.Sweep.{Swept, starts_of}
use Rattle.image_check.specs.SweptTexts.{Sweep}
use Rattle.image_check.specs.Pieces.{target_of, piece_of}
use Rattle.image_check.specs.TextSites.{found_in}
use Rattle.image_check.specs.Conditions.{last_at, ends_at}
use Rattle.image_check.specs.Checking.{image_with, image_from}

-- the limits that an accepted image keeps
pub record IsWithin (image : Image) : Type 0 where
  pub text : (1 ≤ length image.text) × (length image.text ≤ TEXT_LIMIT)
  pub room : length image.init + image.bss ≤ INIT_LIMIT
  pub entry : (TEXT_ADDRESS ≤ image.entry) × (image.entry < TEXT_ADDRESS + length image.text)

-- the sites of a text, where each sensitive instruction has its NOPs
abbrev pub unless_lacking : List Site → Option ℕ → Option (List Site)
unless_lacking sites None = Some sites
unless_lacking sites (Some at) = None

abbrev pub sites_of : List Piece → Option (List Site)
sites_of ps = unless_lacking (found_in ps).sites (found_in ps).lacking

-- A start of the sweep, and not in a site past its first byte.
pub record IsEntrance (swept : List Swept) (sites : List Site) (at : ℕ) : Type 0 where
  pub start : Contains (map (λ (s : Swept). s.at) swept) at
  pub outside : (s : Site) → Contains sites s → s.at < at → s.at + s.total ≤ at

-- The sweep goes through the whole text and ends with a jump to itself, each sensitive instruction has its NOPs, and
-- control comes in at starts alone that are not in a site past its first byte.
pub record IsAccepted (image : Image) : Type 0 where
  pub within : IsWithin image
  pub swept : List Swept
  pub sweep : Sweep image.text swept
  pub ends : ends_at image.text (last_at (map piece_of swept)) ≡ true
  pub sites : sites_of (map piece_of swept) ≡ Some image.sites
  pub targets : (s : Swept) → Contains swept s → is_direct_branch s.insn.op ≡ true
      → IsEntrance swept image.sites (target_of s.at s.len s.insn)
  pub entry : IsEntrance swept image.sites (image.entry - TEXT_ADDRESS)

-- The file has the form of an image, its parts are at their places, its annotations are those of the sites of its
-- text in one of the two formats, and the image is accepted.
pub record Accepts (file : List ℕ) (image : Image) : Type 0 where
  pub parts : ImageParts
  pub form : ImageAs file parts
  pub text_at : parts.text_at ≡ TEXT_ADDRESS
  pub init_at : parts.init_at ≡ DATA_ADDRESS
  pub annotated : sites_in parts.sites ≡ Ok (record { list = image.sites; format = image.format })
  pub image_is : image ≡ image_with parts image.sites
  pub accepted : IsAccepted image

-- Flags say for each offset whether an instruction of the text stands there.
abbrev pub AreStarts : List ℕ → List Bool → Type 0
AreStarts text flags = (i : ℕ) → slice_index_or flags i false ≡ is_among i (starts_of text)

-- An image that passed the tests, and flags for the starts of its text.
pub record IsChecked (image : Image) (flags : List Bool) : Type 0 where
  pub parts : ImageParts
  pub bytes : AreBytes parts.text
  pub accepted : image_from parts ≡ Ok image
  pub starts : AreStarts image.text flags
