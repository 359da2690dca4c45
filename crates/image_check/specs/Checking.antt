-- What is said of a file: the image that it is, or the first condition that it breaks.
use Rattle.std.specs.Prelude.{ℕ, List, Result, Ok}
use Rattle.std.specs.Result.{result_map_both}
use Rattle.elf_form.specs.Faults.{Fault, ◌>>=◌}
use Rattle.elf_form.specs.ImageParts.{ImageParts}
use Rattle.elf_form.specs.Reading.{image_in}
use Rattle.sites.specs.declared.site.Site.{Site}
use Rattle.sites.specs.Formats.{told_format, listed}
use Rattle.image_check.specs.declared.fault.CheckCause.TheVariants.{TextPlace, InitPlace, TextSize, InitSize, EntryPlace, TextEnd, SiteWrong, SitesForm, Target, EntryStart}
use Rattle.image_check.specs.declared.piece.Piece.{Piece}
use Rattle.image_check.specs.Image.{Image}
use Rattle.image_check.specs.Refusals.{Refusal, Form, Wrong, test}
use Rattle.image_check.specs.Pieces.{pieces_in}
use Rattle.image_check.specs.Targets.{is_entrance, wrong_target}
use Rattle.image_check.specs.Conditions.{text_place, init_place, text_size, init_size, entry_place, text_end, site_wrong, entry_start}

abbrev pub as_form : Result ImageParts Fault → Result ImageParts Refusal
as_form read = result_map_both (λ parts. parts) Form read

abbrev pub as_sites : Result (List Site) ℕ → Result (List Site) Refusal
as_sites read = result_map_both (λ sites. sites) (λ at. Wrong at SitesForm) read

-- places and sizes
unfoldable pub placed : ImageParts → Result (Unit {0}) Refusal
placed parts = do
  _ ← test TextPlace (text_place parts)
  _ ← test InitPlace (init_place parts)
  _ ← test TextSize (text_size parts)
  _ ← test InitSize (init_size parts)
  test EntryPlace (entry_place parts)

-- the sites, by the instructions of the text and the annotations
unfoldable pub annotated : ImageParts → List Piece → Result (List Site) Refusal
annotated parts ps = do
  _ ← test TextEnd (text_end parts.text ps)
  sites ← as_sites (listed parts.sites)
  _ ← test SiteWrong (site_wrong sites ps)
  Ok sites

-- where control may come in
unfoldable pub entered : ImageParts → List Piece → List Site → Result (Unit {0}) Refusal
entered parts ps sites = do
  _ ← test Target (wrong_target (is_entrance ps sites) ps)
  test EntryStart (entry_start parts ps sites)

abbrev pub image_with : ImageParts → List Site → Image
image_with parts sites =
    record { text = parts.text; init = parts.init; bss = parts.bss; entry = parts.entry; sites = sites; format = told_format parts.sites }

-- the image of parts
unfoldable pub image_from : ImageParts → Result Image Refusal
image_from parts = do
  _ ← placed parts
  ps ← pieces_in parts.text
  sites ← annotated parts ps
  _ ← entered parts ps sites
  Ok (image_with parts sites)

-- the image of a file
unfoldable pub image_of : List ℕ → Result Image Refusal
image_of file = do
  parts ← as_form (image_in file)
  image_from parts
