-- The causes in the order in which they count, each with the place at which an image is wrong by it.
use Rattle.std.specs.Prelude.{ℕ, List, [], ◌∷◌, drop, map, Option, Some, None, Result, Ok, Err, if◌then◌else◌}
use Rattle.elf_form.specs.ImageParts.{ImageParts}
use Rattle.sites.specs.declared.site.Site.{Site}
use Rattle.sites.specs.Formats.{listed}
use Rattle.image_check.specs.declared.fault.CheckCause.{CheckCause}
use Rattle.image_check.specs.declared.fault.CheckCause.TheVariants.{TextPlace, InitPlace, TextSize, InitSize, EntryPlace, RefusedCode, BadCode, TextEnd, SiteWrong, SitesForm, Target, EntryStart}
use Rattle.image_check.specs.declared.piece.Piece.{Piece}
use Rattle.image_check.specs.Sweep.{Swept, sweep}
use Rattle.image_check.specs.Pieces.{is_refused, piece_of}
use Rattle.image_check.specs.Targets.{is_entrance, wrong_target}
use Rattle.image_check.specs.Conditions.{text_place, init_place, text_size, init_size, entry_place, text_end, site_wrong, entry_start}

-- where the sweep stops, at an instruction that is refused by its name, and at other bytes
abbrev pub refused_stop : List ℕ → Result (List Swept) ℕ → Option ℕ
refused_stop text (Ok swept) = None
refused_stop text (Err at) = if is_refused (drop at text) then Some at else None

abbrev pub bad_stop : List ℕ → Result (List Swept) ℕ → Option ℕ
bad_stop text (Ok swept) = None
bad_stop text (Err at) = if is_refused (drop at text) then None else Some at

abbrev pub form_stop : Result (List Site) ℕ → Option ℕ
form_stop (Ok sites) = None
form_stop (Err at) = Some at

-- what is asked of the sweep where it does not stop, and of the annotations where they have their form
abbrev pub of_swept : Result (List Swept) ℕ → (List Piece → Option ℕ) → Option ℕ
of_swept (Ok swept) place = place (map piece_of swept)
of_swept (Err at) place = None

abbrev pub of_both : Result (List Swept) ℕ → Result (List Site) ℕ → (List Piece → List Site → Option ℕ) → Option ℕ
of_both (Ok swept) (Ok sites) place = place (map piece_of swept) sites
of_both (Ok swept) (Err at) place = None
of_both (Err at) sites place = None

abbrev pub wrong_by : CheckCause → ImageParts → Result (List Swept) ℕ → Result (List Site) ℕ → Option ℕ
wrong_by TextPlace parts swept sites = text_place parts
wrong_by InitPlace parts swept sites = init_place parts
wrong_by TextSize parts swept sites = text_size parts
wrong_by InitSize parts swept sites = init_size parts
wrong_by EntryPlace parts swept sites = entry_place parts
wrong_by RefusedCode parts swept sites = refused_stop parts.text swept
wrong_by BadCode parts swept sites = bad_stop parts.text swept
wrong_by TextEnd parts swept sites = of_swept swept (text_end parts.text)
wrong_by SitesForm parts swept sites = form_stop sites
wrong_by SiteWrong parts swept sites = of_both swept sites (λ ps ss. site_wrong ss ps)
wrong_by Target parts swept sites = of_both swept sites (λ ps ss. wrong_target (is_entrance ps ss) ps)
wrong_by EntryStart parts swept sites = of_both swept sites (entry_start parts)

-- where an image is wrong by a cause, if it is
abbrev pub wrong : ImageParts → CheckCause → Option ℕ
wrong parts cause = wrong_by cause parts (sweep parts.text) (listed parts.sites)

abbrev pub causes : List CheckCause
causes =
    TextPlace ∷ InitPlace ∷ TextSize ∷ InitSize ∷ EntryPlace ∷ RefusedCode ∷ BadCode ∷ TextEnd ∷ SitesForm ∷ SiteWrong ∷
    Target ∷ EntryStart ∷ []
