-- The conditions on an image, each with the first place at which it is broken.
use Rattle.std.specs.Prelude.{ℕ, ◌+◌, ◌-◌, Bool, not, ◌&&◌, ◌||◌, List, length, slice_get, slice_index, Option, nat_lt, ◌==◌}
use Rattle.std.specs.Bool.{then_some}
use Rattle.std.specs.Option.{option_map_or}
use Rattle.ia32_types.specs.declared.addresses.TheConstants.{DATA_ADDRESS, TEXT_ADDRESS}
use Rattle.elf_form.specs.Faults.{◌or_lower◌}
use Rattle.elf_form.specs.ImageParts.{ImageParts}
use Rattle.sites.specs.declared.limits.TheConstants.{TEXT_LIMIT, INIT_LIMIT}
use Rattle.sites.specs.declared.site.Site.{Site}
use Rattle.image_check.specs.declared.piece.Piece.{Piece}
use Rattle.image_check.specs.Targets.{is_entrance}
use Rattle.image_check.specs.TextSites.{found_in, differ}

abbrev pub text_place : ImageParts → Option ℕ
text_place parts = then_some (not (parts.text_at == TEXT_ADDRESS)) 0

abbrev pub init_place : ImageParts → Option ℕ
init_place parts = then_some (not (parts.init_at == DATA_ADDRESS)) 0

abbrev pub text_size : ImageParts → Option ℕ
text_size parts = then_some (length parts.text == 0 || nat_lt TEXT_LIMIT (length parts.text)) 0

abbrev pub init_size : ImageParts → Option ℕ
init_size parts = then_some (nat_lt INIT_LIMIT (length parts.init + parts.bss)) 0

abbrev pub entry_place : ImageParts → Option ℕ
entry_place parts = then_some (nat_lt parts.entry TEXT_ADDRESS || not (nat_lt parts.entry (TEXT_ADDRESS + length parts.text))) 0

-- the offset of the last instruction
abbrev pub at_of : Option Piece → ℕ
at_of piece = option_map_or (λ (p : Piece). p.at) piece 0

abbrev pub last_at : List Piece → ℕ
last_at ps = at_of (slice_get ps (length ps - 1))

-- The last instruction is EB FE, a jump to itself.
abbrev pub ends_at : List ℕ → ℕ → Bool
ends_at text at = at + 2 == length text && slice_index text at == 0xEB && slice_index text (at + 1) == 0xFE

abbrev pub text_end_by : List ℕ → ℕ → Option ℕ
text_end_by text at = then_some (not (ends_at text at)) at

abbrev pub text_end : List ℕ → List Piece → Option ℕ
text_end text ps = text_end_by text (last_at ps)

-- the lowest offset at which a sensitive instruction lacks its NOPs, or the annotations and the sites differ
abbrev pub site_wrong : List Site → List Piece → Option ℕ
site_wrong sites ps = (found_in ps).lacking or_lower differ sites (found_in ps).sites

-- the entry, as an offset in the text
abbrev pub entry_at : ImageParts → ℕ
entry_at parts = parts.entry - TEXT_ADDRESS

abbrev pub entry_start_by : (ℕ → Bool) → ImageParts → Option ℕ
entry_start_by entrance parts = then_some (not (entrance (entry_at parts))) (entry_at parts)

abbrev pub entry_start : ImageParts → List Piece → List Site → Option ℕ
entry_start parts ps sites = entry_start_by (is_entrance ps sites) parts
