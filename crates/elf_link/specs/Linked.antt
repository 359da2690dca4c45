-- The image that objects make.
use Rattle.std.specs.Prelude.{ℕ, ◌-◌, true, false, List, [], ◌∷◌, ◌++◌, length, take, replicate, Option, Result}
use Rattle.std.specs.List.{flat_map}
use Rattle.std.specs.Option.{option_map_or}
use Rattle.ia32_types.specs.declared.addresses.TheConstants.{DATA_ADDRESS, TEXT_ADDRESS}
use Rattle.elf_form.specs.ObjectParts.{ObjectParts}
use Rattle.elf_form.specs.ImageParts.{ImageParts}
use Rattle.elf_form.specs.Output.{pad}
use Rattle.sites.specs.Reading.{unless}
use Rattle.sites.specs.Spelling.{spelling}
use Rattle.sites.specs.Limits.{in_text}
use Rattle.elf_link.specs.declared.base.Base.{Base}
use Rattle.elf_link.specs.declared.target.Target.{Target}
use Rattle.elf_link.specs.Layout.{text_end, init_end, memory_end, numbered, bases}
use Rattle.elf_link.specs.Symbols.{address, globals}
use Rattle.elf_link.specs.Relocations.{with_fields}
use Rattle.elf_link.specs.Sites.{linked_sites}
use Rattle.elf_link.specs.Refusals.{Refused, start, refusal}

-- bytes, and what fills them up to a multiple of k
abbrev pub padded : ℕ → ℕ → List ℕ → List ℕ
padded k fill bytes = bytes ++ replicate (pad k (length bytes)) fill

-- texts with NOPs between them, and data with zeros between them, up to where the last one ends
abbrev pub texts : List ObjectParts → List (ℕ × ObjectParts) → List ℕ
texts os ps = flat_map (λ p. padded 16 0x90 (with_fields (bases os) (globals os) p true)) ps

abbrev pub inits : List ObjectParts → List (ℕ × ObjectParts) → List ℕ
inits os ps = flat_map (λ p. padded 4096 0 (with_fields (bases os) (globals os) p false)) ps

-- a jump to itself ends the text
unfoldable pub linked_text : List ObjectParts → List ℕ
linked_text os = take (text_end os) (texts os (numbered os)) ++ (0xEB ∷ 0xFE ∷ [])

unfoldable pub linked_init : List ObjectParts → List ℕ
linked_init os = take (init_end os) (inits os (numbered os))

abbrev pub entry_at : List Base → Option Target → ℕ
entry_at bs start = option_map_or (address bs) start TEXT_ADDRESS

unfoldable pub image : List ObjectParts → ImageParts
image os = record {
  text = linked_text os;
  init = linked_init os;
  bss = memory_end os - init_end os;
  entry = entry_at (bases os) (start os);
  text_at = TEXT_ADDRESS;
  init_at = DATA_ADDRESS;
  sites = spelling (in_text (length (linked_text os)) (linked_sites os));
}

-- the image, or the first refusal
unfoldable pub linked_image : List ObjectParts → Result ImageParts Refused
linked_image os = unless (refusal os) (image os)
