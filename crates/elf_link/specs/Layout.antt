-- Where the parts of the objects stand: sums over the objects before.
use Rattle.std.specs.Prelude.{ℕ, ◌+◌, ◌==◌, List, [], ◌∷◌, length, map, Option, unwrap_or, take, sum_by, if◌then◌else◌}
use Rattle.std.specs.List.{enumerate_from}
use Rattle.ia32_types.specs.declared.addresses.TheConstants.{DATA_ADDRESS, TEXT_ADDRESS}
use Rattle.elf_form.specs.ObjectParts.{ObjectParts}
use Rattle.elf_form.specs.Output.{pad}
use Rattle.elf_link.specs.declared.base.Base.{Base}

-- the next multiple of k
abbrev pub round_up : ℕ → ℕ → ℕ
round_up k n = n + pad k n

-- the bytes of an object's parts, and the room that they take up to where a part of the next object begins
abbrev pub text_size : ObjectParts → ℕ
text_size o = length o.text

abbrev pub init_size : ObjectParts → ℕ
init_size o = length o.init

abbrev pub bss_size : ObjectParts → ℕ
bss_size o = o.bss

abbrev pub text_room : ObjectParts → ℕ
text_room o = round_up 16 (text_size o)

abbrev pub init_room : ObjectParts → ℕ
init_room o = round_up 4096 (init_size o)

abbrev pub bss_room : ObjectParts → ℕ
bss_room o = round_up 4096 (bss_size o)

-- Where the parts of object i begin: texts after the first text, data after the first data, and zeroed bytes after all data.
abbrev pub text_at : List ObjectParts → ℕ → ℕ
text_at os i = sum_by text_room (take i os)

abbrev pub init_at : List ObjectParts → ℕ → ℕ
init_at os i = sum_by init_room (take i os)

abbrev pub bss_at : List ObjectParts → ℕ → ℕ
bss_at os i = sum_by init_room os + sum_by bss_room (take i os)

-- their linear addresses
unfoldable pub base : List ObjectParts → ℕ → Base
base os i = record { text = TEXT_ADDRESS + text_at os i; init = DATA_ADDRESS + init_at os i; bss = DATA_ADDRESS + bss_at os i }

-- the end of the last text, also where it is empty
unfoldable pub text_end : List ObjectParts → ℕ
text_end [] = 0
text_end (o ∷ []) = text_size o
text_end (o ∷ p ∷ os) = text_room o + text_end (p ∷ os)

-- the end of the last part that isn't empty, where parts of these sizes stand at multiples of 4,096
unfoldable pub extent : (ObjectParts → ℕ) → List ObjectParts → ℕ
extent size [] = 0
extent size (o ∷ os) = if sum_by size os == 0 then size o else round_up 4096 (size o) + extent size os

-- the end of the data, and of the zeroed bytes or of the data where there are none
abbrev pub init_end : List ObjectParts → ℕ
init_end os = extent init_size os

abbrev pub memory_end : List ObjectParts → ℕ
memory_end os = if extent bss_size os == 0 then init_end os else sum_by init_room os + extent bss_size os

-- the objects with their numbers, from 0
abbrev pub numbered : List ObjectParts → List (ℕ × ObjectParts)
numbered os = enumerate_from 0 os

unfoldable pub bases : List ObjectParts → List Base
bases os = map (λ p. base os p.0) (numbered os)

abbrev pub or_zero : Option Base → Base
or_zero base = unwrap_or base (record { text = 0; init = 0; bss = 0 })
