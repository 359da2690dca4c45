-- What names stand for.
use Rattle.std.specs.Prelude.{ℕ, ◌+◌, ◌%◌, ◌^◌, ◌&&◌, Bool, true, false, List, [], ◌∷◌, map, filter, slice_get, Option, Some, None, if◌then◌else◌}
use Rattle.std.specs.List.{flat_map}
use Rattle.std.specs.Str.{bytes_eq}
use Rattle.elf_form.specs.declared.object.Place.{Place}
use Rattle.elf_form.specs.declared.object.Place.TheVariants.{Undefined, Text, Init, Bss}
use Rattle.elf_form.specs.declared.object.Symbol.{Symbol}
use Rattle.elf_form.specs.ObjectParts.{ObjectParts}
use Rattle.elf_link.specs.declared.base.Base.{Base}
use Rattle.elf_link.specs.declared.target.Target.{Target}
use Rattle.elf_link.specs.Layout.{numbered, or_zero}

abbrev pub is_defined : Place → Bool
is_defined Undefined = false
is_defined _ = true

abbrev pub is_text : Place → Bool
is_text Text = true
is_text _ = false

-- a symbol that gives its name a meaning in all objects
abbrev pub is_exported : Symbol → Bool
is_exported s = s.global && is_defined s.place

-- what a symbol that object i defines stands for
abbrev pub target : ℕ → Symbol → Target
target i s = record { object = i; place = s.place; value = s.value }

-- the names that a numbered object defines for all objects, and those of several, in their order
abbrev pub exports : ℕ × ObjectParts → List (List ℕ × Target)
exports p = map (λ s. (s.name, target p.0 s)) (filter is_exported p.1.symbols)

unfoldable pub definitions : List (ℕ × ObjectParts) → List (List ℕ × Target)
definitions ps = flat_map exports ps

-- the first of a name
unfoldable pub lookup : List ℕ → List (List ℕ × Target) → Option Target
lookup name [] = None
lookup name (d ∷ ds) = if bytes_eq name d.0 then Some d.1 else lookup name ds

abbrev pub globals : List ObjectParts → List (List ℕ × Target)
globals os = definitions (numbered os)

-- What a symbol of object i stands for: itself where it is defined, else the global symbol of its name. A local symbol
-- that isn't defined stands for nothing.
unfoldable pub target_of : List (List ℕ × Target) → ℕ → Symbol → Option Target
target_of gs i s = if is_defined s.place then Some (target i s) else (if s.global then lookup s.name gs else None)

-- where a part of an object stands
abbrev pub place_at : Place → Base → ℕ
place_at Undefined b = 0
place_at Text b = b.text
place_at Init b = b.init
place_at Bss b = b.bss

-- its linear address
unfoldable pub address : List Base → Target → ℕ
address bs t = (place_at t.place (or_zero (slice_get bs t.object)) + t.value) % 2 ^ 32
