-- The objects that sources are burnt to, and that files hold.
use Rattle.std.specs.Prelude.{◌≡◌, ◌≤◌, ℕ, zero, suc, List, [], ◌∷◌, Option, Ok, Err, length, codes}
use Rattle.std.specs.List.{AllZip}
use Rattle.elf_form.specs.declared.segments.TheConstants.{FILE_LIMIT}
use Rattle.pv_io.specs.Files.{FileMap, Holds, IsHeld}
use Rattle.elf_form.specs.Faults.{Fault}
use Rattle.elf_form.specs.ObjectParts.{ObjectParts}
use Rattle.elf_form.specs.ObjectLayout.{object_bytes}
use Rattle.elf_form.specs.ObjectReading.{object_in}
use Rattle.sites.specs.Formats.{told_count}
use Rattle.afterburner.specs.Burnt as burning
use Rattle.afterburner.specs.Causes.{cause_number as burn_number}
use Rattle.pv_build.specs.Lines.{sizes_line, refusal_at_line}

-- why a source is not burnt
abbrev pub burn_line : burning.Fault → List ℕ
burn_line fault = refusal_at_line (burn_number fault.cause) fault.line

-- text, data, zeroed bytes, and the count of sites that the annotations give
abbrev pub object_made_line : ObjectParts → List ℕ
object_made_line o = sizes_line (codes "object") (length o.text) (length o.init) o.bss (told_count o.sites) (codes "")

-- The file of an object is read as that object, unless it is too long.
abbrev pub ReadsBack : ObjectParts → Type 0
ReadsBack o = length (object_bytes o) ≤ FILE_LIMIT → object_in (object_bytes o) ≡ Ok o

-- the name holds an object, or a file that is none
abbrev pub HasObject : Option FileMap → List ℕ → ObjectParts → Type 0
HasObject files name o = (file : List ℕ) × Holds files name file × (object_in file ≡ Ok o)

abbrev pub HasNoObject : Option FileMap → List ℕ → Fault → Type 0
HasNoObject files name fault = (file : List ℕ) × Holds files name file × (object_in file ≡ Err fault)

-- each name holds the object of its place
abbrev pub HasObjects : Option FileMap → List (List ℕ) → List ObjectParts → Type 0
HasObjects files names os = AllZip (HasObject files) names os

-- Each name that is reached is held: a name is reached where those before it hold objects.
abbrev pub FindsObjects : Option FileMap → List (List ℕ) → Type 0
FindsObjects files [] = Unit {0}
FindsObjects files (name ∷ names) = IsHeld files name × ((o : ObjectParts) → HasObject files name o → FindsObjects files names)

-- the first name whose file is no object, counted from 0
abbrev pub FirstFault : Option FileMap → List (List ℕ) → ℕ → Fault → Type 0
FirstFault files [] i fault = ⊥
FirstFault files (name ∷ names) zero fault = HasNoObject files name fault
FirstFault files (name ∷ names) (suc i) fault = (o : ObjectParts) × HasObject files name o × FirstFault files names i fault
