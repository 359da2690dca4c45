-- Objects at the names at which they were stored.
use Rattle.std.specs.Prelude.{◌≡◌, ◌≤◌, ℕ, List, Some, length}
use Rattle.std.specs.List.{AllZip}
use Rattle.pv_io.specs.Files.{FileMap}
use Rattle.elf_form.specs.declared.segments.TheConstants.{FILE_LIMIT}
use Rattle.elf_form.specs.ObjectParts.{ObjectParts}
use Rattle.elf_form.specs.ObjectLayout.{object_bytes}
use Rattle.pv_build.specs.Objects.{ReadsBack}

-- each name holds the file of the object of its place, which is read as that object and isn't too long
abbrev pub HoldObjects : FileMap → List (List ℕ) → List ObjectParts → Type 0
HoldObjects told names os =
    AllZip (λ name o. (told name ≡ Some (object_bytes o)) × (length (object_bytes o) ≤ FILE_LIMIT) × ReadsBack o) names os
