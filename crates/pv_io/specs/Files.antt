-- Files by their names, where they are told.
use Rattle.std.specs.Prelude.{◌≡◌, ℕ, false, List, Option, Some, None, bytes_eq, if◌then◌else◌}

-- the bytes of each name that is held
abbrev pub FileMap : Type 0
FileMap = List ℕ → Option (List ℕ)

-- where the files are told, the name holds these bytes
abbrev pub Holds : Option FileMap → List ℕ → List ℕ → Type 0
Holds None name bytes = Unit {0}
Holds (Some files) name bytes = files name ≡ Some bytes

-- where the files are told, a store changes this name alone
abbrev pub Stores : Option FileMap → Option FileMap → List ℕ → List ℕ → Type 0
Stores None new name bytes = Unit {0}
Stores (Some old) new name bytes =
    (files : FileMap) × (new ≡ Some files) × ((q : List ℕ) → files q ≡ (if bytes_eq q name then Some bytes else old q))

-- the same, with whatever bytes at the name
abbrev pub ChangesAt : Option FileMap → Option FileMap → List ℕ → Type 0
ChangesAt None new name = Unit {0}
ChangesAt (Some old) new name = (files : FileMap) × (new ≡ Some files) × ((q : List ℕ) → bytes_eq q name ≡ false → files q ≡ old q)

-- the files are told, and the name is one of them
abbrev pub IsHeld : Option FileMap → List ℕ → Type 0
IsHeld None name = ⊥
IsHeld (Some files) name = (bytes : List ℕ) × (files name ≡ Some bytes)
