-- What numbers in a file are to meet, and the first field that is bad.
use Rattle.std.specs.Prelude.{ℕ, ◌+◌, Bool, not, ◌&&◌, ◌==◌, nat_le, List, [], ◌∷◌, Option, Some, None, if◌then◌else◌}
use Rattle.board.specs.Earlier.{earlier}
use Rattle.checkpoint.specs.declared.demand.Demand.{Demand}

-- where it speaks, it is the field's that is bad
abbrev pub bad_in : ℕ → Demand → Option ℕ
bad_in there d = if nat_le d.end there && not d.met then Some d.at else None

-- the first field that is bad in a file of which so many bytes are there
unfoldable pub first_bad : ℕ → List Demand → Option ℕ
first_bad there [] = None
first_bad there (d ∷ demands) = earlier (bad_in there d) (first_bad there demands)

-- of a field at a place, which so many bytes hold
abbrev pub of_field : ℕ → ℕ → Bool → Demand
of_field at size met = record { at = at; end = at + size; met = met }

-- bytes without a name, each by itself
abbrev pub zero_demands : ℕ → List ℕ → List Demand
zero_demands at [] = []
zero_demands at (b ∷ bytes) = of_field at 1 (b == 0) ∷ zero_demands (at + 1) bytes
