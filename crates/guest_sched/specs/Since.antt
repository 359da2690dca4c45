-- What a kernel has done since its shadows were dropped last, or since its run began: the rule for kept translations is said of its
-- sets as far as these steps go.
use Rattle.std.specs.Prelude.{ℕ, ◌==◌, ◌&&◌, not, nat_le, nat_lt, List, [], ◌++◌, Option, Some, None, if◌then◌else◌}
use Rattle.machine_model.specs.Taken.{Taken}

-- These steps; or nothing is said, where in one of its turns since then fewer than 464 frames of the pool were free or its own.
abbrev pub Since : Type 0
Since = Option (List Taken)

-- of each kernel, by its number, before the first turn
abbrev pub none_since : ℕ → Since
none_since number = Some []

-- after the first so many of them, but the present one, gave way
abbrev pub released_since : (count present : ℕ) → (ℕ → Since) → ℕ → Since
released_since count present since number = if nat_lt number count && not (number == present) then Some [] else since number

-- in a turn that has so many frames
abbrev pub since_in : ℕ → Since → Since
since_in frames since = if nat_le 464 frames then since else None

-- after these steps more
abbrev pub since_then : List Taken → Since → Since
since_then steps None = None
since_then steps (Some past) = Some (past ++ steps)

-- after the turn of one of them
abbrev pub turned_since : ℕ → Since → (ℕ → Since) → ℕ → Since
turned_since turned new since number = if number == turned then new else since number
