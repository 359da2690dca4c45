-- A sink in memory: what it has taken, its room, the number of its next call, the numbers of the calls
-- that are to fail, and how many have failed.
use Rattle.std.specs.Prelude.{ℕ, ◌+◌, ◌-◌, ◌^◌, min, Bool, ◌||◌, nat_lt, if◌then◌else◌, List, ◌++◌, length}
use Rattle.guest_ram.specs.Among.{is_among}

pub record Taken : Type 0 where
  pub bytes : List ℕ
  pub room : ℕ
  pub calls : ℕ
  pub fail : List ℕ
  pub faults : ℕ

-- one more, up to the last number of 64 bits
abbrev pub one_more : ℕ → ℕ
one_more n = min (n + 1) (2 ^ 64 - 1)

-- a call fails where its number is in the list or its bytes don't fit the room
abbrev pub is_refused : Taken → List ℕ → Bool
is_refused s bytes = is_among s.calls s.fail || nat_lt s.room (length s.bytes + length bytes)

-- after a call; one that fails takes nothing and is counted
abbrev pub put_to : Taken → List ℕ → Taken
put_to s bytes =
    if is_refused s bytes
    then record s { calls = one_more s.calls; faults = one_more s.faults }
    else record s { calls = one_more s.calls; bytes = s.bytes ++ bytes }
