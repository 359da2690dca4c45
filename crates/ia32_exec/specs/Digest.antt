-- A digest of the addresses at which instructions began (profile).
use Rattle.std.specs.Prelude.{ℕ, ◌+◌, ◌*◌, ◌%◌, ◌^◌}

-- with one address more
abbrev pub digest : ℕ → ℕ → ℕ
digest passed eip = (31 * passed + eip) % 2 ^ 64
