-- How many bytes at an address may be those of an instruction.
use Rattle.std.specs.Prelude.{ℕ, ◌-◌, ◌%◌, min}

-- no instruction is longer
abbrev pub longest : ℕ
longest = 11

-- those that lie in its first page
abbrev pub front_len : ℕ → ℕ
front_len eip = min longest (4096 - eip % 4096)
