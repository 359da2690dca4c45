-- How long the ranges of instructions are.
use Rattle.std.specs.Prelude.{◌≤◌, Option, Some, None}
use Rattle.ia32_exec.specs.declared.access.Range.{Range}

-- 1 to 32 bytes
abbrev pub IsShort : Option Range → Type 0
IsShort None = Unit {0}
IsShort (Some r) = (1 ≤ r.len) × (r.len ≤ 32)
