-- Levels of a controller, as bits of its registers (Intel 8259A data sheet: fully nested mode). Level 0 is the highest.
use Rattle.std.specs.Prelude.{ℕ, Option, Some, None, ◌==◌, nat_lt, if◌then◌else◌}
use Rattle.std.specs.Int.{trailing_zeros, w8}

-- the highest level whose bit is set
unfoldable pub highest : ℕ → Option ℕ
highest register = if register == 0 then None else Some (trailing_zeros w8 register)

-- a request beside the highest level in service, which blocks itself and lower ones
abbrev pub unblocked : Option ℕ → Option ℕ → Option ℕ
unblocked None in_service = None
unblocked (Some level) None = Some level
unblocked (Some level) (Some served) = if nat_lt level served then Some level else None
