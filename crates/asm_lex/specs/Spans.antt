-- Where tokens lie.
use Rattle.std.specs.Prelude.{ℕ, ◌+◌, ◌≤◌, List, [], ◌∷◌}
use Rattle.asm_lex.specs.declared.token.Token.{Token}

-- Each has a byte or more, begins after the one before, and ends within this many bytes.
abbrev pub AreSpans : ℕ → ℕ → List Token → Type 0
AreSpans from limit [] = Unit {0}
AreSpans from limit (t ∷ ts) = (from ≤ t.at) × (1 ≤ t.len) × (t.at + t.len ≤ limit) × AreSpans (t.at + t.len) limit ts
