-- Linear memory after numbers were written, low byte first.
use Rattle.std.specs.Prelude.{ℕ, zero, suc, ◌+◌, ◌*◌, ◌/◌, ◌%◌, ◌^◌, Bool, List, [], ◌∷◌, if◌then◌else◌}
use Rattle.ia32_types.specs.Size.{width}
use Rattle.ia32_exec.specs.declared.outcome.Store.{Store}

-- memory after a byte was written, where a test says which addresses lead to one byte
abbrev pub with_byte : (ℕ → ℕ → Bool) → (ℕ → ℕ) → ℕ → ℕ → ℕ → ℕ
with_byte same b at v x = if same at x then v else b x

-- after the n lowest bytes of a number were written, the lowest first
unfoldable pub with_bytes : (ℕ → ℕ → Bool) → ℕ → ℕ → ℕ → (ℕ → ℕ) → ℕ → ℕ
with_bytes same zero at v b = b
with_bytes same (suc n) at v b = with_byte same (with_bytes same n at v b) (at + n) (v / 2 ^ (8 * n) % 2 ^ 8)

-- after a number was written, and after several in their order
abbrev pub stored : (ℕ → ℕ → Bool) → Store → (ℕ → ℕ) → ℕ → ℕ
stored same w b = with_bytes same (width w.size / 8) w.at w.value b

unfoldable pub all_stored : (ℕ → ℕ → Bool) → List Store → (ℕ → ℕ) → ℕ → ℕ
all_stored same [] b = b
all_stored same (w ∷ ws) b = all_stored same ws (stored same w b)
