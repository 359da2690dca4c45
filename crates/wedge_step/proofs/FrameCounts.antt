-- The frames that are free, and those that are held.
use Rattle.std.proofs.Common.{◌≡◌, ℕ, ◌+◌, ◌<◌, ◌≤◌, ◌^◌, arith}

pub all_fit : (count free held frames : ℕ) → count ≡ free → held ≡ frames → free + frames < 2 ^ 32 → count + held < 2 ^ 32
all_fit count free held frames e h few = omega (arith, e, h, few)

pub all_but : (count free held frames count2 free2 frames2 : ℕ) → count ≡ free → held ≡ frames → count2 ≡ free2 → free2 + frames2 ≡ free
    + frames → count2 ≤ count + held
all_but count free held frames count2 free2 frames2 e h f same = omega (arith, e, h, f, same)
