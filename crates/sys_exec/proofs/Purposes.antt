-- What isn't loaded as data may have a null selector.
use Rattle.std.proofs.Common.{◌≡◌, ℕ, ◌≤◌}
use Rattle.sys_exec.specs.declared.segment.Purpose.TheVariants.{Data, Stack, Return, Jump}

pub for_stack : (level sel : ℕ) → Stack level ≡ Data → 4 ≤ sel
for_stack level sel e = absurd cc

pub for_return : (sel : ℕ) → Return ≡ Data → 4 ≤ sel
for_return sel e = absurd cc

pub for_jump : (sel : ℕ) → Jump ≡ Data → 4 ≤ sel
for_jump sel e = absurd cc
