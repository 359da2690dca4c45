-- The sides, kernel and user, are distinguished.
use Rattle.std.proofs.Common.{◌≡◌, true, refl}
use Rattle.shadow_tables.specs.declared.words.Side.{Side}
use Rattle.shadow_tables.specs.declared.words.Side.TheVariants.{Kernel, User}
use Rattle.shadow_tables.specs.Slots.{is_side}

pub side-is : (a b : Side) → is_side a b ≡ true → a ≡ b
side-is Kernel Kernel e = refl
side-is Kernel User e = absurd cc
side-is User Kernel e = absurd cc
side-is User User e = refl
