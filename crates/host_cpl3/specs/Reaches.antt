-- What the code keeps of a range that was met.
use Rattle.std.specs.Prelude.{◌≡◌, ℕ, ◌+◌, ◌*◌, ◌/◌, ◌%◌, ◌<◌, ◌≤◌, ◌^◌, List, length, Bool, ◌==◌, ◌&&◌, nat_le, nat_lt, Option, Some, None, Result, Ok, Err, if◌then◌else◌}
use Rattle.ia32_exec.specs.declared.access.Range.{Range}
use Rattle.host_cpl3.specs.declared.exit.Exit.{Exit}
use Rattle.ia32_types.specs.declared.flags.Regs.{Regs}
use Rattle.host_cpl3.specs.declared.exit.Completion.{Completion}
use Rattle.host_cpl3.specs.declared.exit.Completion.TheVariants as done
use Rattle.host_cpl3.specs.declared.exit.Ending.{Ending}
use Rattle.host_cpl3.specs.declared.exit.Ending.TheVariants as endings
use Rattle.host_cpl3.specs.declared.reach.Reach.{Reach}
use Rattle.host_cpl3.specs.Met.{Met}
use Rattle.host_cpl3.specs.Pages.{place}

abbrev pub holds : Reach → ℕ → Bool
holds x at = nat_le x.at at && nat_lt at (x.at + x.len)

-- the place of an address in it
abbrev pub placed : Reach → ℕ → ℕ
placed x at = 4096 * (if at / 4096 == x.at / 4096 then x.first else x.last) + at % 4096

-- in the first of the two that holds the address
abbrev pub placed_in : Reach → Reach → ℕ → ℕ
placed_in x y at = if holds x at then placed x at else placed y at

-- the addresses of the range lead where the view's tables say, in the memory
pub record IsReach (m : List ℕ) (root : ℕ) (x : Reach) : Type 0 where
  pub fits : x.at + x.len ≤ 2 ^ 32
  pub leads : (a : ℕ) → x.at ≤ a → a < x.at + x.len → placed x a ≡ place m root a
  pub inside : (a : ℕ) → x.at ≤ a → a < x.at + x.len → placed x a < length m

-- of this range, or of nothing
abbrev pub IsOf : Option Range → Reach → Type 0
IsOf None x = x.len ≡ 0
IsOf (Some r) x = (x.at ≡ r.at) × (x.len ≡ r.len)

-- where this range leads, or nothing
abbrev pub Leads : List ℕ → ℕ → Option Range → Reach → Type 0
Leads m root range x = IsReach m root x × IsOf range x

-- of no bytes
abbrev pub IsNone : List ℕ → ℕ → Reach → Type 0
IsNone m root x = IsReach m root x × (x.len ≡ 0)

-- an address that may be read
pub record IsRead (m : List ℕ) (root : ℕ) (x y : Reach) (at : ℕ) : Type 0 where
  pub space : at < 2 ^ 32
  pub leads : placed_in x y at ≡ place m root at
  pub inside : placed_in x y at < length m

-- an address that may be written
pub record IsWritten (n : ℕ) (x : Reach) (at : ℕ) : Type 0 where
  pub space : at < 2 ^ 32
  pub inside : placed x at < n

-- with the registers that were left in place
abbrev pub completion : Ending → Regs → Completion
completion endings.Completed r = done.Completed r
completion endings.Entered r = done.Entered r

-- the function returned what the step gives, and left registers and memory so; after an exit both are as before
abbrev pub Gives : Result Ending Exit → (old new : Regs) → (before after : List ℕ) → Met (Completion × List ℕ) → Type 0
Gives (Ok ending) old new before after met = met ≡ Ok (completion ending new, after)
Gives (Err exit) old new before after met = (met ≡ Err exit) × (new ≡ old) × (after ≡ before)
