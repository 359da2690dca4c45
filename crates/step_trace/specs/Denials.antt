-- Why the page of a step's last access, where it has no translation, is the one at which the step stops: on the bare machine a page
-- that isn't ready has no translation after it, and one that is ready has one. So it is of each access, to fetch and for data.
use Rattle.std.specs.Prelude.{◌≡◌, ◌⊎◌, ℕ, ◌+◌, ◌-◌, ◌/◌, ◌≤◌, ◌^◌, Bool, Some, None}
use Rattle.paging.specs.declared.entry.Access.{Access}
use Rattle.paging.specs.declared.entry.Touch.{Touch}
use Rattle.paging.specs.declared.entry.Touch.TheVariants.{Ready, Fault, Stop}
use Rattle.paging.specs.Space.{Bare, Space}
use Rattle.paging.specs.Uses.{uses, fetches}
use Rattle.machine_step.specs.Left.{denied_page}

-- of one page: what was met there, and the memory then
abbrev pub ToldIn : ℕ → Touch → Space → Type 0
ToldIn page Ready s = denied_page s ≡ None
ToldIn page (Fault code at) s = denied_page s ≡ Some page
ToldIn page (Stop stop) s = denied_page s ≡ Some page

-- of a range in one page or two
abbrev pub ToldInOne : ℕ → ℕ → Touch → Space → Type 0
ToldInOne first last Ready s = denied_page s ≡ None
ToldInOne first last (Fault code at) s = denied_page s ≡ Some (at / 4096)
ToldInOne first last (Stop stop) s = (denied_page s ≡ Some first) ⊎ (denied_page s ≡ Some last)

-- a fetch, and a range that doesn't pass the last address
pub record DenialsTell : Type 0 where
  pub fetch : (s : Space) (at len : ℕ) (user : Bool) → s.mode ≡ Bare
      → ToldIn (at / 4096) (fetches s at len user).0 (fetches s at len user).1
  pub range : (s : Space) (at len : ℕ) (access : Access) → s.mode ≡ Bare → at + len ≤ 2 ^ 32
      → ToldInOne (at / 4096) ((at + len - 1) / 4096) (uses s at len access).0 (uses s at len access).1
