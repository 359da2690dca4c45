-- The room that a line needs.
use Rattle.std.specs.Prelude.{◌≤◌}
use Rattle.pv_look.specs.declared.part.Part.{Part}
use Rattle.pv_look.specs.declared.part.Part.TheVariants as part

-- no site has more than eleven bytes, and each has one
abbrev pub IsShort : Part → Type 0
IsShort (part.Site s) = (1 ≤ s.total) × (s.total ≤ 11)
IsShort _ = Unit {0}
