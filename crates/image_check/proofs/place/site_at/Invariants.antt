use Rattle.std.proofs.Common.{◌-◌}
use Rattle.image_check.proofs.Lookups.{IsSought}
use Rattle.image_check.proofs.place.site_at.Given as goal

abbrev pub invariant-loop-low : goal.invariant-loop-low
invariant-loop-low l = IsSought l.sites.list l.at l.low l.high

abbrev pub decreases-loop-low : goal.decreases-loop-low
decreases-loop-low l = l.high - l.low
