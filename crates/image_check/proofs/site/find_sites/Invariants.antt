use Rattle.std.proofs.Common.{◌-◌, ◌≤◌, length}
use Rattle.image_check.proofs.SiteSteps.{Now}
use Rattle.image_check.proofs.site.find_sites.Given as goal

abbrev pub invariant-loop-piece : goal.invariant-loop-piece
invariant-loop-piece l = record {
  found : Now l.sites.items l.skipped l.text l.at;
  within : l.at ≤ length l.text;
}

abbrev pub decreases-loop-piece : goal.decreases-loop-piece
decreases-loop-piece l = length l.text - l.at
