use Rattle.std.proofs.Common.{◌≡◌, drop}
use Rattle.image_check.specs.TextSites.{differ}
use Rattle.image_check.proofs.site.differ.Given as goal

abbrev pub invariant-loop-i : goal.invariant-loop-i
invariant-loop-i l = differ (drop l.i l.a) (drop l.i l.b) ≡ differ l.a l.b
