use Rattle.std.proofs.Common.{List, length, ◌≤◌}
use Rattle.image_check.specs.declared.piece.Piece.{Piece}
use Rattle.image_check.specs.Stops.{AreLeft}
use Rattle.image_check.proofs.SiteSteps.{Counted}
use Rattle.image_check.proofs.site.has_nops.Given as goal

abbrev pub invariant-loop : goal.invariant-loop
invariant-loop l = record {
  counted : (ps : List Piece) → AreLeft l.text l.from ps → Counted l.count l.counter l.text l.at ps;
  within : l.at ≤ length l.text;
}
