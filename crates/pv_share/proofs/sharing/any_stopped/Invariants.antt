use Rattle.std.proofs.Common.{◌≡◌, drop}
use Rattle.std.specs.List.{list_any}
use Rattle.pv_share.specs.Sharing.{has_stopped}
use Rattle.pv_share.proofs.sharing.any_stopped.Given as goal

abbrev pub invariant-loop-one : goal.invariant-loop-one
invariant-loop-one l = list_any has_stopped (drop l.one-index l.ended) ≡ list_any has_stopped l.ended
