use Rattle.look_words.specs.View.{aspect_view}
use Rattle.pv_look.specs.Before.{IsBound}
use Rattle.pv_look.specs.Onward.{watch_bare}
use Rattle.pv_look.proofs.before.look_through.Given as goal

abbrev pub invariant-loop-earlier : goal.invariant-loop-earlier
invariant-loop-earlier l = record {
  bound : IsBound (watch_bare l.found.image l.found.script.list l.frames (aspect_view l.aspect)) l.steps l.bound l.end;
}

abbrev pub decreases-loop-earlier : goal.decreases-loop-earlier
decreases-loop-earlier l = l.bound
