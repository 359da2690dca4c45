use Rattle.std.proofs.Common.{◌≡◌, ℕ, true, List, take}
use Rattle.guest_sched.specs.Known.{AreKnown}
use Rattle.guest_sched.specs.Pieces.{Piece}
use Rattle.guest_sched.specs.Rounds.{HasGoneRound}
use Rattle.guest_sched.specs.Since.{Since}
use Rattle.guest_sched.specs.Stages.{stage}
use Rattle.guest_sched.proofs.shared.run_shared.Given as goal
use Rattle.guest_sched.proofs.Wide.{IsBetween}

abbrev pub invariant-loop-slice : goal.invariant-loop-slice
invariant-loop-slice g l = record {
  between : (pieces : List Piece) × (since : ℕ → Since)
      × HasGoneRound l.kernels.items l.frames (take l.slice-index l.schedule.list) pieces (stage l.tenants (g.H.Host.bytes l.host)) since
      × AreKnown l.kernels.items l.frames since (stage l.tenants (g.H.Host.bytes l.host))
      × IsBetween l.kernels.items l.frames l.schedule.list (take l.slice-index l.schedule.list) pieces l.tenants.list.items l.tenants.pool
      l.tenants.present (g.H.Host.bytes l.host)
      (record { retired = g.H.Host.retired l.fn.host; passed = g.H.Host.passed l.fn.host })
      (record { retired = g.H.Host.retired l.host; passed = g.H.Host.passed l.host })
      (g.O.Sink.taken l.fn.out) (g.O.Sink.taken l.out);
  frames : l.tenants.frames ≡ l.frames;
  started : g.H.Host.is_started l.host ≡ true;
  kept : g.O.Sink.faults l.out ≡ g.O.Sink.faults l.fn.out;
}
