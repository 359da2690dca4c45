use Rattle.std.proofs.Common.{◌≡◌, ◌+◌, ◌-◌, inl, refl, arith}
use Rattle.checkpoint.proofs.Continuing.{went_on, went_unput, went_front}
use Rattle.checkpoint.proofs.GuestRests.{at_bound}
use Rattle.checkpoint.proofs.guest_run.whole.Goals as goal

pub returns-in-Err : goal.returns-in-Err
returns-in-Err g c =
    let asked = c.step.ensures in
    let is : c.args.guest.now.step + (c.args.n - c.step.result) ≡ c.args.n = omega (arith, asked, c.requires.begun) in
    record { whole = went_front c.in-Err.field-0 _ _ (at_bound _ c.args.n _ is c.in-Err.ensures.slice) c.in-Err.ensures.faults.cause }

pub returns-in-Err-put_end : goal.returns-in-Err-put_end
returns-in-Err-put_end g c =
    let asked = c.step.ensures in
    let is : c.args.guest.now.step + (c.args.n - c.step.result) ≡ c.args.n = omega (arith, asked, c.requires.begun) in
    record {
      whole =
          went_unput _ c.in-Ok.pause _ (g.O.Sink.faults c.slice.new.out) _ c.step-2.result c.end_of.result c.step-2.ensures c.end_of.ensures
          (at_bound _ c.args.n _ is c.in-Ok.ensures.slice) c.in-Err-put_end.ensures.failed c.in-Ok.ensures.faults.kept
          c.in-Err-put_end.ensures.cause;
    }

pub returns-in-Ok-put_end : goal.returns-in-Ok-put_end
returns-in-Ok-put_end g c =
    let asked = c.step.ensures in
    let is : c.args.guest.now.step + (c.args.n - c.step.result) ≡ c.args.n = omega (arith, asked, c.requires.begun) in
    let memory = g.H.Host.bytes c.slice.new.host in
    record {
      whole = went_on c.kept_on.ensures.before _ c.in-Ok.pause _ (g.O.Sink.faults c.slice.new.out) _ memory c.step-2.result
          c.end_of.result c.fills.result c.fills.ensures
          c.requires.filled c.in-Ok.ensures.leaves.few c.step-2.ensures c.end_of.ensures
          c.in-Ok.ensures.own.memory (at_bound _ c.args.n _ is c.in-Ok.ensures.slice) (inl (refl, c.requires.bare))
          c.in-Ok-put_end.ensures.ok c.in-Ok.ensures.faults.kept c.in-Ok-put_end.ensures.kept;
    }
