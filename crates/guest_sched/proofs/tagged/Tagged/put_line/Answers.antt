use Rattle.std.proofs.Common.{refl, take, arith}
use Rattle.guest_sched.proofs.Tags.{line_some}
use Rattle.guest_sched.proofs.Takes.{first_taken}
use Rattle.guest_sched.proofs.tagged.Tagged.put_line.Goals as goal

pub invariant_of-self : goal.invariant_of-self
invariant_of-self g c = record {
  taken = first_taken c.args.self.now.tag c.args.self.now.since.text c.args.text.now (take c.first_line-len.result.0 c.args.text.now)
      c.and-self.result.text
      c.args.self.now.begun c.first_line-len.result.1 c.args.self.now.failed c.first_line-len.result.0
      c.args.self.now.since.taken c.and-self.result.taken (g.O.Sink.taken c.args.self.now.out.now)
      (g.O.Sink.taken c.put_after-result.new.out)
      c.args.self.now.since.faults c.and-self.result.faults (g.O.Sink.faults c.args.self.now.out.now)
      (g.O.Sink.faults c.put_after-result.new.out) c.put_after-result.result c.is_err-self.result
      c.requires.live c.args.self.now.taken c.requires.some
      c.first_line-len.ensures.len c.first_line-len.ensures.end refl
      c.put_after-result.ensures.ok c.put_after-result.ensures.failed c.put_after-result.ensures.kept c.put_after-result.ensures.cause
      c.is_err-self.ensures.value c.and-self.ensures.0 c.and-self.ensures.1 c.and-self.ensures.2;
}

pub returns-in-Ok-clause-len : goal.returns-in-Ok-clause-len
returns-in-Ok-clause-len g c = (
  c.first_line-len.ensures.len,
  omega (arith, c.first_line-len.ensures.len, line_some c.args.text.now c.requires.some),
  c.first_line-len.ensures.within,
)
