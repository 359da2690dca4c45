use Rattle.std.proofs.Common.{◌++◌, ℕ, List, length, take, ap, sym, ◌∙◌}
use Rattle.std.proofs.lemmas.Bool.{eqb-true}
use Rattle.std.proofs.lemmas.List.{append_assoc, nil_from_length}
use Rattle.std.proofs.lemmas.Result.{err_from_is_err_and}
use Rattle.guest_sched.specs.Dues.{line_len}
use Rattle.guest_sched.proofs.Takes.{all_in, fails_in, goes_on}
use Rattle.guest_sched.proofs.tagged.TaggedSink.put.Goals as goal

pub returns-in_err-len-clause-failed : goal.returns-in_err-len-clause-failed
returns-in_err-len-clause-failed g c =
    let p = err_from_is_err_and c.from_residual.result c.from_residual.ensures.1 in
    let done = c.loop-rest.invariant.text in
    let line = c.in_err-len.ensures in
    rw p.1
    (fails_in c.args.self.now.out.ghost_name c.put_line.new.self.out.ghost_name c.args.self.now.tag c.put_line.new.self.tag
    c.args.self.now.since.faults c.put_line.new.self.since.faults
    c.args.self.now.since.taken c.put_line.new.self.since.taken c.args.self.now.since.text c.loop-rest.self.since.text
    c.put_line.new.self.since.text done.0 c.args.bytes.now c.loop-rest.rest.now (line_len c.loop-rest.rest.now)
    (line.same_sink ∙ c.loop-rest.invariant.sink) (line.tag ∙ c.loop-rest.invariant.tag) (line.since.1 ∙ c.loop-rest.invariant.faults)
    (line.since.0 ∙ c.loop-rest.invariant.was)
    done.2 line.text done.1)

pub loop-rest-preserved : goal.loop-rest-preserved
loop-rest-preserved g c =
    let i = c.loop-rest.invariant in
    let e = c.in_ok-len.ensures in
    let rest = c.loop-rest.rest.now in
    let line = take (line_len rest) rest in
    record {
      live = e.failed;
      sink = e.same_sink ∙ i.sink;
      tag = e.tag ∙ i.tag;
      was = e.since.0 ∙ i.was;
      faults = e.since.1 ∙ i.faults;
      text = (
        i.text.0 ++ line,
        goes_on i.text.0 c.args.bytes.now rest c.in_ok-len.len (line_len rest) e.len.0 i.text.1,
        e.text ∙ ap (λ (z : List ℕ). z ++ line) i.text.2 ∙ append_assoc c.args.self.now.since.text i.text.0 line,
      );
    }

pub returns-clause-ok : goal.returns-clause-ok
returns-clause-ok g c =
    let i = c.loop-rest.invariant in
    let self = c.loop-rest.self in
    let old = c.args.self.now in
    all_in old.out.ghost_name self.out.ghost_name old.tag self.tag old.since.faults self.since.faults old.since.taken self.since.taken
    old.since.text self.since.text i.text.0 c.args.bytes.now c.loop-rest.rest.now
    i.sink i.tag i.faults i.was i.text.2 i.text.1
    (nil_from_length c.loop-rest.rest.now (eqb-true (length c.loop-rest.rest.now) 0 (sym c.is_empty.ensures ∙ c.loop-rest-test.false)))
