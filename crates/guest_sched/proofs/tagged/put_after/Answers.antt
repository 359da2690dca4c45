use Rattle.std.proofs.Common.{◌≡◌, ◌∙◌, ℕ, List, ◌++◌, Option, Result, Ok, Err}
use Rattle.std.specs.Prelude.{OnErr, OnOk}
use Rattle.pv_io.specs.Causes.{Rose}
use Rattle.pv_io.specs.Sink.{Appends, AppendsFront}
use Rattle.guest_sched.proofs.Puts.{both, then_front, front_of_both}
use Rattle.guest_sched.proofs.Takes.{rose_more}
use Rattle.guest_sched.proofs.tagged.put_after.Goals as goal

-- after a first put that was done
both_done : {T E : Type 0} (result : Result T E) (old mid new : Option (List ℕ)) (xs ys : List ℕ) → Appends old mid xs
    → OnOk result (Appends mid new ys) → OnOk result (Appends old new (xs ++ ys))
both_done (Ok done) old mid new xs ys first second = both old mid new xs ys first second
both_done (Err failed) old mid new xs ys first second = tt

then_begun : {T E : Type 0} (result : Result T E) (old mid new : Option (List ℕ)) (xs ys : List ℕ) → Appends old mid xs
    → OnErr result (AppendsFront mid new ys) → OnErr result (AppendsFront old new (xs ++ ys))
then_begun (Ok done) old mid new xs ys first second = tt
then_begun (Err failed) old mid new xs ys first second = then_front old mid new xs ys first second

then_kept : {T E : Type 0} (result : Result T E) (a b c : ℕ) → b ≡ a → OnOk result (c ≡ b) → OnOk result (c ≡ a)
then_kept (Ok done) a b c first second = second ∙ first
then_kept (Err failed) a b c first second = tt

then_rose : {T E : Type 0} (result : Result T E) (a b c : ℕ) → b ≡ a → OnErr result (Rose b c) → OnErr result (Rose a c)
then_rose (Ok done) a b c first rose = tt
then_rose (Err failed) a b c first rose = rose_more a b c first rose

pub returns-then-begun-clause-ok : goal.returns-then-begun-clause-ok
returns-then-begun-clause-ok g c = rw c.if-begun.true c.put.ensures.ok

pub returns-then-begun-clause-failed : goal.returns-then-begun-clause-failed
returns-then-begun-clause-failed g c = rw c.if-begun.true c.put.ensures.failed

pub returns-then-begun-clause-kept : goal.returns-then-begun-clause-kept
returns-then-begun-clause-kept g c = c.put.ensures.kept

pub returns-then-begun-clause-cause : goal.returns-then-begun-clause-cause
returns-then-begun-clause-cause g c = c.put.ensures.cause

pub returns-in-Ok-clause-ok : goal.returns-in-Ok-clause-ok
returns-in-Ok-clause-ok g c =
    rw c.if-begun.false
    (both_done c.put-in-Ok.result (g.O.Sink.taken c.args.out.now) (g.O.Sink.taken c.put-2.new.self) (g.O.Sink.taken c.put-in-Ok.new.self)
    c.args.tag.now c.args.line.now c.in-Ok.ensures.ok c.put-in-Ok.ensures.ok)

pub returns-in-Ok-clause-failed : goal.returns-in-Ok-clause-failed
returns-in-Ok-clause-failed g c =
    rw c.if-begun.false
    (then_begun c.put-in-Ok.result (g.O.Sink.taken c.args.out.now) (g.O.Sink.taken c.put-2.new.self) (g.O.Sink.taken c.put-in-Ok.new.self)
    c.args.tag.now c.args.line.now c.in-Ok.ensures.ok c.put-in-Ok.ensures.failed)

pub returns-in-Ok-clause-kept : goal.returns-in-Ok-clause-kept
returns-in-Ok-clause-kept g c =
    then_kept c.put-in-Ok.result (g.O.Sink.faults c.args.out.now) (g.O.Sink.faults c.put-2.new.self) (g.O.Sink.faults c.put-in-Ok.new.self)
    c.in-Ok.ensures.kept c.put-in-Ok.ensures.kept

pub returns-in-Ok-clause-cause : goal.returns-in-Ok-clause-cause
returns-in-Ok-clause-cause g c =
    then_rose c.put-in-Ok.result (g.O.Sink.faults c.args.out.now) (g.O.Sink.faults c.put-2.new.self) (g.O.Sink.faults c.put-in-Ok.new.self)
    c.in-Ok.ensures.kept c.put-in-Ok.ensures.cause

pub returns-in-Err-clause-failed : goal.returns-in-Err-clause-failed
returns-in-Err-clause-failed g c =
    rw c.if-begun.false (front_of_both (g.O.Sink.taken c.args.out.now) (g.O.Sink.taken c.put-2.new.self) c.args.tag.now c.args.line.now
    c.in-Err.ensures.failed)

pub returns-in-Err-clause-cause : goal.returns-in-Err-clause-cause
returns-in-Err-clause-cause g c = c.in-Err.ensures.cause
