use Rattle.std.proofs.Common.{◌≡◌, sym, ◌∙◌, ap, Some, arith}
use Rattle.image_check.proofs.SiteSteps.{no_site, differ-wrong, differ-right_so_far, differ-left, differ-right, differ-end}
use Rattle.image_check.proofs.site.differ.Goals as goal

pub returns-then-not-is_same : goal.returns-then-not-is_same
returns-then-not-is_same c =
    ap (λ n. Some n) c.min.ensures
    ∙ sym (differ-wrong c.args.a.now c.args.b.now c.loop-i.i no_site (omega arith) (omega arith)
    (sym c.is_same.ensures ∙ c.if-not-is_same.true))
    ∙ c.loop-i.invariant

pub loop-i-preserved : goal.loop-i-preserved
loop-i-preserved c =
    sym (differ-right_so_far c.args.a.now c.args.b.now c.loop-i.i no_site (omega arith) (omega arith)
    (sym c.is_same.ensures ∙ c.if-not-is_same.false)) ∙ c.loop-i.invariant

pub returns-then-both-a : goal.returns-then-both-a
returns-then-both-a c =
    let all : c.min-both.result ≡ c.loop-i.i = omega arith in
    rw all (sym (differ-left c.args.a.now c.args.b.now c.loop-i.i no_site (omega arith) (omega arith)) ∙ c.loop-i.invariant)

pub returns-then-both-b : goal.returns-then-both-b
returns-then-both-b c =
    let all : c.min-both.result ≡ c.loop-i.i = omega arith in
    rw all (sym (differ-right c.args.a.now c.args.b.now c.loop-i.i no_site (omega arith) (omega arith)) ∙ c.loop-i.invariant)

pub returns : goal.returns
returns c = sym (differ-end c.args.a.now c.args.b.now c.loop-i.i (omega arith) (omega arith)) ∙ c.loop-i.invariant
