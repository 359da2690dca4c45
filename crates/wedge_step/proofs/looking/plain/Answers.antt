use Rattle.std.proofs.Common.{◌≡◌, ℕ, ◌+◌, ◌-◌, inl, inr, List, length, take, drop, ap, ◌∙◌, arith}
use Rattle.wedge_step.specs.Looked.{ground_of}
use Rattle.wedge_step.proofs.Sights.{shown_beside, shown_within}
use Rattle.wedge_step.proofs.looking.plain.Goals as goal

pub returns-then-at-len-clause-bytes : goal.returns-then-at-len-clause-bytes
returns-then-at-len-clause-bytes c =
    let v = c.args.view.now in
    c.part.ensures.bytes ∙ shown_beside (ground_of v) v.ram.now c.args.at c.args.len v.room v.laid c.requires.within (inl c.if-at-len.true)

pub returns-then-at-end-clause-bytes : goal.returns-then-at-end-clause-bytes
returns-then-at-end-clause-bytes c =
    let v = c.args.view.now in
    let long = ap length c.text-text.ensures.text in
    let behind = c.if-at-end.true in
    c.part-then-at-end.ensures.bytes ∙ shown_beside (ground_of v) v.ram.now c.args.at c.args.len v.room v.laid c.requires.within
    (inr (omega (arith, long, behind)))

pub returns-clause-bytes : goal.returns-clause-bytes
returns-clause-bytes c =
    let v = c.args.view.now in
    let from : ℕ = c.args.at - 1048576 in
    let cut : from + c.args.len - from ≡ c.args.len = omega arith in
    let long = ap length c.text-text.ensures.text in
    let low = c.if-at-start.false in
    let high = c.if-at-len-2.false in
    ap (λ (n : ℕ). take n (drop from c.text-text.result.now)) cut
    ∙ (ap (λ (l : List ℕ). take c.args.len (drop from l)) c.text-text.ensures.text
    ∙ shown_within (ground_of v) v.ram.now c.args.at c.args.len v.room v.laid (omega (arith, low)) (omega (arith, high, long)))
