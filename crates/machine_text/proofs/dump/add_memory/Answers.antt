use Rattle.std.proofs.Common.{ℕ, List, ◌++◌, ◌*◌, ◌+◌, ◌/◌, ap, ◌∙◌, arith}
use Rattle.machine_text.specs.Dump.{dump_line, address, rest_of, memory_text}
use Rattle.machine_text.specs.Views.{seen}
use Rattle.machine_text.proofs.Pieces.{none_below, one_more, all_below}
use Rattle.machine_text.proofs.dump.add_memory.Goals as goal

pub loop-k-init : goal.loop-k-init
loop-k-init g c = none_below _ _

pub loop-k-preserved : goal.loop-k-preserved
loop-k-preserved g c =
    let v = seen g.C.Cache.entries c.args.memory.now in
    one_more c.args.text.now.items (λ k. dump_line v (address c.args.at (16 * k)) (rest_of c.args.len k)) c.loop-k.k c.loop-k.text.items
    _ c.loop-k.invariant
    (c.in_ok-add_line.ensures ∙ (ap (λ (a : ℕ). c.loop-k.text.items ++ dump_line v a c.rest_of.result) c.address.ensures
    ∙ ap (λ (n : ℕ). c.loop-k.text.items ++ dump_line v (address c.args.at (16 * c.loop-k.k)) n) c.rest_of.ensures.rest))

pub returns : goal.returns
unfolding memory_text
returns g c =
    let v = seen g.C.Cache.entries c.args.memory.now in
    all_below c.args.text.now.items (λ k. dump_line v (address c.args.at (16 * k)) (rest_of c.args.len k)) c.loop-k.k
    ((c.args.len + 15) / 16) c.loop-k.text.items c.loop-k.invariant (omega arith)
