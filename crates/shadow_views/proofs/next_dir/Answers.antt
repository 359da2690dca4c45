use Rattle.std.proofs.Common.{◌*◌, ◌/◌, arith}
use Rattle.shadow_views.proofs.Nones.{none-dirs, dirs-there}
use Rattle.shadow_views.proofs.next_dir.Goals as goal

pub next_pair-requires-clause-lies : goal.next_pair-requires-clause-lies
next_pair-requires-clause-lies c = c.requires.view.root

pub returns-clause-none : goal.returns-clause-none
returns-clause-none c = λ d low high.
    let first = c.args.from in
    let most = c.max.ensures in
    none-dirs c.args.ram.now c.args.root (2 * (first / 2)) (2 * c.next_pair.result) c.next_pair.ensures.none d (omega (arith, low))
    (omega (arith, low, high, most))

pub returns-clause-found : goal.returns-clause-found
returns-clause-found c = λ few low high.
    let pair = c.next_pair.result in
    let behind = c.next_pair.ensures.behind in
    let most = c.max.ensures in
    dirs-there c.args.ram.now c.args.root pair c.max.result (omega (arith, behind, few, most))
    (c.next_pair.ensures.found (omega (arith, few, most))) low high
