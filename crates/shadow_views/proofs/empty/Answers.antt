use Rattle.std.proofs.Common.{ℕ, ◌+◌, subst, arith}
use Rattle.shadow_views.specs.Tables.{IsOwned, Empties}
use Rattle.shadow_views.proofs.Changes.{IsView-from_owned, IsOwned-empties, empties-none}
use Rattle.shadow_views.proofs.Nones.{emptied-more, empties-over}
use Rattle.shadow_views.proofs.empty.Goals as goal

pub next_dir-d-requires-clause-view : goal.next_dir-d-requires-clause-view
next_dir-d-requires-clause-view c = IsView-from_owned c.args.pool.now c.args.ram.now c.args.root c.requires

pub loop-d-init : goal.loop-d-init
loop-d-init c =
    let p = c.args.pool.now in let m = c.args.ram.now in
    record {
      within = c.next_dir-d.ensures.within;
      empties =
          λ rs o i. empties-over p p m m rs c.args.root 0 c.next_dir-d.result (empties-none p m rs c.args.root o) c.next_dir-d.ensures.none;
    }

pub close-requires-clause-owned : goal.close-requires-clause-owned
close-requires-clause-owned c =
    let o : IsOwned c.args.pool.now c.args.ram.now c.args.root = c.requires in
    IsOwned-empties c.args.pool.now c.loop-d.pool c.args.ram.now c.loop-d.ram c.args.root c.loop-d.d o
    (c.loop-d.invariant.empties o.all o.owns o.root)

pub close-requires-clause-view : goal.close-requires-clause-view
close-requires-clause-view c =
    let o : IsOwned c.args.pool.now c.args.ram.now c.args.root = c.requires in
    IsView-from_owned c.loop-d.pool c.loop-d.ram c.args.root
    (IsOwned-empties c.args.pool.now c.loop-d.pool c.args.ram.now c.loop-d.ram c.args.root c.loop-d.d o
    (c.loop-d.invariant.empties o.all o.owns o.root))

pub next_dir-d-requires-in-loop-d-clause-view : goal.next_dir-d-requires-in-loop-d-clause-view
next_dir-d-requires-in-loop-d-clause-view c =
    let o : IsOwned c.args.pool.now c.args.ram.now c.args.root = c.requires in
    IsView-from_owned c.close.new.pool c.close.new.ram c.args.root
    (IsOwned-empties c.args.pool.now c.close.new.pool c.args.ram.now c.close.new.ram c.args.root (c.loop-d.d + 1) o
    (emptied-more c.args.pool.now c.loop-d.pool c.close.new.pool c.args.ram.now c.loop-d.ram c.close.new.ram c.args.root c.loop-d.d
    c.loop-d-test.true c.loop-d.invariant.empties c.close.ensures.closes o.all o.owns o.root))

pub loop-d-preserved : goal.loop-d-preserved
loop-d-preserved c =
    let next = c.next_dir-d-in-loop-d.ensures in
    record {
      within = next.within;
      empties = λ rs o i.
          empties-over c.args.pool.now c.close.new.pool c.args.ram.now c.close.new.ram rs c.args.root (c.loop-d.d + 1)
          c.next_dir-d-in-loop-d.result
          (emptied-more c.args.pool.now c.loop-d.pool c.close.new.pool c.args.ram.now c.loop-d.ram c.close.new.ram c.args.root c.loop-d.d
          c.loop-d-test.true c.loop-d.invariant.empties c.close.ensures.closes rs o i) next.none;
    }

pub returns : goal.returns
returns c =
    record {
      empties = λ rs o i.
          subst (λ (n : ℕ). Empties c.args.pool.now c.loop-d.pool c.args.ram.now c.loop-d.ram rs c.args.root n)
          (let a = c.loop-d.invariant.within in let b = c.loop-d-test.false in omega (arith, a, b)) (c.loop-d.invariant.empties rs o i);
    }
