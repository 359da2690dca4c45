use Rattle.std.proofs.Common.{◌≡◌, true, false, refl, ap, subst, arith}
use Rattle.std.proofs.lemmas.Bool.{both_ways}
use Rattle.shadow_tables.specs.declared.words.Side.{Side}
use Rattle.wedge_step.specs.Stand.{FillsIn, stand}
use Rattle.wedge_step.proofs.FrameCounts.{all_fit, all_but}
use Rattle.wedge_step.proofs.Filling.{fills_fewer, held_by}
use Rattle.wedge_step.proofs.single.settle_used.Goals as goal

pub returns-in-None-clause-ready : goal.returns-in-None-clause-ready
returns-in-None-clause-ready g c = λ out m cpu frames h. c.settle_or_drop-settled.ensures.ready out m cpu frames h

pub returns-in-Some-clause-ready : goal.returns-in-Some-clause-ready
returns-in-Some-clause-ready g c = λ out m cpu frames h. c.settle_or_drop-settled.ensures.ready out m cpu frames h

pub returns-in-None-clause-has_tables_under : goal.returns-in-None-clause-has_tables_under
returns-in-None-clause-has_tables_under g c = λ indices all o. c.settle_or_drop-settled.ensures.has_tables_under indices all o

pub returns-in-Some-clause-has_tables_under : goal.returns-in-Some-clause-has_tables_under
returns-in-Some-clause-has_tables_under g c = λ indices all o. c.settle_or_drop-settled.ensures.has_tables_under indices all o

pub returns-in-None-clause-whole : goal.returns-in-None-clause-whole
returns-in-None-clause-whole g c = λ may.
    let whole = rw c.side_of-side.ensures at c.settle_or_drop-settled.ensures.whole in
    absurd (both_ways (Rattle.std.specs.Prelude.is_none c.settle_or_drop-settled.result) (whole may).0
    (ap Rattle.std.specs.Prelude.is_none c.in-None.is))

pub returns-in-Some-clause-whole : goal.returns-in-Some-clause-whole
returns-in-Some-clause-whole g c = λ may.
    let whole = rw c.side_of-side.ensures at c.settle_or_drop-settled.ensures.whole in
    (refl, (whole may).1)

pub returns-in-None-clause-shows : goal.returns-in-None-clause-shows
returns-in-None-clause-shows g c = c.settle_or_drop-settled.ensures.shows

pub returns-in-None-clause-opens : goal.returns-in-None-clause-opens
returns-in-None-clause-opens g c = c.settle_or_drop-settled.ensures.opens

pub returns-in-Some-clause-shows : goal.returns-in-Some-clause-shows
returns-in-Some-clause-shows g c = c.settle_or_drop-settled.ensures.shows

pub returns-in-Some-clause-opens : goal.returns-in-Some-clause-opens
returns-in-Some-clause-opens g c = c.settle_or_drop-settled.ensures.opens

pub settle_or_drop-settled-requires : goal.settle_or_drop-settled-requires
settle_or_drop-settled-requires g c = record { sound = c.requires.under.sound }

pub returns-in-None-clause-moved : goal.returns-in-None-clause-moved
returns-in-None-clause-moved g c = c.settle_or_drop-settled.ensures.moved

pub returns-in-None-clause-same : goal.returns-in-None-clause-same
returns-in-None-clause-same g c = record { before = refl; reloaded = refl; same = refl }

pub returns-in-Some-clause-moved : goal.returns-in-Some-clause-moved
returns-in-Some-clause-moved g c = c.settle_or_drop-settled.ensures.moved

pub returns-in-Some-clause-same : goal.returns-in-Some-clause-same
returns-in-Some-clause-same g c = record { before = refl; reloaded = refl; same = refl }

pub returns-in-None-clause-told : goal.returns-in-None-clause-told
returns-in-None-clause-told g c =
    record { same_cr3 = c.settle_or_drop-settled.ensures.cr3; tells = λ after. absurd (let f : true ≡ false = after in cc) }

pub returns-in-Some-clause-told : goal.returns-in-Some-clause-told
returns-in-Some-clause-told g c = record {
  same_cr3 = c.settle_or_drop-settled.ensures.cr3;
  tells = λ after. c.settle_or_drop-settled.ensures.told (ap Rattle.std.specs.Prelude.is_none c.in-Some.is);
}

pub returns-in-None-clause-counts : goal.returns-in-None-clause-counts
returns-in-None-clause-counts g c = record {
  counted = held_by _ _ _ _ _ _ _ (c.free.ensures.count c.args.ram.now) c.requires.under.counted
      (c.free-2.ensures.count c.settle_or_drop-settled.new.ram) c.settle_or_drop-settled.ensures.moved.moves.lengths;
  fills = omega arith;
  exact = (0, omega arith, refl);
  filled = let none =
      c.settle_or_drop-settled.ensures.fewer (ap Rattle.std.specs.Prelude.is_none c.in-None.is) in fills_fewer _ _ _ (omega (arith, none));
}

pub returns-in-Some-clause-counts : goal.returns-in-Some-clause-counts
returns-in-Some-clause-counts g c =
    let e = c.in-Some.ensures.filled in
    let few = e.few in
    let more = e.filled in
    record {
      counted = held_by _ _ _ _ _ _ _ (c.free.ensures.count c.args.ram.now) c.requires.under.counted
          (c.free-2.ensures.count c.settle_or_drop-settled.new.ram) c.settle_or_drop-settled.ensures.moved.moves.lengths;
      fills = omega (arith, few);
      exact = (
        c.in-Some.filled,
        omega arith,
        subst (λ (side : Side). FillsIn g.S.Shadows side (stand c.args.running.now.shadows c.args.pool.now c.args.ram.now) c.args.state.now
            c.in-Some.filled) c.side_of-side.ensures e.exact,
      );
      filled = record { rises = omega arith; enough = omega (arith, more) };
    }

pub overflow_add-all : goal.overflow_add-all
overflow_add-all g c = let fit =
    all_fit _ _ _ _ (c.free.ensures.count c.args.ram.now) c.requires.under.counted c.requires.under.few in omega (arith, fit)

pub overflow_sub-running : goal.overflow_sub-running
overflow_sub-running g c =
    let low = all_but _ _ _ _ _ _ _ (c.free.ensures.count c.args.ram.now) c.requires.under.counted
    (c.free-2.ensures.count c.settle_or_drop-settled.new.ram) c.settle_or_drop-settled.ensures.moved.moves.lengths in
    omega (arith, low)
