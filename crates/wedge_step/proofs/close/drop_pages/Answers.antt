use Rattle.std.proofs.Common.{get_or, refl, ap, ◌∙◌}
use Rattle.frame_pool.proofs.Held.{Owns-moves, Moves-refl, Moves-trans}
use Rattle.wedge_step.specs.Sight.{one_dropped}
use Rattle.wedge_step.proofs.Dropping.{next_dropped}
use Rattle.wedge_step.proofs.close.drop_pages.Goals as goal

pub loop-page-init : goal.loop-page-init
loop-page-init g c =
    record { stands = c.requires.stands; sight = refl; has_tables_under = λ indices o. o; moves = λ p o. Moves-refl p _ _ o.stands }

pub loop-page-preserved : goal.loop-page-preserved
loop-page-preserved g c =
    let l = c.loop-page in
    let e = c.drop_one.ensures in
    let pages = c.args.pages.now in
    record {
      stands = e.stands;
      sight = e.sight ∙ ap (one_dropped (get_or pages l.page-index 0)) l.invariant.sight
          ∙ next_dropped pages l.page-index c.loop-page-test.true (g.S.Shadows.sight c.args.shadows.now c.args.ram.now);
      has_tables_under = λ indices o. e.has_tables_under indices (l.invariant.has_tables_under indices o);
      moves = λ p o. let first = l.invariant.moves p o in Moves-trans _ _ _ _ _ _ _ _ _ first (e.moves p (Owns-moves _ _ _ _ _ _ o first));
    }
