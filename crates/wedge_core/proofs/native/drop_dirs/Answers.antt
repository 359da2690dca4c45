use Rattle.std.proofs.Common.{◌+◌, ◌∙◌, refl}
use Rattle.frame_pool.proofs.Held.{Owns-moves, Moves-refl, Moves-trans}
use Rattle.shadow_tables.proofs.OtherRoots.{same-refl, same-trans}
use Rattle.shadow_tables.specs.Laws.Entries.{entries_of-none}
use Rattle.wedge_core.proofs.Sweeping.{none_below, next_below, none_between, all_below}
use Rattle.wedge_core.proofs.native.drop_dirs.Goals as goal

pub loop-index-init : goal.loop-index-init
loop-index-init g c = record {
  stands = c.requires.stands;
  within = c.next_opened-index.ensures.within;
  gone = none_between _ 0 c.next_opened-index.result c.next_opened-index.ensures.none (none_below _);
  read_from = λ f. refl;
  stale = refl;
  cr3 = refl;
  other_roots = same-refl _;
  has_tables_under = λ indices o. o;
  frames = refl;
  moves = λ p o. Moves-refl p _ _ o.stands;
}

pub loop-index-preserved : goal.loop-index-preserved
loop-index-preserved g c =
    let l = c.loop-index in
    let e = c.drop_dir.ensures in
    let n = c.drop_dir.new in
    let next = c.next_opened-index-in-loop-index.ensures in
    let slots = g.S.Shadows.slots in
    let other_roots = g.S.Shadows.other_roots in
    record {
      stands = e.stands;
      within = next.within;
      gone = none_between (slots n.self n.ram) (l.index + 1) c.next_opened-index-in-loop-index.result next.none
          (next_below (slots l.shadows l.ram) (slots n.self n.ram) l.index e.loses l.invariant.gone);
      read_from = λ f. e.beside.read_from f ∙ l.invariant.read_from f;
      stale = e.beside.stale ∙ l.invariant.stale;
      cr3 = e.beside.cr3 ∙ l.invariant.cr3;
      other_roots = same-trans _ (other_roots l.shadows l.ram) _ l.invariant.other_roots e.beside.other_roots;
      has_tables_under = λ indices o. e.has_tables_under indices (l.invariant.has_tables_under indices o);
      frames = e.frames ∙ l.invariant.frames;
      moves = λ p o.
          let first = l.invariant.moves p o in
          Moves-trans _ _ _ _ _ _ _ _ _ first (e.moves p (Owns-moves _ _ _ _ _ _ o first));
    }

pub returns-clause-none : goal.returns-clause-none
returns-clause-none g c = all_below _ c.loop-index.index c.loop-index-test.false c.loop-index.invariant.gone

pub returns-clause-entries : goal.returns-clause-entries
returns-clause-entries g c = entries_of-none _ (all_below _ c.loop-index.index c.loop-index-test.false c.loop-index.invariant.gone)
