use Rattle.std.proofs.Common.{ap, ◌/◌, arith, Some, ◌∙◌}
use Rattle.shadow_cache.specs.Pairs.{tables_of}
use Rattle.shadow_cache.specs.Roots.{pairs_of}
use Rattle.shadow_cache.proofs.OthersAfter.{others-kept}
use Rattle.shadow_cache.specs.After.{mark_of, noted_of, value_of, slots_of}
use Rattle.shadow_cache.proofs.Openings.{filled-has_tables_under}
use Rattle.shadow_tables.specs.Slots.{filled}
use Rattle.shadow_tables.specs.Seen.{of_pages, turned}
use Rattle.shadow_tables.proofs.Seeing.{turned_pages}
use Rattle.shadow_cache.specs.Laws.{protects-is}
use Rattle.shadow_cache.proofs.SeenCache.{same_seen, same_roots}
use Rattle.shadow_cache.proofs.roots.RootsShadows.fill.Goals as goal

pub returns-clause-sight : goal.returns-clause-sight
returns-clause-sight c =
    let r = c.args.self.now in let n = c.fill.new in let e = c.fill.ensures in
    let f = slots_of (pairs_of r) c.args.ram.now in let f' = slots_of (pairs_of n.self) n.ram in
    same_seen _ _ (turned_pages f f' c.args.entry.page _ c.requires.fits.0 e.fills.turns
    ∙ ap (λ b. turned c.args.entry.page (Some (filled b c.args.side c.args.entry c.args.wp)) (of_pages f))
    (protects-is r.present r.others c.args.ram.now f c.args.entry.frame)) (ap noted_of e.same.0) (ap mark_of e.same.0)
    (ap value_of e.same.0)
    (same_roots _ _ (others-kept r.present r.others (pairs_of n.self) c.args.ram.now n.ram e.same.0 e.same.1))

pub returns-clause-beside : goal.returns-clause-beside
returns-clause-beside c = let r = c.args.self.now in record {
  read_from = λ f. ap (λ ps. noted_of ps f) c.fill.ensures.same.0;
  stale = ap mark_of c.fill.ensures.same.0;
  cr3 = ap value_of c.fill.ensures.same.0;
  other_roots =
      others-kept r.present r.others (pairs_of c.fill.new.self) c.args.ram.now c.fill.new.ram c.fill.ensures.same.0 c.fill.ensures.same.1;
  write_protected = ap tables_of c.fill.ensures.same.0;
}

pub returns-clause-has_tables_under : goal.returns-clause-has_tables_under
returns-clause-has_tables_under c = λ indices may h.
    let r = c.args.self.now in
    let page = c.requires.fits.0 in
    filled-has_tables_under indices r.present r.others (pairs_of c.fill.new.self) c.args.ram.now c.fill.new.ram c.args.side
    (c.args.entry.page / 1024) (omega (arith, page)) c.fill.ensures.same.0 c.fill.ensures.table c.fill.ensures.same.1 may h
